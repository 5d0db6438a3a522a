-- the difference as std's checked subtraction gives it
use Rattle.std.proofs.Common.{rules}
use Rattle.days.specs.Days.{gap_of}
use Rattle.days.proofs.Day.since.Goals as goal

pub returns : goal.returns
unfolding gap_of
returns c = search rules
