-- the sum as std's checked addition gives it
use Rattle.std.proofs.Common.{rules}
use Rattle.days.specs.Days.{later_of}
use Rattle.days.proofs.Day.plus.Goals as goal

pub returns : goal.returns
unfolding later_of
returns c = search rules
