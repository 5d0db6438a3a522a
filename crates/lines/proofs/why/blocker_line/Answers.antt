use Rattle.rules.specs.Lines.{bytes_of}
use Rattle.lines.specs.Why.{blocker_line}
use Rattle.lines.proofs.why.blocker_line.Goals as goal

pub returns : goal.returns
unfolding bytes_of blocker_line
returns c = record { exact = rw c.saturating_sub.ensures at c.lone_line.ensures.exact }
