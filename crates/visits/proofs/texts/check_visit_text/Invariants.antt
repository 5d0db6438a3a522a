-- The text has been read as far as the loop has come.
use Rattle.std.proofs.Common.{◌-◌, length}
use Rattle.visits.proofs.Lines.{Walked}
use Rattle.visits.proofs.texts.check_visit_text.Given as goal

abbrev pub invariant-loop-at : goal.invariant-loop-at
invariant-loop-at l = Walked l.fn.p l.fn.rs l.text l.line l.at l.broken l.book

abbrev pub decreases-loop-at : goal.decreases-loop-at
decreases-loop-at l = length l.text - l.at
