-- the cells so far stand at the head of the part
use Rattle.writing.proofs.Frames.{WritingStanding}
use Rattle.writing.proofs.cells.put_frame.Given as goal

abbrev pub invariant-loop-cell : goal.invariant-loop-cell
invariant-loop-cell l = WritingStanding l.initial.part l.cells l.part l.at l.cell-index
