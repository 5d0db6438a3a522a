-- The list has been checked as far as the loop has come.
use Rattle.std.proofs.Common.{drop}
use Rattle.visits.proofs.Reached.{Far}
use Rattle.visits.proofs.check_visits.Given as goal

abbrev pub invariant-loop-i : goal.invariant-loop-i
invariant-loop-i l = Far l.fn.p l.fn.rs l.visits l.i (drop l.i l.visits) l.book
