-- What is handed out are the visits of the stints so far.
use Rattle.visits.proofs.Joining.{HandedTo}
use Rattle.visits.proofs.own.joined.Given as goal

abbrev pub invariant-loop-i : goal.invariant-loop-i
invariant-loop-i l = HandedTo l.numbers l.i l.own
