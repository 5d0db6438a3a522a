-- the rounds that are left, of the plan so far, make the payable plan
use Rattle.tries.proofs.Charging.{Rounds}
use Rattle.tries.proofs.payable.payable_plan.Given as goal

abbrev pub invariant-loop : goal.invariant-loop
invariant-loop l = Rounds l.fn.p l.left l.counter
