-- the places are tried one after the other
use Rattle.base.proofs.Prelude.{arith}
use Rattle.tries.specs.Tries.{paid_tries}
use Rattle.tries.proofs.Searching.{tries-left-next, left-none, left-last, finds_here}
use Rattle.tries.proofs.search.paid.Goals as goal

pub returns-in-Some : goal.returns-in-Some
unfolding paid_tries
returns-in-Some c = finds_here c.loop-k.invariant c.loop-k-test.true _ c.in-Some.ensures

pub loop-k-preserved : goal.loop-k-preserved
loop-k-preserved c = tries-left-next c.loop-k.invariant c.loop-k-test.true c.in_default.ensures

pub returns : goal.returns
unfolding paid_tries
returns c = left-none c.loop-k.invariant c.loop-k-test.false

pub returns-in_default : goal.returns-in_default
unfolding paid_tries
returns-in_default c = left-last c.loop-k.invariant c.loop-k-test.true (omega arith) c.in_default.ensures
