-- a round less is left after each
use Rattle.tries.proofs.Charging.{rounds_start, rounds-next, rounds-end}
use Rattle.tries.proofs.payable.payable_plan.Goals as goal

pub loop-init : goal.loop-init
loop-init c = rounds_start c.args.p c.requires

pub round-left-requires : goal.round-left-requires
round-left-requires c = c.loop.invariant.ready

pub loop-preserved : goal.loop-preserved
loop-preserved c = rounds-next c.loop.invariant c.loop-test.true _ c.round-left.ensures

pub returns : goal.returns
returns c = rounds-end c.loop.invariant c.loop-test.false
