-- Each string is lawful.
use Rattle.base.proofs.Prelude.{ap, arith}
use Rattle.base.specs.Count.{largest}
use Rattle.rules.specs.Demand.{blocker_hold}
use Rattle.verdict.proofs.StringSums.{walk-string, largest-here, largest-done}
use Rattle.verdict.proofs.ready.ReadyPlan.longest_blocker.Goals as goal

pub loop-s-init : goal.loop-s-init
loop-s-init c =
    let same = ap (largest (blocker_hold c.args.self.plan c.args.l)) c.strings-s-items.ensures in
    record { all = c.strings-s-items.ensures; rest = omega (arith, same) }

pub blocker-requires : goal.blocker-requires
blocker-requires c = walk-string c.args.self.plan c.args.self.ready _ c.loop-s.invariant.all _ c.loop-s-test.true

pub loop-s-preserved : goal.loop-s-preserved
loop-s-preserved c =
    let next = largest-here _ _ (blocker_hold c.args.self.plan c.args.l) c.loop-s-test.true in
    record { all = c.loop-s.invariant.all; rest = omega (arith, c.blocker.ensures, next) }

pub returns : goal.returns
returns c =
    let none = largest-done _ _ (blocker_hold c.args.self.plan c.args.l) c.loop-s-test.false in
    omega (arith, none)
