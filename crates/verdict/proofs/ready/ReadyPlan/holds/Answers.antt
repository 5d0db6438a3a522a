-- The next string is lawful, and passed.
use Rattle.base.proofs.Prelude.{refl, ap, ◌∙◌, arith, set}
use Rattle.verdict.proofs.{StringSums.{walk-few, walk-string}, Holding.{holds_more, holds-all}}
use Rattle.verdict.proofs.ready.ReadyPlan.holds.Goals as goal

pub loop-i-init : goal.loop-i-init
loop-i-init c = record { all = c.strings-s-items.ensures; done = refl }

pub hold-requires : goal.hold-requires
hold-requires c = walk-string c.args.self.plan c.args.self.ready _ c.loop-i.invariant.all _ c.loop-i-test.true

pub offset_bounds-holds-i : goal.offset_bounds-holds-i
offset_bounds-holds-i c = omega (arith, walk-few c.args.self.plan c.args.self.ready _ c.loop-i.invariant.all)

pub bounds-holds-i : goal.bounds-holds-i
bounds-holds-i c = omega (arith, walk-few c.args.self.plan c.args.self.ready _ c.loop-i.invariant.all)

pub loop-i-preserved : goal.loop-i-preserved
loop-i-preserved c =
    let p = c.args.self.plan in
    let all = c.loop-i.invariant.all in
    let more = holds_more p c.args.self.ready _ all c.loop-i.i c.loop-i-test.true _ c.hold.ensures in
    record { all = all; done = ap (λ holds. set holds c.loop-i.i c.hold.result) c.loop-i.invariant.done ∙ more }

pub returns : goal.returns
returns c = c.loop-i.invariant.done ∙ holds-all c.args.self.plan c.args.self.ready _ c.loop-i.invariant.all c.loop-i.i c.loop-i-test.false
