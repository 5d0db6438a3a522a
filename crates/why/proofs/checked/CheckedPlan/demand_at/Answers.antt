-- each string asks what is its own
use Rattle.base.proofs.Prelude.{ℕ, ◌+◌, ◌≤◌, ◌<◌, ◌≡◌, sym, ap, ◌∙◌, arith, List, length, get_or}
use Rattle.rules.specs.{declared.BatteryString.BatteryString, Plan.no_string, Demand.need}
use Rattle.laws.proofs.Lawful.{PlanString}
use Rattle.why.proofs.Walking.{why-strings-few, why-string-there, ask-small, why-asked-none, why-asked-next, asked-all}
use Rattle.why.proofs.checked.CheckedPlan.demand_at.Goals as goal

pub loop-s-init : goal.loop-s-init
loop-s-init c = record {
  counted = c.strings-s-items.ensures.exact;
  asked = rw c.from-sum.ensures (why-asked-none c.args.self.now c.args.l c.args.b);
}

pub share-sum-requires : goal.share-sum-requires
share-sum-requires c =
    let inside = rw c.loop-s.invariant.counted at c.loop-s-test.true in
    rw c.loop-s.invariant.counted (why-string-there c.args.self.now c.loop-s.s-index inside)

pub overflow_add-sum : goal.overflow_add-sum
overflow_add-sum c =
    let p = c.args.self.now in
    let inside = rw c.loop-s.invariant.counted at c.loop-s-test.true in
    let asks = rw c.loop-s.invariant.counted at c.share-sum.ensures.exact in
    let small = ask-small p c.args.l c.args.b c.loop-s.s-index c.share-sum.result inside (omega arith) asks in
    omega (arith, why-strings-few p, c.loop-s.invariant.asked.small)

pub loop-s-preserved : goal.loop-s-preserved
loop-s-preserved c =
    let p = c.args.self.now in
    let inside = rw c.loop-s.invariant.counted at c.loop-s-test.true in
    let asks = rw c.loop-s.invariant.counted at c.share-sum.ensures.exact in
    record {
      counted = c.loop-s.invariant.counted;
      asked = why-asked-next p c.args.l c.args.b c.loop-s.sum c.loop-s.s-index c.share-sum.result c.loop-s.invariant.asked inside
          (omega arith)
          asks;
    }

pub returns : goal.returns
returns c =
    let past = rw c.loop-s.invariant.counted at c.loop-s-test.false in
    record { exact = asked-all c.args.self.now c.args.l c.args.b c.loop-s.sum c.loop-s.s-index c.loop-s.invariant.asked past }
