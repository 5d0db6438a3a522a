-- Each share is small.
use Rattle.base.proofs.Prelude.{ℕ, ◌*◌, ◌/◌, ◌≤◌, ap, ◌∙◌, arith, get_or}
use Rattle.base.specs.Count.{sum_of}
use Rattle.rules.specs.{declared.BatteryString.BatteryString, Plan.{no_string, multiple_of}, Demand.{hold_of, load}}
use Rattle.verdict.proofs.{Blocking.share-le, StringSums.{walk-few, walk-string, sum-here, sum-done}}
use Rattle.verdict.proofs.ready.ReadyPlan.load.Goals as goal

pub loop-s-init : goal.loop-s-init
unfolding load
loop-s-init c =
    let p = c.args.self.plan in
    record {
      all = c.strings-s-items.ensures;
      few = omega arith;
      rest = omega (arith, ap (sum_of (λ s. hold_of p s * (multiple_of p / s.t.0))) c.strings-s-items.ensures);
    }

pub period_share-load-requires-clause-plan_string : goal.period_share-load-requires-clause-plan_string
period_share-load-requires-clause-plan_string c =
    walk-string c.args.self.plan c.args.self.ready _ c.loop-s.invariant.all _ c.loop-s-test.true

pub period_share-load-requires-clause-h_bound : goal.period_share-load-requires-clause-h_bound
period_share-load-requires-clause-h_bound c = omega (arith, c.args.self.multiple_is, c.args.self.ready.lawful.h_max)

pub overflow_add-load : goal.overflow_add-load
overflow_add-load c =
    let p = c.args.self.plan in
    let ready = c.args.self.ready in
    let all = c.loop-s.invariant.all in
    let within : c.args.self.multiple ≤ 100000 = omega (arith, c.args.self.multiple_is, ready.lawful.h_max) in
    let small = share-le p c.args.self.multiple _ (walk-string p ready _ all _ c.loop-s-test.true) within in
    omega (arith, c.period_share-load.ensures, small, walk-few p ready _ all)

pub loop-s-preserved : goal.loop-s-preserved
loop-s-preserved c =
    let p = c.args.self.plan in
    let ready = c.args.self.ready in
    let all = c.loop-s.invariant.all in
    let s = get_or c.strings-s-items.result.now c.loop-s.s-index no_string in
    let within : c.args.self.multiple ≤ 100000 = omega (arith, c.args.self.multiple_is, ready.lawful.h_max) in
    let small = share-le p c.args.self.multiple _ (walk-string p ready _ all _ c.loop-s-test.true) within in
    let f : BatteryString → ℕ = λ s. hold_of p s * (multiple_of p / s.t.0) in
    let next = sum-here _ _ f c.loop-s-test.true in
    let share = c.period_share-load.ensures ∙ ap (λ h. hold_of p s * (h / s.t.0)) c.args.self.multiple_is in
    record { all = all; few = omega (arith, c.period_share-load.ensures, small); rest = omega (arith, share, next) }

pub returns : goal.returns
returns c =
    let p = c.args.self.plan in
    let f : BatteryString → ℕ = λ s. hold_of p s * (multiple_of p / s.t.0) in
    omega (arith, sum-done _ _ f c.loop-s-test.false)
