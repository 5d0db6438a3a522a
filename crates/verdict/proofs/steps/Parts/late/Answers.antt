-- A walk from step to step, with the count of pairs before it, finds what a walk over all finds.
use Rattle.base.proofs.Prelude.{◌+◌, ◌-◌, ◌≤◌, ◌<◌, ◌≡◌, sym, ap, ◌∙◌, arith}
use Rattle.days.specs.Days.{days}
use Rattle.rules.specs.{declared.Verdict.TheVariants.Fail, Plan.{multiple_of}, Demand.demand}
use Rattle.base.specs.Count.{keep}
use Rattle.demand.proofs.Pairs.{rows, scan_from}
use Rattle.demand.specs.Quick.{grows}
use Rattle.verdict.proofs.{Asked.asked_by-le, Onward.{onto-soonest, d_max-pos, demand-unblocked, onward-start, onward-bad, onward-good, onward-end}}
use Rattle.laws.proofs.Lawful.{d_max-le}
use Rattle.verdict.proofs.steps.Parts.late.Goals as goal

pub overflow_add-end : goal.overflow_add-end
overflow_add-end c =
    let r = c.args.self.now.ready in
    omega (arith, r.last_is, r.multiple_is, r.ready.lawful.h_max, d_max-le r.plan r.ready.lawful)

pub overflow_sub-self : goal.overflow_sub-self
overflow_sub-self c =
    let r = c.args.self.now.ready in
    omega (arith, r.last_is, d_max-pos r.plan r.ready)

pub overflow_sub-self-2 : goal.overflow_sub-self-2
overflow_sub-self-2 c =
    let r = c.args.self.now.ready in
    omega (arith, r.last_is, d_max-pos r.plan r.ready)

pub overflow_sub-self-3 : goal.overflow_sub-self-3
overflow_sub-self-3 c =
    let r = c.args.self.now.ready in
    omega (arith, r.last_is, d_max-pos r.plan r.ready)

pub overflow_sub-self-4 : goal.overflow_sub-self-4
overflow_sub-self-4 c =
    let r = c.args.self.now.ready in
    omega (arith, r.last_is, d_max-pos r.plan r.ready)

pub steps_after-next-requires : goal.steps_after-next-requires
steps_after-next-requires c =
    let r = c.args.self.now.ready in
    omega (arith, r.last_is, d_max-le r.plan r.ready.lawful)

pub asked_by-requires : goal.asked_by-requires
asked_by-requires c =
    let r = c.args.self.now.ready in
    omega (arith, r.last_is, d_max-le r.plan r.ready.lawful)

pub asked_by-requires-2 : goal.asked_by-requires-2
asked_by-requires-2 c =
    let r = c.args.self.now.ready in
    omega (arith, r.last_is, d_max-le r.plan r.ready.lawful)

pub first_step-l-requires : goal.first_step-l-requires
first_step-l-requires c =
    let r = c.args.self.now.ready in
    omega (arith, r.last_is, d_max-le r.plan r.ready.lawful)

pub overflow_add-demand : goal.overflow_add-demand
overflow_add-demand c =
    let r = c.args.self.now.ready in
    let lawful = r.ready.lawful in
    let low : r.last - 1 ≤ 101000 = omega (arith, r.last_is, d_max-le r.plan lawful) in
    omega (
      arith,
      c.asked_by.ensures,
      c.asked_by-2.ensures,
      asked_by-le r.plan 0 (r.last - 1) lawful low,
      asked_by-le r.plan 1 (r.last - 1) lawful low,
    )

-- the walk starts at the first step from the largest D on
pub loop-l-init : goal.loop-l-init
loop-l-init c =
    let r = c.args.self.now.ready in
    let p = r.plan in
    let lawful = r.ready.lawful in
    let top = r.last_is in
    let multiple = r.multiple_is in
    let pos = d_max-pos p r.ready in
    let end = r.last + r.multiple in
    let before-end : r.last - 1 < end = omega (arith, top) in
    let there = onto-soonest p r.ready (r.last - 1) end _ _ before-end c.first_step-l.ensures c.steps_after-next.ensures in
    let past = there.past in
    let left : end - r.last ≡ multiple_of p = omega arith in
    record {
      low = omega (arith, top);
      upto = there.within;
      short = omega (arith, top, lawful.h_max, d_max-le p lawful);
      few = omega (arith, top, c.requires);
      due = there.due;
      asked = omega (arith, c.asked_by.ensures, c.asked_by-2.ensures, there.asked 0, there.asked 1);
      looked = there.looked;
      rest = sym (onward-start p c.args.before r.last _ _ (omega (arith, top)) (omega arith) there.within
          (λ w low high. there.still w (omega arith) high))
          ∙ ap (λ m. scan_from p c.args.before (keep (grows p) (rows p r.last m))) left
          ∙ ap (λ l. scan_from p c.args.before (keep (grows p) (rows p l (multiple_of p)))) top;
    }

pub advance-step-requires-clause-le_l : goal.advance-step-requires-clause-le_l
advance-step-requires-clause-le_l c = omega (arith, d_max-pos c.args.self.now.ready.plan c.args.self.now.ready.ready)

pub overflow_add-demand-in-loop-l : goal.overflow_add-demand-in-loop-l
overflow_add-demand-in-loop-l c =
    let r = c.args.self.now.ready in
    let l = c.loop-l.l in
    let low : l ≤ 101000 = omega arith in
    omega (
      arith,
      c.advance-step.ensures.keepers,
      c.advance-step.ensures.takers,
      asked_by-le r.plan 0 l r.ready.lawful low,
      asked_by-le r.plan 1 l r.ready.lawful low,
    )

pub overflow_add-demand-in-loop-l-2 : goal.overflow_add-demand-in-loop-l-2
overflow_add-demand-in-loop-l-2 c =
    let r = c.args.self.now.ready in
    let l = c.loop-l.l in
    let low : l ≤ 101000 = omega arith in
    omega (
      arith,
      c.loop-l.invariant.asked,
      c.advance-step.ensures.keepers,
      c.advance-step.ensures.takers,
      asked_by-le r.plan 0 l r.ready.lawful low,
      asked_by-le r.plan 1 l r.ready.lawful low,
    )

pub returns-then-l-demand : goal.returns-then-l-demand
returns-then-l-demand c =
    let r = c.args.self.now.ready in
    let p = r.plan in
    let loop = c.loop-l in
    let sum : loop.demand + (c.advance-step.result.keepers + c.advance-step.result.takers) ≡ demand p loop.l 0 =
    omega (
      arith,
      loop.invariant.asked,
      c.advance-step.ensures.keepers,
      c.advance-step.ensures.takers,
      demand-unblocked p loop.l r.ready.lawful,
    ) in
    let bad : loop.l < demand p loop.l 0 = omega (arith, sum, c.if-l-demand.true) in
    ap (λ d. Fail (days loop.l) (days 0) (days d) (loop.pairs + 1)) sum
    ∙ sym (onward-bad p loop.pairs loop.l _ c.loop-l-test.true (loop.invariant.looked c.loop-l-test.true) bad)
    ∙ loop.invariant.rest

pub loop-l-smaller : goal.loop-l-smaller
loop-l-smaller c =
    let r = c.args.self.now.ready in
    let onto = onto-soonest r.plan r.ready _ _ _ _ c.loop-l-test.true c.advance-step.ensures.soonest c.advance-step.ensures.due in
    let past = onto.past in
    omega (arith, onto.within)

pub loop-l-preserved : goal.loop-l-preserved
loop-l-preserved c =
    let r = c.args.self.now.ready in
    let p = r.plan in
    let loop = c.loop-l in
    let inv = loop.invariant in
    let onto = onto-soonest p r.ready _ _ _ _ c.loop-l-test.true c.advance-step.ensures.soonest c.advance-step.ensures.due in
    let past = onto.past in
    let sum : loop.demand + (c.advance-step.result.keepers + c.advance-step.result.takers) ≡ demand p loop.l 0 =
    omega (
      arith,
      inv.asked,
      c.advance-step.ensures.keepers,
      c.advance-step.ensures.takers,
      demand-unblocked p loop.l r.ready.lawful,
    ) in
    let good : demand p loop.l 0 ≤ loop.l = omega (arith, sum, c.if-l-demand.false) in
    record {
      low = omega (arith, inv.low);
      upto = onto.within;
      short = inv.short;
      few = omega (arith, inv.few);
      due = onto.due;
      asked = omega (arith, sum, demand-unblocked p loop.l r.ready.lawful, onto.asked 0, onto.asked 1);
      looked = onto.looked;
      rest = sym (onward-good p loop.pairs loop.l _ _ inv.low c.loop-l-test.true (inv.looked c.loop-l-test.true) good past onto.within
          onto.still)
          ∙ inv.rest;
    }

pub returns : goal.returns
returns c = sym (onward-end _ c.loop-l.pairs c.loop-l.l _ c.loop-l-test.false) ∙ c.loop-l.invariant.rest
