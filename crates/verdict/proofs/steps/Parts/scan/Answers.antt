-- A walk over the pairs that are left, with the count of those before them, finds what a walk over all finds.
use Rattle.base.proofs.Prelude.{ℕ, ◌+◌, ◌-◌, ◌%◌, ◌≤◌, ◌<◌, ◌≡◌, sym, ap, ◌∙◌, subst, arith, length, get_or, length-set, length-replicate}
use Rattle.rules.specs.{Plan.{multiple_of, d_max}, declared.Verdict.TheVariants.Fail, Demand.demand}
use Rattle.days.specs.Days.{days}
use Rattle.laws.proofs.Lawful.{d_max-le}
use Rattle.demand.proofs.Pairs.{rows, scan_from, all_pairs-rows, scan-row, scan_good, scan-bad, scan-row-end, scan-end}
use Rattle.verdict.specs.{inner.Asked.asked_by, inner.Steps.Due}
use Rattle.verdict.proofs.{Asked.{asked_by-le, asked_by-none}, Blocking.block_limit-short, Rows.{latest-start, latest-next, row-short, row_within, row-limit, row-past, row-takers, row-demand}}
use Rattle.verdict.proofs.steps.Parts.scan.Goals as goal

pub overflow_add-end : goal.overflow_add-end
overflow_add-end c =
    let r = c.args.self.now.ready in
    omega (arith, r.last_is, r.multiple_is, r.ready.lawful.h_max, d_max-le r.plan r.ready.lawful)

pub loop-l-init : goal.loop-l-init
loop-l-init c =
    let r = c.args.self.now.ready in
    let p = r.plan in
    let lawful = r.ready.lawful in
    let end : r.last + r.multiple ≡ d_max p + multiple_of p = omega (arith, r.last_is, r.multiple_is) in
    record {
      pos = omega arith;
      upto = omega (arith, end, lawful.h_pos);
      short = omega (arith, end, lawful.h_max, d_max-le p lawful);
      few = omega arith;
      due = c.steps_after-next.ensures;
      kept = sym (asked_by-none p 0 lawful);
      took = sym (asked_by-none p 1 lawful);
      size = ap length c.none_known-takers.ensures ∙ length-replicate {A = ℕ} 1024 0;
      latest = λ w h k. ap (λ xs. get_or xs (w % 1024) 0) c.none_known-takers.ensures ∙ latest-start p lawful w h k;
      rest = ap (λ m. scan_from p 0 (rows p 1 (m - 1))) end ∙ sym (ap (scan_from p 0) (all_pairs-rows p));
    }

pub overflow_add-keepers : goal.overflow_add-keepers
overflow_add-keepers c =
    let r = c.args.self.now.ready in
    let inv = c.loop-l.invariant in
    let low : c.loop-l.l ≤ 101000 = omega (arith, inv.short) in
    omega (arith, inv.kept, c.advance-step.ensures.keepers, asked_by-le r.plan 0 c.loop-l.l r.ready.lawful low)

pub overflow_add-asked : goal.overflow_add-asked
overflow_add-asked c =
    let r = c.args.self.now.ready in
    let inv = c.loop-l.invariant in
    let low : c.loop-l.l ≤ 101000 = omega (arith, inv.short) in
    omega (arith, inv.took, c.advance-step.ensures.takers, asked_by-le r.plan 1 c.loop-l.l r.ready.lawful low)

pub overflow_add-b-end : goal.overflow_add-b-end
overflow_add-b-end c = omega (arith, block_limit-short c.args.self.now.ready.plan c.loop-l.l c.args.self.now.ready.ready.lawful)

pub loop-b-init : goal.loop-b-init
loop-b-init c =
    let r = c.args.self.now.ready in
    let p = r.plan in
    let inv = c.loop-l.invariant in
    let k = c.loop-l.pairs in
    let l = c.loop-l.l in
    let took : c.loop-l.asked + c.advance-step.result.takers ≡ asked_by p 1 l = omega (arith, inv.took, c.advance-step.ensures.takers) in
    record {
      row = record {
        limit = c.limit-top.ensures;
        kept = omega (arith, inv.kept, c.advance-step.ensures.keepers);
        size = length-set c.loop-l.takers (l % 1024) _ ∙ inv.size;
        known = latest-next p l _ c.loop-l.takers inv.size took inv.latest;
      };
      upto = omega arith;
      few = omega (arith, inv.few);
      rest = sym (scan-row p k l 0 _ c.loop-l-test.true) ∙ inv.rest;
    }

-- in a turn the blocking is within its row: the sum is the demand, and it fits
pub overflow_sub-back : goal.overflow_sub-back
overflow_sub-back c =
    omega (arith, row_within _ _ _ _ _ c.args.self.now.ready.ready.lawful c.loop-b.invariant.row)

pub overflow_add-demand : goal.overflow_add-demand
overflow_add-demand c =
    let r = c.args.self.now.ready in
    let row = c.loop-b.invariant.row in
    let low : c.loop-l.l ≤ 101000 = omega (arith, c.loop-l.invariant.short) in
    omega (arith, row.kept, row-short _ _ _ _ _ r.ready.lawful row, asked_by-le r.plan 0 c.loop-l.l r.ready.lawful low)

pub overflow_add-demand-in-loop-b : goal.overflow_add-demand-in-loop-b
overflow_add-demand-in-loop-b c =
    let r = c.args.self.now.ready in
    let row = c.loop-b.invariant.row in
    let l = c.loop-l.l in
    let b = c.loop-b.b in
    let inside : b ≤ c.limit-top.result = omega (arith, c.loop-b-test.true) in
    let low : l ≤ 101000 = omega (arith, c.loop-l.invariant.short) in
    let few = asked_by-le r.plan 1 (l - b) r.ready.lawful (omega arith) in
    omega (
      arith,
      row.kept,
      row-short _ _ _ _ _ r.ready.lawful row,
      asked_by-le r.plan 0 l r.ready.lawful low,
      row-takers _ _ _ _ _ r.ready.lawful row b inside,
      few,
    )

pub overflow_add-pairs : goal.overflow_add-pairs
overflow_add-pairs c =
    omega (
      arith,
      c.loop-l.invariant.short,
      c.loop-b.invariant.few,
      row-short _ _ _ _ _ c.args.self.now.ready.ready.lawful c.loop-b.invariant.row,
    )

pub returns-then-l-demand : goal.returns-then-l-demand
returns-then-l-demand c =
    let r = c.args.self.now.ready in
    let p = r.plan in
    let l = c.loop-l.l in
    let b = c.loop-b.b in
    let k = c.loop-b.pairs in
    let inv = c.loop-b.invariant in
    let inside : b ≤ c.limit-top.result = omega (arith, c.loop-b-test.true) in
    let sum = row-demand _ _ _ _ _ r.ready.lawful inv.row b inside in
    let held = row-limit _ _ _ _ _ r.ready.lawful inv.row b inside in
    let bad : l < demand p l b = omega (arith, sum, c.if-l-demand.true) in
    ap (λ d. Fail (days l) (days b) (days d) (k + 1)) sum ∙ sym (scan-bad p k l b _ held bad) ∙ inv.rest

pub loop-b-preserved : goal.loop-b-preserved
loop-b-preserved c =
    let r = c.args.self.now.ready in
    let p = r.plan in
    let l = c.loop-l.l in
    let b = c.loop-b.b in
    let inv = c.loop-b.invariant in
    let inside : b ≤ c.limit-top.result = omega (arith, c.loop-b-test.true) in
    let sum = row-demand _ _ _ _ _ r.ready.lawful inv.row b inside in
    let held = row-limit _ _ _ _ _ r.ready.lawful inv.row b inside in
    let good : demand p l b ≤ l = omega (arith, sum, c.if-l-demand.false) in
    record {
      row = inv.row;
      upto = omega arith;
      few = omega (arith, inv.few);
      rest = sym (scan_good p c.loop-b.pairs l b _ held good) ∙ inv.rest;
    }

pub loop-l-preserved : goal.loop-l-preserved
loop-l-preserved c =
    let r = c.args.self.now.ready in
    let p = r.plan in
    let lawful = r.ready.lawful in
    let l = c.loop-l.l in
    let b = c.loop-b.b in
    let inv = c.loop-b.invariant in
    let past = row-past _ _ _ _ _ lawful inv.row b (omega (arith, c.loop-b-test.false)) in
    let few = row-short _ _ _ _ _ lawful inv.row in
    let step = c.advance-step.ensures in
    let back : l + 1 - 1 ≡ l = omega arith in
    record {
      pos = omega arith;
      upto = omega arith;
      short = c.loop-l.invariant.short;
      few = omega (arith, few, inv.few, inv.upto);
      due = subst (λ w. Due p w c.advance-step.new.next) (sym back) step.due;
      kept = omega (arith, c.loop-l.invariant.kept, step.keepers, ap (asked_by p 0) back);
      took = omega (arith, c.loop-l.invariant.took, step.takers, ap (asked_by p 1) back);
      size = inv.row.size;
      latest = inv.row.known;
      rest = sym (scan-row-end p c.loop-b.pairs l b _ past) ∙ inv.rest;
    }

pub returns : goal.returns
returns c =
    let p = c.args.self.now.ready.plan in
    sym (scan-end p c.loop-l.pairs c.loop-l.l 0 _ c.loop-l-test.false) ∙ c.loop-l.invariant.rest
