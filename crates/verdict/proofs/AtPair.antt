-- A pair at which the rule breaks: when it does, and that the plan does not pass then.
use Rattle.base.proofs.Prelude.{ℕ, ◌≤◌, ◌<◌, ◌≡◌, sym, true, false, ◌&&◌, arith, leb, ltb, leb-true, ltb-true, le-leb, lt-leb}
use Rattle.base.proofs.Lists.{by_bool, true-not-false, and_left, and_right}
use Rattle.faults.specs.Checks.{Refused, Lawful, in_bounds}
use Rattle.faults.specs.declared.Fault.{Fault}
use Rattle.faults.proofs.Checks.{or_refused-lawful, in_bounds-low, in_bounds-yes, in_bounds-not}
use Rattle.rules.specs.{declared.Plan.Plan, Demand.{block_limit, demand, Passes}, Verdict.{verdict_of, is_pass}, Refusal.plan_check}
use Rattle.laws.proofs.Lawful.{LawfulPlan}
use Rattle.demand.proofs.Verdict.{passes-of-pass}
use Rattle.verdict.specs.Breaks.{breaks_at, breaks_answer}

module _ (p : Plan) (l b : ℕ) where
  -- ---- When it does

  pub breaks-out : (1 ≤ l → l ≤ 101000 → ⊥) → breaks_at p l b ≡ false
  unfolding breaks_at
  breaks-out out = rw (in_bounds-not 1 l 101000 out)

  pub breaks-over : block_limit p l < b → breaks_at p l b ≡ false
  unfolding breaks_at
  breaks-over over =
      by_bool (in_bounds 1 l 101000)
      (λ t. rw (t, lt-leb b (block_limit p l) over))
      (λ e. rw e)

  pub breaks-inside : 1 ≤ l → l ≤ 101000 → b ≤ block_limit p l → breaks_at p l b ≡ ltb l (demand p l b)
  unfolding breaks_at
  breaks-inside low high allowed = rw (in_bounds-yes 1 l 101000 low high, le-leb b (block_limit p l) allowed)

  -- ---- What follows

  pub breaks-no-rule : breaks_at p l b ≡ true → Passes p → ⊥
  unfolding breaks_at
  breaks-no-rule h rule =
      let range = in_bounds 1 l 101000 in
      let limit = leb b (block_limit p l) in
      let over = ltb l (demand p l b) in
      let allowed = and_left (range && limit) over h in
      omega (
        arith,
        ltb-true l (demand p l b) (and_right (range && limit) over h),
        rule l b (in_bounds-low 1 l 101000 (and_left range limit allowed)) (leb-true b (block_limit p l) (and_right range limit allowed)),
      )

  pub breaks-no-pass : LawfulPlan p → breaks_at p l b ≡ true → is_pass (verdict_of p) ≡ false
  breaks-no-pass ok h =
      by_bool (is_pass (verdict_of p)) (λ pass. absurd (breaks-no-rule h (passes-of-pass p ok pass))) (λ e. e)

  -- ---- What is answered

  pub breaks-lawful : plan_check p ≡ Lawful → breaks_answer p l b ≡ breaks_at p l b
  unfolding breaks_answer
  breaks-lawful h = rw h

  pub breaks-refused : (f : Fault) (at : ℕ) → plan_check p ≡ Refused f at → breaks_answer p l b ≡ false
  unfolding breaks_answer
  breaks-refused f at h = rw h

  -- a plan that breaks the rule at a pair does not pass
  pub answer-no-rule : breaks_answer p l b ≡ true → Passes p → ⊥
  unfolding breaks_answer
  answer-no-rule h =
      breaks-no-rule (or_refused-lawful (λ f at. false) (plan_check p) (breaks_at p l b) true (λ f at e. true-not-false (sym e)) h).1
