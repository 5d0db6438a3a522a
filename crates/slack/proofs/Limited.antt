-- The limit is the first of the lawful values with which the plan passes: no other value passes. What the entry answers.
use Rattle.base.proofs.Prelude.{ℕ, ◌≤◌, ◌≡◌, sym, ap, ◌∙◌}
use Rattle.faults.specs.Checks.{Refused, Lawful}
use Rattle.std.specs.Prelude.{Ok, None}
use Rattle.base.specs.Count.{first_of}
use Rattle.base.proofs.FirstOf.{first_of-passes, first_of-keep}
use Rattle.faults.specs.declared.Fault.{Fault}
use Rattle.faults.proofs.Checks.{in_bounds-yes, in_bounds-not}
use Rattle.rules.specs.{declared.Plan.Plan, Refusal.plan_check}
use Rattle.slack.specs.{declared.Letter.Letter, Slack.{hardest_first, passes_with, limit_from, limit_of, limit_answer}, inner.Values.{lawful_with, lawful_values}}
use Rattle.slack.proofs.Easier.{with-lawful, passes-rule}

module _ (p : Plan) (i : ℕ) (x : Letter) where
  pub first-lawful : first_of (passes_with p i x) (lawful_values p i x) ≡ first_of (passes_with p i x) (hardest_first x)
  unfolding lawful_values
  first-lawful =
      first_of-keep (passes_with p i x) (lawful_with p i x) (hardest_first x)
      (λ v found. with-lawful p i x v (passes-rule p i x v (first_of-passes (passes_with p i x) (hardest_first x) v found)).0)

  pub limit-there : 1 ≤ i → i ≤ p.n → limit_of p i x ≡ limit_from (first_of (passes_with p i x) (hardest_first x))
  unfolding limit_of
  limit-there low high = rw (in_bounds-yes 1 i p.n low high)

  pub limit-lawful : 1 ≤ i → i ≤ p.n → limit_from (first_of (passes_with p i x) (lawful_values p i x)) ≡ limit_of p i x
  limit-lawful low high = ap limit_from first-lawful ∙ sym (limit-there low high)

  pub limit-out : (1 ≤ i → i ≤ p.n → ⊥) → limit_of p i x ≡ None
  unfolding limit_of
  limit-out out = rw (in_bounds-not 1 i p.n out)

  pub limit-given : plan_check p ≡ Lawful → limit_answer p i x ≡ Ok (limit_of p i x)
  unfolding limit_answer
  limit-given h = rw h

  pub limit-refused : (f : Fault) (at : ℕ) → plan_check p ≡ Refused f at → limit_answer p i x ≡ Refused f at
  unfolding limit_answer
  limit-refused f at h = rw h
