-- A plan that passes passes sharply: what the strings but one ask is at most what all ask, and a blocking that some string can cause is
-- within the limit, or the interval is too short for any job.
use Rattle.base.proofs.Prelude.{ℕ, suc, ◌+◌, ◌-◌, ◌*◌, ◌≤◌, ◌<◌, zero-le, ◌≡◌, ap, ◌∙◌, arith, ℕ_discrete, dec_le, zero-mul, eq-eqb, ne_eqb, le_refl, length}
use Rattle.rules.specs.{declared.Plan.Plan, Plan.{strings_of, no_string, leeway, leeway_min, d_max}, Demand.{hold_of, jobs, blocker_hold, block_limit, need, demand, Passes}}
use Rattle.base.proofs.{Lists.{all-at, largest-ge, smallest-le}, Sums.{sum_to, sum_to-none, sum_to-sum_of}, Adding.sum_of-range}
use Rattle.laws.proofs.{Jobs.jobs-short, ReleaseList.str, Demand.{need-taker, need-keeper, block_limit-between, blocker_hold-hold}}
use Rattle.sound.specs.Sharp.{need_but, demand_but, CanBlock, SharplyPasses}

-- ---- What the strings but one ask

module _ (p : Plan) (l b q : ℕ) where
  -- by index
  pub need_but-own : (j : ℕ) → suc j ≡ q → need_but p l b q (1 + j) ≡ 0
  unfolding need_but
  need_but-own j same =
      let place : 1 + j ≡ q = omega arith in
      rw (eq-eqb (1 + j) q place)

  pub need_but-other : (j : ℕ) → (suc j ≡ q → ⊥) → need_but p l b q (1 + j) ≡ need p l b (str p j)
  unfolding need_but
  need_but-other j other =
      let index : 1 + j - 1 ≡ j = omega arith in
      rw (ne_eqb (1 + j) q (λ e. other (omega arith)), index)

  need_but-le : (j : ℕ) → need_but p l b q (1 + j) ≤ need p l b (str p j)
  need_but-le j =
      elim (ℕ_discrete (suc j) q) [
        | yes same ↦ omega (arith, need_but-own j same)
        | no other ↦ omega (arith, need_but-other j other)
      ]

  pub demand_but-places : demand_but p l b q ≡ b + sum_to (length (strings_of p)) (λ j. need_but p l b q (1 + j))
  unfolding demand_but
  demand_but-places = ap (λ n. b + n) (sum_of-range (need_but p l b q) 1 (length (strings_of p)))

  demand_but-le : demand_but p l b q ≤ demand p l b
  unfolding demand
  demand_but-le =
      let each = sum_to-sum_of (λ j. need_but p l b q (1 + j)) (need p l b) (strings_of p) no_string (λ j h. need_but-le j) in
      omega (arith, demand_but-places)

  -- ---- An interval too short for any job

  need-early : (j : ℕ) → j < length (strings_of p) → l < leeway_min p → need p l b (str p j) ≡ 0
  unfolding leeway_min
  need-early j h early =
      let least = all-at _ (strings_of p) no_string (smallest-le leeway (strings_of p)) j h in
      let none : (w : ℕ) → w ≤ l → jobs (str p j) w ≡ 0 = λ w fits. jobs-short (str p j) w (omega arith) in
      elim (ℕ_discrete (str p j).x 1) [
        | yes x ↦
            need-taker p l b (str p j) x
            ∙ ap (λ k. k * hold_of p (str p j)) (none (l - b) (omega arith)) ∙ zero-mul (hold_of p (str p j))
        | no x ↦
            need-keeper p l b (str p j) x
            ∙ ap (λ k. k * (str p j).c.0) (none l (le_refl l)) ∙ zero-mul (str p j).c.0
      ]

  demand_but-early : l < leeway_min p → demand_but p l b q ≡ b
  demand_but-early early =
      let nothing =
      sum_to-none (length (strings_of p)) (λ j. need_but p l b q (1 + j)) (λ j h. omega (arith, need_but-le j, need-early j h early)) in
      omega (arith, demand_but-places)

-- ---- A blocking that some string can cause

can-limit : (p : Plan) (l b q : ℕ) → CanBlock p l b q → leeway_min p ≤ l → b ≤ block_limit p l
unfolding d_max
can-limit p l b q can from =
    let place = can.low in
    let j : ℕ = q - 1 in
    let there : j < length (strings_of p) = omega (arith, can.high) in
    let high = all-at _ (strings_of p) no_string (largest-ge (λ s. s.d.0) (strings_of p)) j there in
    let top = all-at _ (strings_of p) no_string (largest-ge (blocker_hold p l) (strings_of p)) j there in
    let left = blocker_hold-hold p l (str p j) can.far in
    omega (arith, can.less, can.within, block_limit-between p l from (omega (arith, can.far)))

pub passes-sharply : (p : Plan) → Passes p → SharplyPasses p
passes-sharply p passes =
    record {
      unblocked = λ l pos. passes l 0 pos zero-le;
      blocked = λ l b q can.
          elim (dec_le (leeway_min p) l) [
            | yes from ↦
                let pos : 1 ≤ l = omega (arith, can.some, can.within) in
                omega (arith, demand_but-le p l b q, passes l b pos (can-limit p l b q can from))
            | no early ↦ omega (arith, demand_but-early p l b q (omega arith), can.within)
          ];
    }
