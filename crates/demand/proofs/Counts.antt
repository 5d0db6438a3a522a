-- Laws of the counts by which pairs are chosen. A string asks for E at each of the jobs that are counted; counts never fall as the interval
-- grows; so where none grows, the demand is that of the interval before.
--     NoJobs p l            no string of p has a job in l days
use Rattle.base.proofs.Prelude.{ℕ, suc, ◌-◌, ◌*◌, ◌≤◌, ◌<◌, ◌≡◌, sym, ap, ◌∙◌, false, arith, dec_le, ℕ_discrete, le_antisymm, zero-mul, ltb-false, lt-ltb, le-ltb, eq-eqb, ne_eqb, ltb}
use Rattle.rules.specs.{declared.BatteryString.BatteryString, declared.Plan.Plan, Plan.{strings_of, leeway, leeway_min}, Demand.{hold_of, jobs, need, demand}}
use Rattle.base.proofs.{Lists.{All, all_map, any_none, sum_of-eq, smallest-le}, Order.{all_both, all_of, sum_of-zero}}
use Rattle.laws.proofs.{Jobs.{jobs-short, jobs-zero, jobs-mono}, Lawful.LawfulString, Demand.{hold_of-other, need-taker, need-keeper}}
use Rattle.demand.proofs.Pairs.{pair}
use Rattle.demand.specs.Quick.{jobs_left, count_at, grows}

-- ---- One string

-- no job fits no day, so a window of less than no days may be read as one of none
jobs_left-window : (s : BatteryString) (l b : ℕ) → LawfulString s → jobs_left s l b ≡ jobs s (l - b)
unfolding jobs_left
jobs_left-window s l b ok =
    elim (dec_le b l) [
      | yes within ↦ rw (le-ltb l b within)
      | no over ↦
          let short : l < b = omega arith in
          let no-days : l - b ≡ 0 = omega arith in
          rw (lt-ltb l b short, no-days) (sym (jobs-zero s ok.j_max))
    ]

pub count_at-taker : (s : BatteryString) (l b : ℕ) → LawfulString s → s.x ≡ 1 → count_at s l b ≡ jobs s (l - b)
unfolding count_at
count_at-taker s l b ok e = rw (eq-eqb s.x 1 e) (jobs_left-window s l b ok)

pub count_at-keeper : (s : BatteryString) (l b : ℕ) → (s.x ≡ 1 → ⊥) → count_at s l b ≡ jobs s l
unfolding count_at
count_at-keeper s l b e = rw (ne_eqb s.x 1 e)

-- a string asks for E at each job that is counted
pub need-counted : (p : Plan) (s : BatteryString) (l b : ℕ) → LawfulString s → need p l b s ≡ count_at s l b * hold_of p s
need-counted p s l b ok =
    elim (ℕ_discrete s.x 1) [
      | yes e ↦ need-taker p l b s e ∙ ap (λ k. k * hold_of p s) (sym (count_at-taker s l b ok e))
      | no e ↦
          let x_max = ok.x_max in
          let kept : s.x ≡ 0 = omega arith in
          need-keeper p l b s e
          ∙ ap (λ k. k * s.c.0) (sym (count_at-keeper s l b e))
          ∙ ap (λ c. count_at s l b * c) (sym (hold_of-other p s kept))
    ]

-- with the same blocking a longer interval counts no fewer jobs
pub count_at-mono : (s : BatteryString) (l m b : ℕ) → LawfulString s → l ≤ m → count_at s l b ≤ count_at s m b
count_at-mono s l m b ok h =
    elim (ℕ_discrete s.x 1) [
      | yes e ↦
          omega (arith, count_at-taker s l b ok e, count_at-taker s m b ok e, jobs-mono s (l - b) (m - b) ok.t_pos (omega arith))
      | no e ↦ omega (arith, count_at-keeper s l b e, count_at-keeper s m b e, jobs-mono s l m ok.t_pos h)
    ]

-- a blocking of one day more than the interval leaves as many days as one of all its days: none
need-all-blocked : (p : Plan) (l : ℕ) (s : BatteryString) → need p l (suc l) s ≡ need p l l s
unfolding need
need-all-blocked p l s =
    let no-days : l - suc l ≡ l - l = omega arith in
    rw no-days

-- ---- All strings

-- so the demand is one day more
pub demand-all-blocked : (p : Plan) (l : ℕ) → demand p l (suc l) ≡ suc (demand p l l)
unfolding demand
demand-all-blocked p l =
    let same = sum_of-eq (need p l (suc l)) (need p l l) (strings_of p)
    (all_of (λ s. need p l (suc l) s ≡ need p l l s) (need-all-blocked p l) (strings_of p)) in
    omega arith

abbrev pub NoJobs : Plan → ℕ → Type 0
NoJobs p l = All (λ s. jobs s l ≡ 0) (strings_of p)

-- below the smallest D − J no job fits
pub early-no-jobs : (p : Plan) (l : ℕ) → l < leeway_min p → NoJobs p l
unfolding leeway_min
early-no-jobs p l h =
    all_map (λ s. leeway_min p ≤ leeway s) (λ s. jobs s l ≡ 0) (λ s low. jobs-short s l (omega arith)) (strings_of p)
    (smallest-le leeway (strings_of p))

module _ (p : Plan) (each : All LawfulString (strings_of p)) where
  pub start-no-jobs : NoJobs p 0
  start-no-jobs = all_map LawfulString (λ s. jobs s 0 ≡ 0) (λ s lawful. jobs-zero s lawful.j_max) (strings_of p) each

  -- where no job fits, the blocking is all that is asked for
  pub demand-no-jobs : (l b : ℕ) → NoJobs p l → demand p l b ≡ b
  unfolding demand
  demand-no-jobs l b none =
      let nothing = sum_of-zero (need p l b) (strings_of p)
      (all_both LawfulString (λ s. jobs s l ≡ 0) (λ s. need p l b s ≡ 0) unasked (strings_of p) each none) in
      omega arith
    where
      uncounted : (s : BatteryString) → LawfulString s → jobs s l ≡ 0 → count_at s l b ≡ 0
      uncounted s lawful none =
          elim (ℕ_discrete s.x 1) [
            | yes e ↦ omega (arith, count_at-taker s l b lawful e, jobs-mono s (l - b) l lawful.t_pos (omega arith))
            | no e ↦ count_at-keeper s l b e ∙ none
          ]

      unasked : (s : BatteryString) → LawfulString s → jobs s l ≡ 0 → need p l b s ≡ 0
      unasked s lawful none =
          need-counted p s l b lawful ∙ ap (λ k. k * hold_of p s) (uncounted s lawful none) ∙ zero-mul (hold_of p s)

  -- where no count grows, the demand is that of the interval before, with the same blocking
  pub demand-still : (l b : ℕ) → grows p (pair (suc l) b) ≡ false → demand p (suc l) b ≡ demand p l b
  unfolding demand grows
  demand-still l b still =
      let same = sum_of-eq (need p (suc l) b) (need p l b) (strings_of p)
      (all_both LawfulString (λ s. ltb (count_at s (suc l - 1) b) (count_at s (suc l) b) ≡ false) (λ s. need p (suc l) b s ≡ need p l b s)
      asked (strings_of p) each (any_none _ (strings_of p) still)) in
      omega arith
    where
      before : suc l - 1 ≡ l
      before = omega arith

      counted :
          (s : BatteryString) → LawfulString s → ltb (count_at s (suc l - 1) b) (count_at s (suc l) b) ≡ false
          → count_at s (suc l) b ≡ count_at s l b
      counted s lawful e =
          let no_more : count_at s (suc l) b ≤ count_at s (suc l - 1) b = ltb-false _ _ e in
          le_antisymm (rw before at no_more) (count_at-mono s l (suc l) b lawful (omega arith))

      asked :
          (s : BatteryString) → LawfulString s → ltb (count_at s (suc l - 1) b) (count_at s (suc l) b) ≡ false
          → need p (suc l) b s ≡ need p l b s
      asked s lawful e =
          need-counted p s (suc l) b lawful
          ∙ ap (λ k. k * hold_of p s) (counted s lawful e)
          ∙ sym (need-counted p s l b lawful)
