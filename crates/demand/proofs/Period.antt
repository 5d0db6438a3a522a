-- What one period H adds to the demand. D − J ≤ T and T divides H, so a string has H / T jobs in H days exactly, and H more days
-- add at most that many to any count; summed over the strings, H more days add at most the load.
use Rattle.base.proofs.Prelude.{ℕ, zero, suc, ◌+◌, ◌-◌, ◌*◌, ◌/◌, ◌%◌, ◌≤◌, ◌<◌, ◌≡◌, ap, ◌∙◌, arith, dec_le, div-add-mod', div-lt_iff_lt-mul, add-mul, zero-mul, mul-le-mul_right}
use native.Mathlib.Nat.{mul_comm}
use Rattle.rules.specs.{declared.BatteryString.BatteryString, declared.Plan.Plan, Plan.{strings_of, multiple_of}, Demand.{hold_of, jobs, need, demand, load}}
use Rattle.base.specs.Count.{sum_of}
use Rattle.base.proofs.{Lists.{All, all_map, sum_of-le, sum_of-eq, sum_of-add}, Order.{all_both, sum_of-zero}}
use Rattle.laws.proofs.{Jobs.{jobs-short, jobs-from, jobs-zero, jobs-window, jobs-period}, Lawful.{LawfulString, LawfulPlan}, Demand.need-unblocked}

-- ---- One string over H days

-- T divides H, and H is not 0
period-parts : (s : BatteryString) (h : ℕ) → h % s.t.0 ≡ 0 → h / s.t.0 * s.t.0 ≡ h
period-parts s h whole = omega (arith, div-add-mod' h s.t.0)

-- H more days add at most H / T jobs, also where none fitted before
jobs-period-le : (s : BatteryString) (h w : ℕ) → LawfulString s → h % s.t.0 ≡ 0 → jobs s (w + h) ≤ jobs s w + h / s.t.0
jobs-period-le s h w ok whole =
    elim (dec_le s.d.0 (w + s.j.0)) [
      | yes long ↦ omega (arith, jobs-period s h w ok.t_pos whole long)
      | no short ↦
          elim (dec_le s.d.0 (w + h + s.j.0)) [
            | yes fits ↦
                let under : w + h + s.j.0 - s.d.0 < h / s.t.0 * s.t.0 = omega (arith, period-parts s h whole) in
                let few : (w + h + s.j.0 - s.d.0) / s.t.0 < h / s.t.0 = (div-lt_iff_lt-mul ok.t_pos).1 under in
                omega (arith, jobs-from s (w + h) fits)
            | no shorter ↦ omega (arith, jobs-short s (w + h) (omega arith))
          ]
    ]

jobs-in-period : (s : BatteryString) (h : ℕ) → LawfulString s → 1 ≤ h → h % s.t.0 ≡ 0 → jobs s h ≡ h / s.t.0
jobs-in-period s h ok pos whole = go (h / s.t.0) (period-parts s h whole) most
  where
    from-none : jobs s (0 + h) ≤ jobs s 0 + h / s.t.0
    from-none = jobs-period-le s h 0 ok whole

    most : jobs s h ≤ h / s.t.0
    most =
        let start : 0 + h ≡ h = omega arith in
        omega (arith, rw start at from-none, jobs-zero s ok.j_max)

    go : (k : ℕ) → k * s.t.0 ≡ h → jobs s h ≤ k → jobs s h ≡ k
    go zero e m = omega arith
    go (suc k) e m =
        let d_max = ok.d_max in
        omega (arith, jobs-window s k h ok.t_pos (omega (arith, add-mul k 1 s.t.0)))

-- ---- What a string asks for where nothing blocks

-- ---- The plan over H days

module _ (p : Plan) (ok : LawfulPlan p) where
  -- what holds of each string by its bounds and by H holds of all
  each-whole :
      (P : BatteryString → Type 0) → ((s : BatteryString) → LawfulString s → multiple_of p % s.t.0 ≡ 0 → P s)
      → All P (strings_of p)
  each-whole P f = all_both LawfulString (λ s. multiple_of p % s.t.0 ≡ 0) P f (strings_of p) ok.each ok.h_whole

  -- no job fits no day
  pub demand-none : demand p 0 0 ≡ 0
  unfolding demand
  demand-none =
      let nothing : sum_of (need p 0 0) (strings_of p) ≡ 0 =
      sum_of-zero (need p 0 0) (strings_of p)
      (all_map LawfulString (λ s. need p 0 0 s ≡ 0) (λ s lawful.
      need-unblocked p 0 s lawful.x_max ∙ ap (λ k. k * hold_of p s) (jobs-zero s lawful.j_max) ∙ zero-mul (hold_of p s))
      (strings_of p) ok.each) in
      omega arith

  -- within H days every string asks for its share of the load
  pub demand-period : demand p (multiple_of p) 0 ≡ load p
  unfolding demand load
  demand-period =
      let shares : sum_of (need p (multiple_of p) 0) (strings_of p) ≡ sum_of (λ s. hold_of p s * (multiple_of p / s.t.0)) (strings_of p) =
      sum_of-eq (need p (multiple_of p) 0) (λ s. hold_of p s * (multiple_of p / s.t.0)) (strings_of p)
      (each-whole (λ s. need p (multiple_of p) 0 s ≡ hold_of p s * (multiple_of p / s.t.0)) (λ s lawful whole.
      need-unblocked p (multiple_of p) s lawful.x_max
      ∙ ap (λ k. k * hold_of p s) (jobs-in-period s (multiple_of p) lawful ok.h_pos whole)
      ∙ mul_comm (multiple_of p / s.t.0) (hold_of p s))) in
      omega arith

  -- H more days add at most the load
  pub demand-later : (l : ℕ) → demand p (l + multiple_of p) 0 ≤ demand p l 0 + load p
  unfolding demand load
  demand-later l =
      let share : BatteryString → ℕ = λ s. hold_of p s * (multiple_of p / s.t.0) in
      let more : sum_of (need p (l + multiple_of p) 0) (strings_of p) ≤ sum_of (λ s. need p l 0 s + share s) (strings_of p) =
      sum_of-le (need p (l + multiple_of p) 0) (λ s. need p l 0 s + share s) (strings_of p)
      (each-whole (λ s. need p (l + multiple_of p) 0 s ≤ need p l 0 s + share s) grows) in
      omega (arith, sum_of-add (need p l 0) share (strings_of p))
    where
      grows :
          (s : BatteryString) → LawfulString s → multiple_of p % s.t.0 ≡ 0
          → need p (l + multiple_of p) 0 s ≤ need p l 0 s + hold_of p s * (multiple_of p / s.t.0)
      grows s lawful whole =
          let then-jobs = mul-le-mul_right (hold_of p s) (jobs-period-le s (multiple_of p) l lawful whole) in
          omega (
            arith,
            need-unblocked p (l + multiple_of p) s lawful.x_max,
            need-unblocked p l s lawful.x_max,
            add-mul (jobs s l) (multiple_of p / s.t.0) (hold_of p s),
            mul_comm (multiple_of p / s.t.0) (hold_of p s),
          )
