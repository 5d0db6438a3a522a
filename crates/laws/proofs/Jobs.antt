-- Laws of the job count. Everything above cites these and not the definition. A window of w days is one of w + J days for a string whose
-- first job may come J days late.
use Rattle.base.proofs.Prelude.{ℕ, suc, ◌+◌, ◌-◌, ◌*◌, ◌/◌, ◌%◌, ◌≤◌, ◌<◌, ◌≡◌, ap, ◌∙◌, arith, dec_le, div-add-mod', mul-le-mul, le_refl, suc-mul, lt-ltb, le-ltb}
use native.Mathlib.Nat.{le-div_iff_mul-le, add-mul-div_right, div-mul-le_self}
use Rattle.rules.specs.{declared.BatteryString.BatteryString, Demand.jobs}

-- a window shorter than D − J holds no job
pub jobs-short : (s : BatteryString) (w : ℕ) → w + s.j.0 < s.d.0 → jobs s w ≡ 0
unfolding jobs
jobs-short s w h = rw (lt-ltb (w + s.j.0) s.d.0 h)

pub jobs-from : (s : BatteryString) (w : ℕ) → s.d.0 ≤ w + s.j.0 → jobs s w ≡ (w + s.j.0 - s.d.0) / s.t.0 + 1
unfolding jobs
jobs-from s w h = rw (le-ltb (w + s.j.0) s.d.0 h)

-- from D − J on there is at least one
pub jobs-first : (s : BatteryString) (w : ℕ) → s.d.0 ≤ w + s.j.0 → 1 ≤ jobs s w
jobs-first s w h = omega (arith, jobs-from s w h)

pub jobs-zero : (s : BatteryString) → s.j.0 < s.d.0 → jobs s 0 ≡ 0
jobs-zero s h = jobs-short s 0 (omega arith)

-- k releases of one string, their due days at least T apart, the first not before the window by more than J, the last deadline in it: k
-- jobs
pub jobs-window : (s : BatteryString) (k w : ℕ) → 1 ≤ s.t.0 → k * s.t.0 + s.d.0 ≤ w + s.j.0 → suc k ≤ jobs s w
jobs-window s k w t h =
    let many : k ≤ (w + s.j.0 - s.d.0) / s.t.0 = (le-div_iff_mul-le t).1 (omega arith) in
    omega (arith, jobs-from s w (omega arith))

-- the last of them ends within the window
pub jobs-last : (s : BatteryString) (w : ℕ) → 1 ≤ s.t.0 → s.d.0 ≤ w + s.j.0 → (jobs s w - 1) * s.t.0 + s.d.0 ≤ w + s.j.0
jobs-last s w t h =
    let back : jobs s w - 1 ≡ (w + s.j.0 - s.d.0) / s.t.0 = omega (arith, jobs-from s w h) in
    rw back (omega (arith, div-mul-le_self (w + s.j.0 - s.d.0) s.t.0))

pub jobs-mono : (s : BatteryString) (v w : ℕ) → 1 ≤ s.t.0 → v ≤ w → jobs s v ≤ jobs s w
jobs-mono s v w t h =
    elim (dec_le s.d.0 (v + s.j.0)) [
      | yes long ↦
          let last = jobs-last s v t long in
          let first = jobs-first s v long in
          omega (arith, jobs-window s (jobs s v - 1) w t (omega arith))
      | no short ↦ omega (arith, jobs-short s v (omega arith))
    ]

-- over a multiple h of T the count grows by h / T, once a job fits
pub jobs-period : (s : BatteryString) (h w : ℕ) → 1 ≤ s.t.0 → h % s.t.0 ≡ 0 → s.d.0 ≤ w + s.j.0
    → jobs s (w + h) ≡ jobs s w + h / s.t.0
jobs-period s h w t whole long =
    let parts : h / s.t.0 * s.t.0 ≡ h = omega (arith, div-add-mod' h s.t.0) in
    let split : w + h + s.j.0 - s.d.0 ≡ (w + s.j.0 - s.d.0) + h / s.t.0 * s.t.0 = omega arith in
    let grown : (w + h + s.j.0 - s.d.0) / s.t.0 ≡ (w + s.j.0 - s.d.0) / s.t.0 + h / s.t.0 =
    ap (λ n. n / s.t.0) split ∙ add-mul-div_right (w + s.j.0 - s.d.0) (h / s.t.0) t in
    omega (arith, jobs-from s (w + h) (omega arith), jobs-from s w long)

-- ---- Steps: the count in l days stays until jobs × T + D − J days, and is one more there

-- a window that is too short for one job more
jobs-below : (s : BatteryString) (k w : ℕ) → 1 ≤ s.t.0 → w + s.j.0 < k * s.t.0 + s.d.0 → jobs s w ≤ k
jobs-below s k w t h =
    elim (dec_le (jobs s w) k) [
      | yes few ↦ few
      | no many ↦
          elim (dec_le s.d.0 (w + s.j.0)) [
            | yes long ↦
                let more : k ≤ jobs s w - 1 = omega arith in
                let days : k * s.t.0 ≤ (jobs s w - 1) * s.t.0 = mul-le-mul more (le_refl s.t.0) in
                let over : ⊥ = omega (arith, jobs-last s w t long) in
                absurd over
            | no short ↦ omega (arith, jobs-short s w (omega arith))
          ]
    ]

pub jobs-step-after : (s : BatteryString) (l : ℕ) → 1 ≤ s.t.0 → l + s.j.0 < jobs s l * s.t.0 + s.d.0
jobs-step-after s l t =
    elim (dec_le (jobs s l * s.t.0 + s.d.0) (l + s.j.0)) [
      | yes over ↦ omega (arith, jobs-window s (jobs s l) l t over)
      | no under ↦ omega arith
    ]

pub jobs-until : (s : BatteryString) (l w : ℕ) → 1 ≤ s.t.0 → l ≤ w → w + s.j.0 < jobs s l * s.t.0 + s.d.0 → jobs s w ≡ jobs s l
jobs-until s l w t h k = omega (arith, jobs-below s (jobs s l) w t k, jobs-mono s l w t h)

pub jobs-at-step : (s : BatteryString) (l w : ℕ) → 1 ≤ s.t.0 → w + s.j.0 ≡ jobs s l * s.t.0 + s.d.0 → jobs s w ≡ jobs s l + 1
jobs-at-step s l w t e =
    let few = jobs-below s (suc (jobs s l)) w t (omega (arith, suc-mul (jobs s l) s.t.0)) in
    omega (arith, jobs-window s (jobs s l) w t (omega arith))
