-- How often a string comes: in an interval of which w days are its own, as often as it has jobs in a window of w days, late days included.
-- Its first job comes on the first of these days, J days after its due day; the others on their due days.
use Rattle.base.proofs.Prelude.{ℕ, zero, suc, ◌+◌, ◌-◌, ◌*◌, ◌/◌, ◌%◌, ◌≤◌, ◌<◌, ◌≡◌, refl, sym, ap, ◌∙◌, Bool, true, false, cond, ◌&&◌, arith, dec_le, ℕ_discrete, div-add-mod', mod-lt, mod-eq_of_lt, add-mul, one-mul, suc-mul, mul-le-mul, le_refl, le-leb, lt-leb, leb-true, eq-eqb, ne_eqb, eqb-true, leb, eqb}
use native.Mathlib.Nat.{div-eq_of_lt-le, mul-add-mod_self_right, zero-mod, zero-div, mul-mod_left}
use Rattle.rules.specs.{declared.BatteryString.BatteryString, Demand.jobs}
use Rattle.base.specs.Count.{sum_of, up_from}
use Rattle.base.proofs.{Lists.{by_bool, and_left, and_right}, Sums.{sum_to, sum_to-none, sum_to-eq, sum_to-split, sum_to-weigh, sum_to-first}, Adding.sum_of-range}
use Rattle.laws.specs.Lawful.{LawfulString}
use Rattle.laws.proofs.Jobs.{jobs-short, jobs-from}
use Rattle.sound.proofs.Parts.{counted_if}
use Rattle.exact.specs.Missing.{due_coming, comes_in}

-- ---- Multiples of T

-- 1 for a multiple of t, else 0
abbrev multiple : ℕ → ℕ → ℕ
multiple t j = counted_if (eqb (j % t) 0)

-- one more day holds one more multiple, or none
next_multiple : (t m : ℕ) → 1 ≤ t → suc m / t ≡ m / t + multiple t (suc m)
next_multiple t m pos =
    let whole = div-add-mod' m t in
    let small : m % t < t = mod-lt m pos in
    let more : (m / t + 1) * t ≡ m / t * t + t = omega (arith, add-mul (m / t) 1 t, one-mul t) in
    elim (ℕ_discrete (suc (m % t)) t) [
      | yes full ↦
          let sum : suc m ≡ (m / t + 1) * t = omega arith in
          let next : (m / t + 1 + 1) * t ≡ (m / t + 1) * t + t = omega (arith, add-mul (m / t + 1) 1 t, one-mul t) in
          let count : suc m / t ≡ m / t + 1 = div-eq_of_lt-le t (omega arith) (omega arith) in
          let none : suc m % t ≡ 0 = ap (λ n. n % t) sum ∙ mul-mod_left (m / t + 1) t in
          rw (eq-eqb (suc m % t) 0 none) count
      | no part ↦
          let sum : suc m ≡ m / t * t + suc (m % t) = omega arith in
          let count : suc m / t ≡ m / t = div-eq_of_lt-le t (omega arith) (omega arith) in
          let some : suc m % t ≡ suc (m % t) =
          ap (λ n. n % t) sum ∙ mul-add-mod_self_right (m / t) t (suc (m % t)) ∙ mod-eq_of_lt (omega arith) in
          rw (ne_eqb (suc m % t) 0 (λ e. omega arith)) (omega arith)
    ]

-- the multiples of t from 0 to m
multiples : (t m : ℕ) → 1 ≤ t → sum_to (suc m) (multiple t) ≡ m / t + 1
unfolding sum_to
multiples t zero pos = rw (eq-eqb (0 % t) 0 (zero-mod t)) (omega (arith, zero-div t))
multiples t (suc m) pos =
    let before = multiples t m pos in
    let today = next_multiple t m pos in
    omega arith

-- two multiples of t lie t apart
multiples-apart : (t i j : ℕ) → i % t ≡ 0 → j % t ≡ 0 → i < j → i + t ≤ j
multiples-apart t i j a b h =
    let whole-i = div-add-mod' i t in
    let whole-j = div-add-mod' j t in
    elim (dec_le (suc (i / t)) (j / t)) [
      | yes more ↦
          let far : suc (i / t) * t ≤ j / t * t = mul-le-mul more (le_refl t) in
          omega (arith, suc-mul (i / t) t)
      | no less ↦
          let near : j / t * t ≤ i / t * t = mul-le-mul (omega arith) (le_refl t) in
          absurd (omega arith)
    ]

-- ---- Within a window of w days

-- a job that comes on day j of a window of w days is due in it
abbrev in_window : BatteryString → ℕ → ℕ → Bool
in_window s w j = eqb (j % s.t.0) 0 && leb (j + s.d.0) w

-- the window is longer by J: a job may be due so many days earlier
window-count : (s : BatteryString) (w v : ℕ) → 1 ≤ s.t.0 → 1 ≤ s.d.0 → w ≡ v + s.j.0
    → sum_to w (λ j. counted_if (in_window s w j)) ≡ jobs s v
window-count s w v t d late =
    elim (dec_le s.d.0 w) [
      | yes long ↦
          let m = w - s.d.0 in
          let rest = s.d.0 - 1 in
          let size : w ≡ suc m + rest = omega arith in
          let split = sum_to-split (suc m) rest (λ j. counted_if (in_window s w j)) in
          let early = sum_to-eq (suc m) (λ j. counted_if (in_window s w j)) (multiple s.t.0) (λ j h. in-time j (omega arith)) in
          let none = sum_to-none rest (λ j. counted_if (in_window s w (suc m + j))) (λ j h. too-late (suc m + j) (omega arith)) in
          ap (λ n. sum_to n (λ j. counted_if (in_window s w j))) size
          ∙ omega (arith, multiples s.t.0 m t, jobs-from s v (omega arith), ap (λ n. n / s.t.0) (same-days long))
      | no short ↦
          sum_to-none w (λ j. counted_if (in_window s w j)) (λ j h. too-late j (omega arith)) ∙ sym (jobs-short s v (omega arith))
    ]
  where
    same-days : s.d.0 ≤ w → v + s.j.0 - s.d.0 ≡ w - s.d.0
    same-days long = omega arith

    in-time : (j : ℕ) → j + s.d.0 ≤ w → counted_if (in_window s w j) ≡ multiple s.t.0 j
    in-time j h = by_bool (eqb (j % s.t.0) 0) (λ t. rw (t, le-leb _ _ h)) (λ e. rw e)

    too-late : (j : ℕ) → w < j + s.d.0 → counted_if (in_window s w j) ≡ 0
    too-late j h = by_bool (eqb (j % s.t.0) 0) (λ t. rw (t, lt-leb _ _ h)) (λ e. rw e)

-- ---- Due days

module _ (first : ℕ) (s : BatteryString) where
  pub due-first : due_coming first s first ≡ first - s.j.0
  unfolding due_coming
  due-first = rw (eq-eqb first first refl)

  pub due-later : (t : ℕ) → first < t → due_coming first s t ≡ t
  unfolding due_coming
  due-later t h = rw (ne_eqb t first (λ e. omega arith))

  -- a job comes 0 to J days after its due day
  pub due-within : (t : ℕ) → s.j.0 ≤ first → first ≤ t → (due_coming first s t ≤ t) × (t ≤ due_coming first s t + s.j.0)
  due-within t early from =
      elim (ℕ_discrete t first) [
        | yes same ↦
            let due : due_coming first s t ≡ first - s.j.0 = ap (due_coming first s) same ∙ due-first in
            (omega arith, omega arith)
        | no other ↦
            let due = due-later t (omega arith) in
            (omega arith, omega arith)
      ]

-- ---- The days on which it comes

pub record Comes (first end : ℕ) (s : BatteryString) (t : ℕ) : Type 0 where
  pub from : first ≤ t
  pub even : (due_coming first s t + s.j.0 - first) % s.t.0 ≡ 0
  pub due : due_coming first s t + s.d.0 ≤ end

module _ (first end : ℕ) (s : BatteryString) where
  pub comes-is : (t : ℕ) → comes_in first end s t ≡ true → Comes first end s t
  unfolding comes_in
  comes-is t h =
      let F = leb first t in
      let E = eqb ((due_coming first s t + s.j.0 - first) % s.t.0) 0 in
      let D = leb (due_coming first s t + s.d.0) end in
      let fe = and_left (F && E) D h in
      record {
        from = leb-true _ _ (and_left F E fe);
        even = eqb-true _ _ (and_right F E fe);
        due = leb-true _ _ (and_right (F && E) D h);
      }

  -- the later of two jobs has the later due day
  due-rises : (t u : ℕ) → s.j.0 ≤ first → first ≤ t → t < u
      → due_coming first s t + s.j.0 - first < due_coming first s u + s.j.0 - first
  due-rises t u early from h =
      let later = due-later first s u (omega arith) in
      elim (ℕ_discrete t first) [
        | yes same ↦
            let due : due_coming first s t ≡ first - s.j.0 = ap (due_coming first s) same ∙ due-first first s in
            omega arith
        | no other ↦
            let due = due-later first s t (omega arith) in
            omega arith
      ]

  -- due days lie T apart
  pub comes-apart : (t u : ℕ) → s.j.0 ≤ first → Comes first end s t → Comes first end s u → t < u
      → due_coming first s t + s.t.0 ≤ due_coming first s u
  comes-apart t u early a c h =
      let dt = due_coming first s t + s.j.0 - first in
      let du = due_coming first s u + s.j.0 - first in
      let now = due-within first s t early a.from in
      let later = due-within first s u early c.from in
      let apart = multiples-apart s.t.0 dt du a.even c.even (due-rises t u early a.from h) in
      omega (arith, now.1, later.1, a.from, c.from, apart)

-- ---- Within the interval

-- w of the interval's days are its own, the first of them `first`
module _ (s : BatteryString) (ok : LawfulString s) (first w : ℕ) (early : s.j.0 ≤ first) where
  abbrev window : ℕ
  window = w + s.j.0

  abbrev end : ℕ
  end = first + w

  comes-before : (t : ℕ) → t < first → comes_in first end s t ≡ false
  unfolding comes_in
  comes-before t h = rw (lt-leb first t h)

  -- a job whose due day lies m days after the earliest that there can be
  comes-by : (t m : ℕ) → first ≤ t → due_coming first s t + s.j.0 ≡ first + m → comes_in first end s t ≡ in_window s window m
  unfolding comes_in
  comes-by t m from is =
      let offset : due_coming first s t + s.j.0 - first ≡ m = omega arith in
      elim (dec_le (m + s.d.0) window) [
        | yes h ↦ rw (le-leb first t from, offset, le-leb (m + s.d.0) window h, le-leb (due_coming first s t + s.d.0) end (omega arith))
        | no h ↦
            rw (
              le-leb first t from,
              offset,
              lt-leb (m + s.d.0) window (omega arith),
              lt-leb (due_coming first s t + s.d.0) end (omega arith),
            )
      ]

  comes-first : comes_in first end s (first + 0) ≡ in_window s window 0
  comes-first =
      let here : first + 0 ≡ first = omega arith in
      let due = due-first first s in
      rw here (comes-by first 0 (omega arith) (omega arith))

  comes-next : (i : ℕ) → comes_in first end s (first + suc i) ≡ in_window s window (suc (s.j.0 + i))
  comes-next i =
      let due = due-later first s (first + suc i) (omega arith) in
      comes-by (first + suc i) (suc (s.j.0 + i)) (omega arith) (omega arith)

  -- no due day lies less than T after the earliest
  none_between : (i : ℕ) → i < s.j.0 → in_window s window (suc i) ≡ false
  none_between i h =
      let small : suc i % s.t.0 ≡ suc i = mod-eq_of_lt (omega (arith, ok.j_max, ok.d_max)) in
      rw (small, ne_eqb (suc i) 0 (λ e. omega arith))

  -- in no days there is none
  none-short : (m : ℕ) → m < s.j.0 → w ≡ 0 → in_window s window m ≡ false
  none-short m h e =
      let late = lt-leb (m + s.d.0) window (omega (arith, ok.j_max)) in
      by_bool (eqb (m % s.t.0) 0) (λ t. rw (t, late)) (λ f. rw f)

  module _ (c : ℕ) where
    abbrev brings : ℕ → ℕ
    brings t = cond (comes_in first end s t) c 0

    abbrev counts : ℕ → ℕ
    counts m = cond (in_window s window m) c 0

    own-sum : sum_to w (λ i. brings (first + i)) ≡ sum_to window counts
    own-sum = go w refl
      where
        go : (n : ℕ) → n ≡ w → sum_to n (λ i. brings (first + i)) ≡ sum_to (n + s.j.0) counts
        go zero e = unfold sum_to in sym (sum_to-none (0 + s.j.0) counts (λ m h. rw (none-short m (omega arith) (sym e))))
        go (suc n) e =
            let size : suc n + s.j.0 ≡ suc (s.j.0 + n) = omega arith in
            let all = sum_to-first (s.j.0 + n) counts in
            let parts = sum_to-split s.j.0 n (λ m. counts (suc m)) in
            let none = sum_to-none s.j.0 (λ m. counts (suc m)) (λ m h. rw (none_between m h)) in
            let rest =
            sum_to-eq n (λ i. brings (first + suc i)) (λ i. counts (suc (s.j.0 + i))) (λ i h. ap (λ came. cond came c 0) (comes-next i)) in
            let one : brings (first + 0) ≡ counts 0 = ap (λ came. cond came c 0) comes-first in
            let same : brings (first + 0) + sum_to n (λ i. brings (first + suc i)) ≡ sum_to (suc (s.j.0 + n)) counts = omega arith in
            sum_to-first n (λ i. brings (first + i)) ∙ same ∙ ap (λ k. sum_to k counts) (sym size)

    -- as often as it has jobs in the days that are its own
    pub comes-often : sum_to w (λ i. brings (first + i)) ≡ jobs s w * c
    comes-often =
        own-sum ∙ sum_to-weigh window c (in_window s window)
        ∙ ap (λ n. n * c) (window-count s window w ok.t_pos ok.d_pos refl)

    -- and of an interval that begins `wait` days before them
    pub interval-often : (start wait : ℕ) → first ≡ start + wait → sum_of brings (up_from start (wait + w)) ≡ jobs s w * c
    interval-often start wait is =
        let none = sum_to-none wait (λ j. brings (start + j)) (λ j h. rw (comes-before (start + j) (omega arith))) in
        let later = sum_to-eq w (λ j. brings (start + (wait + j))) (λ j. brings (first + j)) (λ j h. ap brings (shift j)) in
        sum_of-range brings start (wait + w) ∙ sum_to-split wait w (λ j. brings (start + j)) ∙ omega (arith, comes-often)
      where
        shift : (j : ℕ) → start + (wait + j) ≡ first + j
        shift j = omega arith
