-- The days of a run from its stints: one stint after the other, from a day on, and as far as the calendar goes.
use Rattle.base.proofs.Prelude.{ℕ, zero, suc, ◌+◌, ◌-◌, ◌/◌, ◌≤◌, ◌<◌, min, ◌≡◌, refl, sym, ap, ◌∙◌, List, [], ◌∷◌, ◌++◌, arith, add-one, dec_le, le-ltb, length, take, drop, replicate, length-replicate, length-take}
use mathlib.Core.List.{flat_map}
use Rattle.base.specs.Count.{up_from}
use Rattle.calendar.specs.Numbers.{last_day}
use Rattle.rules.specs.{declared.Use.Use, declared.Use.TheVariants.Idle, declared.Stint.Stint, Stints.stint}
use Rattle.run.specs.Numbers.{stint_at}
use Rattle.stretch.specs.Stints.{spelled}
use Rattle.boards.specs.{declared.Test.Test, Paging.{uses_in, in_calendar, fitted, days_fitted}}
use Rattle.boards.proofs.Fitting.{joined-all, joined-some, days-within, fits-none, days-none}

-- ---- One stint after the other

module _ (list : List ℕ) where
  no-stint : (i : ℕ) → length list / 5 ≤ i → stint_at list i ≡ stint 0 0 Idle
  unfolding stint_at
  no-stint i h = rw (le-ltb i (length list / 5) h)

  first-stint : (i m : ℕ) → uses_in list i (suc m) ≡ replicate (stint_at list i).length.0 (stint_at list i).used ++ uses_in list (suc i) m
  unfolding uses_in spelled up_from flat_map
  first-stint i m = refl

  -- the list has no numbers for it
  pub numbers-end : (i m : ℕ) → length list / 5 ≤ i → uses_in list i m ≡ []
  unfolding uses_in spelled up_from flat_map
  numbers-end i zero h = refl
  numbers-end i (suc m) h =
      ap (λ (s : Stint). replicate s.length.0 s.used ++ uses_in list (suc i) m) (no-stint i h) ∙ numbers-end (suc i) m (omega arith)

  module _ (n i : ℕ) where
    pub none_left : n ≤ i → uses_in list i (n - i) ≡ []
    unfolding uses_in spelled up_from flat_map
    none_left h =
        let none : n - i ≡ 0 = omega arith in
        ap (λ m. uses_in list i m) none

    pub stint-next : i < n
        → uses_in list i (n - i) ≡ replicate (stint_at list i).length.0 (stint_at list i).used ++ uses_in list (i + 1) (n - (i + 1))
    stint-next more =
        let one : n - i ≡ suc (n - (i + 1)) = omega arith in
        ap (λ m. uses_in list i m) one ∙ first-stint i (n - (i + 1)) ∙ rw (← add-one i)

-- days that are passed over
pub passed_over : (long skip : ℕ) (u : Use) (us : List Use)
    → drop skip (replicate long u ++ us) ≡ replicate (long - skip) u ++ drop (skip - long) us
passed_over zero skip u us =
    let none : 0 - skip ≡ 0 = omega arith in
    let all : skip - 0 ≡ skip = omega arith in
    rw (none, all)
passed_over (suc long) zero u us =
    let whole : suc long - 0 ≡ suc long = omega arith in
    let none : 0 - suc long ≡ 0 = omega arith in
    rw (whole, none)
passed_over (suc long) (suc skip) u us =
    let one : suc long - suc skip ≡ long - skip = omega arith in
    let other : suc skip - suc long ≡ skip - long = omega arith in
    passed_over long skip u us ∙ rw (one, other)

-- ---- As far as the calendar goes

take-run : (m n : ℕ) (u : Use) (us : List Use) → n ≤ m → take m (replicate n u ++ us) ≡ replicate n u ++ take (m - n) us
take-run m zero u us h =
    let all : m - 0 ≡ m = omega arith in
    rw all
take-run zero (suc n) u us h = absurd (omega arith)
take-run (suc m) (suc n) u us h =
    let one : suc m - suc n ≡ m - n = omega arith in
    ap (λ l. u ∷ l) (take-run m n u us (omega arith)) ∙ rw one

take_less : (m n : ℕ) (u : Use) (us : List Use) → m ≤ n → take m (replicate n u ++ us) ≡ replicate m u
take_less zero n u us h = refl
take_less (suc m) zero u us h = absurd (omega arith)
take_less (suc m) (suc n) u us h = ap (λ l. u ∷ l) (take_less m n u us (omega arith))

module _ (ts : List Test) (room day left : ℕ) (u : Use) (us : List Use) (there : day ≤ last_day + 1) where
  abbrev m : ℕ
  m = last_day + 1 - day

  abbrev vs : List Use
  vs = replicate (min left m) u

  long-is : length vs ≡ min left m
  long-is = length-replicate (min left m) u

  all_in : left ≤ m → in_calendar day (replicate left u ++ us) ≡ vs ++ in_calendar (day + left) us
  all_in h =
      let is : min left m ≡ left = omega arith in
      let rest : m - left ≡ last_day + 1 - (day + left) = omega arith in
      take-run m left u us h ∙ rw (is, rest)

  -- not all of its days have found room, or a day in the calendar
  pub cut_short : days_fitted room day ts vs < left
      → (fitted room day ts (in_calendar day (replicate left u ++ us)) ≡ fitted room day ts vs)
      × (days_fitted room day ts (in_calendar day (replicate left u ++ us)) ≡ days_fitted room day ts vs)
  cut_short less =
      elim (dec_le left m) [
        | yes h ↦
            let rest = in_calendar (day + left) us in
            let some = joined-some ts room day vs rest (omega (arith, long-is)) in
            (ap (fitted room day ts) (all_in h) ∙ some.0, ap (days_fitted room day ts) (all_in h) ∙ some.1)
        | no h ↦
            let is : min left m ≡ m = omega arith in
            let cut = take_less m left u us (omega arith) ∙ ap (λ n. replicate n u) (sym is) in
            (ap (fitted room day ts) cut, ap (days_fitted room day ts) cut)
      ]

  -- all have
  module _ (all : left ≤ days_fitted room day ts vs) where
    pub fits-calendar : left ≤ last_day + 1 - day
    fits-calendar = omega (arith, days-within ts room day vs, long-is)

    pub whole_run : min left m ≡ left
    whole_run = omega (arith, fits-calendar)

    pub stint-passed : (fitted room day ts (in_calendar day (replicate left u ++ us))
        ≡ fitted room day ts vs ++ fitted (room - length (fitted room day ts vs)) (day + left) ts (in_calendar (day + left) us))
        × (days_fitted room day ts (in_calendar day (replicate left u ++ us))
        ≡ left + days_fitted (room - length (fitted room day ts vs)) (day + left) ts (in_calendar (day + left) us))
    stint-passed =
        let rest = in_calendar (day + left) us in
        let both = joined-all ts room day vs rest (omega (arith, long-is)) in
        let size : length vs ≡ left = omega (arith, long-is, fits-calendar) in (
          ap (fitted room day ts) (all_in fits-calendar) ∙ both.text ∙ rw size,
          ap (days_fitted room day ts) (all_in fits-calendar) ∙ both.days ∙ rw size,
        )

    pub days-are : days_fitted room day ts vs ≡ left
    days-are = omega (arith, days-within ts room day vs, long-is)

-- a day outside the calendar has no days behind it that are in it
pub no-days : (ts : List Test) (room day : ℕ) (us : List Use) → last_day < day
    → (fitted room day ts (in_calendar day us) ≡ []) × (days_fitted room day ts (in_calendar day us) ≡ 0)
no-days ts room day us late =
    let none : last_day + 1 - day ≡ 0 = omega arith in (
      ap (λ n. fitted room day ts (take n us)) none ∙ fits-none ts room day,
      ap (λ n. days_fitted room day ts (take n us)) none ∙ days-none ts room day,
    )

-- where no uses are left
pub uses-none : (ts : List Test) (room day skip : ℕ) (us : List Use) → us ≡ []
    → (fitted room day ts (in_calendar day (drop skip us)) ≡ []) × (days_fitted room day ts (in_calendar day (drop skip us)) ≡ 0)
uses-none ts room day skip us none =
    let cut : in_calendar day (drop skip us) ≡ [] =
    ap (λ l. in_calendar day (drop skip l)) none ∙ nothing_left (last_day + 1 - day) skip in
    (ap (fitted room day ts) cut ∙ fits-none ts room day, ap (days_fitted room day ts) cut ∙ days-none ts room day)
  where
    nothing_left : (m s : ℕ) → ◌≡◌ {A = List Use} (take m (drop s [])) []
    nothing_left zero zero = refl
    nothing_left zero (suc s) = refl
    nothing_left (suc m) zero = refl
    nothing_left (suc m) (suc s) = refl

pub run-most : (ts : List Test) (room day left n : ℕ) (u : Use) → days_fitted room day ts (replicate (min left n) u) ≤ n
run-most ts room day left n u =
    omega (arith, days-within ts room day (replicate (min left n) u), length-replicate (min left n) u)

-- no more days than the calendar has
pub days-most : (ts : List Test) (room day : ℕ) (us : List Use) → days_fitted room day ts (in_calendar day us) ≤ last_day + 1
days-most ts room day us =
    omega (arith, days-within ts room day (in_calendar day us), length-take (last_day + 1 - day) us)
