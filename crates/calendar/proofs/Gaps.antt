-- How far apart the days of a yearly test lie, and in which years it falls (document 02, W-206). By edition 2 it falls once in every year,
-- 365 or 366 days after the time before. By edition 1 a test of 29 February has gaps of 1,461 or 2,921 days: four years, or eight.
use Rattle.base.proofs.Prelude.{ℕ, zero, suc, ◌+◌, ◌-◌, ◌≤◌, ◌<◌, zero-le, ◌≡◌, refl, sym, ap, ◌∙◌, inl, inr, true, false, not, ◌||◌, List, [], ◌∷◌, map, arith, add-one, dec_le, ℕ_discrete, eq-eqb, eqb-true, eqb}
use Rattle.base.specs.Count.{All, sum_of, up_from, keep, every}
use Rattle.base.proofs.{Lists.{by_bool, true-not-false, all_map, all-of-every}, Order.Rising}
use Rattle.faults.specs.Checks.{in_bounds}
use Rattle.faults.proofs.Checks.{in_bounds-low, in_bounds-yes, in_bounds-not}
use Rattle.calendar.specs.{declared.Date.Date, declared.YearlyDate.YearlyDate, Years.{leap_year, year_length, months_with, month_lengths, month_length}, Dates.{date, date_exists}, Numbers.{days_before_year, days_before_month, day_number, date_of, last_day}, Yearly.{years, leap_day, on_leap_day, set_on, in_no_year, moved_in, in_year, dates_in, days_in, yearly_days, gaps, YearGap, LeapGap}}
use Rattle.calendar.proofs.{Formula.{full_start, start-early, start-late, month-lengths}, Existing.{Existing, existing, exists, days_before_year-next, day_number-parts}, BothWays.{day_number-in-range, date_of-day_number}, Places.{february_of, february_of-most, february_of-year}, SomeYear.{in_no_year-2000, none-anywhere}, Editions.{in_year-year, in_year-other, in_year-february, on_leap_day-month, on_leap_day-day, dates-set}, YearlyDays.all-rising}

-- ---- Between two days a rising list has the gaps that it has as a whole

module _ (P : ℕ → Type 0) (a e : ℕ) where
  none-beyond : (ks : List ℕ) → All (λ k. e < k) ks → keep (λ k. in_bounds a k e) ks ≡ []
  unfolding keep
  none-beyond [] h = refl
  none-beyond (k ∷ ks) h =
      let over = h.0 in
      rw (in_bounds-not a k e (λ low high. omega arith)) (none-beyond ks h.1)

  gaps-between : (ks : List ℕ) → Rising ◌<◌ ks → All P (gaps ks) → All P (gaps (keep (λ k. in_bounds a k e) ks))
  unfolding gaps keep
  gaps-between [] r h = tt
  gaps-between (k ∷ []) r h = by_bool (in_bounds a k e) (λ t. rw t tt) (λ f. rw f tt)
  gaps-between (k ∷ m ∷ ks) r h =
      let rest = gaps-between (m ∷ ks) r.1 h.1 in
      let next = r.0.0 in
      by_bool (in_bounds a k e)
      (λ t. by_bool (in_bounds a m e)
      (λ u. rw (t, u) (h.0, rw u at rest))
      (λ u. rw (t, u, none-beyond ks (beyond (in_bounds-low a k e t) next u)) tt))
      (λ f. rw f rest)
    where
      beyond : a ≤ k → k < m → in_bounds a m e ≡ false → All (λ j. e < j) ks
      beyond low later out =
          elim (dec_le m e) [
            | yes high ↦ absurd (true-not-false (sym (in_bounds-yes a m e (omega arith) high) ∙ out))
            | no over ↦ all_map (λ j. m < j) (λ j. e < j) (λ j after. omega arith) ks r.1.0
          ]

-- ---- A year on

february_of-least : (y : ℕ) → 28 ≤ february_of y
february_of-least y = by_bool (leap_year y) (λ t. rw t (omega arith)) (λ f. rw f (omega arith))

-- the length of a year is a gap
gap-of : (y g : ℕ) → g ≡ 337 + february_of y → YearGap g
gap-of y g h = by_bool (leap_year y) (λ t. inr (h ∙ rw t)) (λ f. inl (h ∙ rw f))

month_length-february : (y : ℕ) → month_length y 2 ≡ february_of y
unfolding month_length month_lengths months_with
month_length-february y = refl

-- months but February have one length
month_length-other : (y m : ℕ) → 1 ≤ m → m ≤ 12 → (m ≡ 2 → ⊥) → month_length y m ≡ month_length 2000 m
unfolding month_length month_lengths
month_length-other y m low high other =
    month-lengths (february_of y) m low high other ∙ sym (month-lengths (february_of 2000) m low high other)

-- up to February the days before a month are the same in every year
days_before_month-early : (y m : ℕ) → 1 ≤ m → m ≤ 2 → days_before_month y m ≡ full_start m
unfolding days_before_month month_lengths
days_before_month-early y m low high = start-early (february_of y) m low high

days_before_month-late : (y m : ℕ) → 3 ≤ m → m ≤ 12 → days_before_month y m + (30 - february_of y) ≡ full_start m
unfolding days_before_month month_lengths
days_before_month-late y m low high = start-late (february_of y) m (omega (arith, february_of-most y)) low high

module _ (y : ℕ) (from : 2000 ≤ y) where
  year-long : days_before_year (suc y) ≡ days_before_year y + 337 + february_of y
  year-long = omega (arith, ap days_before_year (sym (add-one y)), days_before_year-next y from, february_of-year y)

  -- a date that is the same in both years
  same-date-on : (m d : ℕ) → 1 ≤ m → m ≤ 12 → 1 ≤ d → YearGap (day_number (date (suc y) m d) - day_number (date y m d))
  same-date-on m d low high some =
      let here = day_number-parts y m d in
      let next = day_number-parts (suc y) m d in
      let years = year-long in
      let few = february_of-most y in
      let few-next = february_of-most (suc y) in
      elim (dec_le m 2) [
        | yes early ↦ gap-of y _ (omega (arith, days_before_month-early y m low early, days_before_month-early (suc y) m low early))
        | no late ↦ gap-of (suc y) _
            (omega (arith, days_before_month-late y m (omega arith) high, days_before_month-late (suc y) m (omega arith) high))
      ]

  -- the last day of February
  february-on : YearGap (day_number (date (suc y) 2 (february_of (suc y))) - day_number (date y 2 (february_of y)))
  february-on =
      let here = day_number-parts y 2 (february_of y) in
      let next = day_number-parts (suc y) 2 (february_of (suc y)) in
      let years = year-long in
      let some = february_of-least y in
      let some_next = february_of-least (suc y) in
      gap-of (suc y) _
      (omega (
        arith,
        days_before_month-early y 2 (omega arith) (omega arith),
        days_before_month-early (suc y) 2 (omega arith)
            (omega arith),
      ))

-- the last day of February exists in every year
february-exists : (y : ℕ) → 2000 ≤ y → y ≤ 2399 → Existing (date y 2 (february_of y))
february-exists y from to = record {
  from-2000 = from;
  to-2399 = to;
  january = omega arith;
  december = omega arith;
  first = omega (arith, february_of-least y);
  last = omega (arith, month_length-february y);
}

-- ---- A test of edition 2, set on a month and day that exist in some year

module _ (t : YearlyDate) (x : Existing (set_on t 2000)) where
  -- a day that every February has, or one of another month
  fits-month : on_leap_day t ≡ false → (y : ℕ) → t.day ≤ month_length y t.month
  unfolding on_leap_day
  fits-month other y =
      let last = x.last in
      elim (ℕ_discrete t.month 2) [
        | yes february ↦ short february (λ d. true-not-false (sym (rw (eq-eqb t.month 2 february, eq-eqb t.day 29 d)) ∙ other))
        | no month ↦ omega (arith, month_length-other y t.month x.january x.december month)
      ]
    where
      short : t.month ≡ 2 → (t.day ≡ 29 → ⊥) → t.day ≤ month_length y t.month
      short february not_last =
          let here = ap (month_length y) february ∙ month_length-february y in
          let leap = ap (month_length 2000) february ∙ month_length-february 2000 in
          omega (arith, x.last, february_of-most 2000, february_of-least y)

  -- it falls in every year
  falls-in : (y : ℕ) → 2000 ≤ y → y ≤ 2399 → date_exists (in_year 2 t y) ≡ true
  falls-in y from to =
      by_bool (on_leap_day t)
      (λ leap. ap date_exists (in_year-february t y leap) ∙ exists _ (february-exists y from to))
      (λ other. ap date_exists (in_year-other 2 t y other) ∙ exists (set_on t y) (record {
        from-2000 = from;
        to-2399 = to;
        january = x.january;
        december = x.december;
        first = x.first;
        last = fits-month other y;
      }))

  year-on : (y : ℕ) → 2000 ≤ y → YearGap (day_number (in_year 2 t (suc y)) - day_number (in_year 2 t y))
  year-on y from =
      by_bool (on_leap_day t)
      (λ leap. rw (in_year-february t (suc y) leap, in_year-february t y leap) (february-on y from))
      (λ other. rw (in_year-other 2 t (suc y) other, in_year-other 2 t y other)
      (same-date-on y from t.month t.day x.january x.december x.first))

  all-fall : (y n : ℕ) → 2000 ≤ y → y + n ≤ 2400 → dates_in 2 t (up_from y n) ≡ map (in_year 2 t) (up_from y n)
  unfolding dates_in keep up_from
  all-fall y zero from to = refl
  all-fall y (suc n) from to = rw (falls-in y from (omega arith), all-fall (suc y) n (omega arith) (omega arith))

  gaps-from : (y n : ℕ) → 2000 ≤ y → All YearGap (gaps (map day_number (map (in_year 2 t) (up_from y n))))
  unfolding gaps up_from
  gaps-from y zero from = tt
  gaps-from y (suc zero) from = tt
  gaps-from y (suc (suc n)) from = (year-on y from, gaps-from (suc y) (suc n) (omega arith))

  years-from : (y n : ℕ) → 2000 ≤ y → y + n ≤ 2400 → map (λ k. (date_of k).year) (days_in 2 t 0 last_day (up_from y n)) ≡ up_from y n
  unfolding days_in dates_in keep up_from
  years-from y zero from to = refl
  years-from y (suc n) from to =
      let d = in_year 2 t y in
      let there = falls-in y from (omega arith) in
      let within = in_bounds-yes 0 (day_number d) last_day zero-le (day_number-in-range d there) in
      let year = ap (λ (f : Date). f.year) (date_of-day_number d there) ∙ in_year-year 2 t y in
      rw (there, within, year, years-from (suc y) n (omega arith) (omega arith))

-- ---- The theorems

-- what exists in some year exists in 2000
in-2000 : (t : YearlyDate) → in_no_year t ≡ false → Existing (set_on t 2000)
in-2000 t h = existing (set_on t 2000) (sym (in_no_year-2000 t) ∙ ap not h)

leap_day-in-2000 : (t : YearlyDate) → on_leap_day t ≡ true → date_exists (set_on t 2000) ≡ true
unfolding date_exists month_length month_lengths months_with leap_year
leap_day-in-2000 t leap = rw (on_leap_day-month t leap, on_leap_day-day t leap)

-- a month and day that exist in no year fall on no day
no-dates : (t : YearlyDate) → in_no_year t ≡ true → dates_in 2 t years ≡ []
unfolding dates_in
no-dates t h =
    let none = sym (in_no_year-2000 t) ∙ ap not h in
    by_bool (on_leap_day t)
    (λ leap. absurd (true-not-false (sym (leap_day-in-2000 t leap) ∙ none)))
    (λ other. rw (dates-set t other 2 years) (none-anywhere t none years))

all-gaps : (t : YearlyDate) → All YearGap (gaps (map day_number (dates_in 2 t years)))
unfolding gaps
all-gaps t =
    by_bool (in_no_year t)
    (λ none. rw (no-dates t none) tt)
    (λ some.
    let x = in-2000 t some in
    rw (all-fall t x 2000 400 (omega arith) (omega arith)) (gaps-from t x 2000 400 (omega arith)))

-- successive days of an edition 2 test are 365 or 366 apart, whatever the date
pub edition-2-gaps : (t : YearlyDate) (a e : ℕ) → All YearGap (gaps (yearly_days 2 t a e))
unfolding days_in
edition-2-gaps t a e = gaps-between YearGap a e (map day_number (dates_in 2 t years)) (all-rising 2 t) (all-gaps t)

-- by edition 2 it falls in every year, exactly once: the years of all its days are the years of the calendar, in their order
pub edition-2-every-year : (t : YearlyDate) → in_no_year t ≡ false → map (λ k. (date_of k).year) (yearly_days 2 t 0 last_day) ≡ years
edition-2-every-year t h = years-from t (in-2000 t h) 2000 400 (omega arith) (omega arith)

-- 29 February by edition 1, in all 400 years
leap-gaps : every (λ g. eqb g 1461 || eqb g 2921) (gaps (map day_number (dates_in 1 leap_day years))) ≡ true
unfolding
    every gaps keep up_from sum_of
    leap_year year_length months_with month_lengths month_length date_exists
    days_before_year days_before_month day_number on_leap_day moved_in in_year dates_in
leap-gaps = refl

leap-gap : (g : ℕ) → (eqb g 1461 || eqb g 2921) ≡ true → LeapGap g
leap-gap g h = by_bool (eqb g 1461) (λ t. inl (eqb-true g 1461 t)) (λ f. inr (eqb-true g 2921 (rw f at h)))

-- edition 1's 29 February has gaps of 1,461 or 2,921 days only
pub edition-1-leap-gaps : (a e : ℕ) → All LeapGap (gaps (yearly_days 1 leap_day a e))
unfolding days_in
edition-1-leap-gaps a e =
    let days = map day_number (dates_in 1 leap_day years) in
    let all = all_map (λ g. (eqb g 1461 || eqb g 2921) ≡ true) LeapGap leap-gap (gaps days) (all-of-every _ (gaps days) leap-gaps) in
    gaps-between LeapGap a e days (all-rising 1 leap_day) all

-- and both occur: the gaps of 29 February by edition 1 and by edition 2, from 1 January 2096 to 31 December 2108
pub editions-side-by-side : map (λ ed. gaps (yearly_days ed leap_day 35064 39812)) (1 ∷ 2 ∷ [])
    ≡ (2921 ∷ 1461 ∷ []) ∷ (365 ∷ 365 ∷ 365 ∷ 365 ∷ 365 ∷ 365 ∷ 365 ∷ 366 ∷ 365 ∷ 365 ∷ 365 ∷ 366 ∷ []) ∷ []
unfolding
    gaps keep up_from sum_of
    leap_year year_length months_with month_lengths month_length date_exists
    days_before_year days_before_month day_number on_leap_day moved_in in_year dates_in days_in
editions-side-by-side = refl
