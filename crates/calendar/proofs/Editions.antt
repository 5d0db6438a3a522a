-- Laws of editions: the date of a test in a year, moved or as it is set.
use Rattle.base.proofs.Prelude.{ℕ, ◌≡◌, refl, ap, ◌∙◌, true, false, List, [], ◌∷◌, map, eqb, eqb-true}
use Rattle.base.proofs.Lists.{by_bool, and_left, and_right}
use Rattle.calendar.specs.{declared.Date.Date, declared.YearlyDate.YearlyDate, Years.leap_year, Dates.date, Yearly.{years, on_leap_day, set_on, moved_in, in_year, dates_in, days_in, yearly_days}}
use Rattle.calendar.proofs.Places.{february_of}

-- ---- The date in a year

module _ (ed : ℕ) (t : YearlyDate) (y : ℕ) where
  pub in_year-moved : moved_in ed t y ≡ true → in_year ed t y ≡ date y 2 28
  unfolding in_year
  in_year-moved h = rw h

  pub in_year-set : moved_in ed t y ≡ false → in_year ed t y ≡ set_on t y
  unfolding in_year
  in_year-set h = rw h

  pub in_year-year : (in_year ed t y).year ≡ y
  in_year-year =
      by_bool (moved_in ed t y)
      (λ h. ap (λ (d : Date). d.year) (in_year-moved h))
      (λ h. ap (λ (d : Date). d.year) (in_year-set h))

  -- every other date keeps its rule
  pub in_year-other : on_leap_day t ≡ false → in_year ed t y ≡ set_on t y
  unfolding moved_in
  in_year-other other = in_year-set (by_bool (eqb ed 2) (λ h. rw (h, other)) (λ h. rw h))

module _ (t : YearlyDate) where
  pub on_leap_day-month : on_leap_day t ≡ true → t.month ≡ 2
  unfolding on_leap_day
  on_leap_day-month h = eqb-true t.month 2 (and_left (eqb t.month 2) (eqb t.day 29) h)

  pub on_leap_day-day : on_leap_day t ≡ true → t.day ≡ 29
  unfolding on_leap_day
  on_leap_day-day h = eqb-true t.day 29 (and_right (eqb t.month 2) (eqb t.day 29) h)

module _ (t : YearlyDate) (y : ℕ) where
  -- edition 1 moves nothing
  pub in_year-first : in_year 1 t y ≡ set_on t y
  unfolding moved_in
  in_year-first = in_year-set 1 t y refl

  -- by edition 2 a test of 29 February falls on the last day of February
  pub in_year-february : on_leap_day t ≡ true → in_year 2 t y ≡ date y 2 (february_of y)
  unfolding moved_in
  in_year-february h =
      by_bool (leap_year y)
      (λ leap. in_year-set 2 t y (rw (h, leap)) ∙ rw (on_leap_day-month t h, on_leap_day-day t h, leap))
      (λ common. in_year-moved 2 t y (rw (h, common)) ∙ rw common)

-- ---- Of every other date the editions list the same days

module _ (t : YearlyDate) (other : on_leap_day t ≡ false) where
  pub dates-set : (ed : ℕ) (ys : List ℕ) → map (in_year ed t) ys ≡ map (set_on t) ys
  dates-set ed [] = refl
  dates-set ed (y ∷ ys) = rw (in_year-other ed t y other, dates-set ed ys)

  pub editions-agree : (a e : ℕ) → yearly_days 1 t a e ≡ yearly_days 2 t a e
  unfolding days_in dates_in
  editions-agree a e = rw (dates-set 1 years, dates-set 2 years)
