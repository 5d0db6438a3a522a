-- A day that lies in a year and a month is the day of one date.
use Rattle.base.proofs.Prelude.{ℕ, ◌+◌, ◌≤◌, ◌≡◌, sym, ap, ◌∙◌, cond, arith}
use Rattle.base.proofs.Lists.{by_bool}
use Rattle.calendar.specs.{declared.Date.Date, Years.{leap_year, year_length, month_lengths, month_length}, Dates.date, Numbers.{days_before_month, day_number, date_of}, inner.Places.{InYear, InMonth}}
use Rattle.calendar.proofs.{Existing.{Existing, exists, day_number-parts}, BothWays.date_of-day_number}

-- the days of a year's February
abbrev pub february_of : ℕ → ℕ
february_of y = cond (leap_year y) 29 28

pub february_of-most : (y : ℕ) → february_of y ≤ 29
february_of-most y = by_bool (leap_year y) (λ t. rw t (omega arith)) (λ e. rw e (omega arith))

pub february_of-year : (y : ℕ) → year_length y ≡ 337 + february_of y
unfolding year_length
february_of-year y = by_bool (leap_year y) (λ t. rw t) (λ e. rw e)

pub placed-date : (day k rest m left : ℕ) → InYear day k rest → InMonth (february_of (2000 + k)) rest m left
    → date (2000 + k) m (left + 1) ≡ date_of day
unfolding days_before_month month_lengths month_length
placed-date day k rest m left y x = sym (ap date_of (sym number) ∙ date_of-day_number d (exists d there))
  where
    d : Date
    d = date (2000 + k) m (left + 1)

    there : Existing d
    there = record {
      from-2000 = omega arith;
      to-2399 = omega (arith, y.last);
      january = x.january;
      december = x.december;
      first = omega arith;
      last = omega (arith, x.within);
    }

    number : day_number d ≡ day
    number = omega (arith, day_number-parts (2000 + k) m (left + 1), y.adds, x.adds)
