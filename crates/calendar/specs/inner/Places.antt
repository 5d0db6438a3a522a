-- Where a day lies, for inner use: no promise to a caller speaks of these.
--     InYear day k rest       day lies in year 2000 + k, `rest` days after its first
--     InMonth f day m rest    day, counted in its year from 0, lies in month m, `rest` days after its first; f days in February
--     fall_of ed t a e k       the day of year 2000 + k on which the test t falls, if it lies from day a to day e
--     at_front days list      the days at the front of a list, whose later places stay
--     digits_number text       the day that digits write; none for one past the last, and where another character stands
use Rattle.std.specs.Prelude.{ℕ, ◌+◌, ◌-◌, ◌≤◌, ◌<◌, leb, ◌&&◌, ◌≡◌, List, ◌++◌, length, take, drop, get_or, cond}
use Rattle.std.specs.Prelude.{Some, None, Option}
use Rattle.base.specs.Count.{sum_of, every}
use Rattle.calendar.specs.Years.{year_length, months_with}
use Rattle.faults.specs.Checks.{in_bounds}
use Rattle.calendar.specs.declared.YearlyDate.{YearlyDate}
use Rattle.calendar.specs.Dates.{date_exists}
use Rattle.calendar.specs.Numbers.{days_before_year, day_number, last_day}
use Rattle.calendar.specs.Yearly.{in_year}
use Rattle.calendar.specs.Texts.{fits_at, number}

pub record InYear (day k rest : ℕ) : Type 0 where
  pub adds : days_before_year (2000 + k) + rest ≡ day
  pub within : rest < year_length (2000 + k)
  pub last : k ≤ 399

pub record InMonth (f day m rest : ℕ) : Type 0 where
  pub adds : sum_of (λ n. n) (take (m - 1) (months_with f)) + rest ≡ day
  pub within : rest < get_or (months_with f) (m - 1) 0
  pub january : 1 ≤ m
  pub december : m ≤ 12

unfoldable pub fall_of : ℕ → YearlyDate → ℕ → ℕ → ℕ → Option ℕ
fall_of ed t a e k =
    let d = in_year ed t (2000 + k) in
    cond (date_exists d && in_bounds a (day_number d) e) (Some (day_number d)) None

abbrev pub at_front : List ℕ → List ℕ → List ℕ
at_front days list = days ++ drop (length days) list

unfoldable pub digits_number : List ℕ → Option ℕ
digits_number text = cond (every (fits_at 0x30) text && leb (number text) last_day) (Some (number text)) None
