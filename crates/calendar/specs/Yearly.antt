-- Yearly tests (document 02, W-203 and W-206): a month and a day, and the edition of the guide by which the test is done. By edition 1 it
-- falls in each year in which that date exists. By edition 2 a test set on 29 February is done on 28 February in a common year; every other
-- date keeps its rule. Nothing is meant at another edition: it is refused.
--     years                    the years of the calendar
--     no_edition ed             the edition ed is neither 1 nor 2
--     leap_day                  29 February
--     on_leap_day t              the test t is set on 29 February
--     set_on t y                the date on which t is set, in year y
--     in_no_year t               its month and day exist in no year
--     moved_in ed t y           edition ed moves t to 28 February in year y
--     in_year ed t y            the date of the test t in year y
--     same_date d e             d and e are one date
--     falls_on ed t d           the test t falls on the date d
--     dates_in ed t ys          the dates on which t falls in the years ys
--     days_in ed t a e ys       the days on which t falls in the years ys, from day a to day e, both counted
--     yearly_days ed t a e      the days on which t falls from day a to day e
--     FallsBetween ed t a e k  the same of one day, by its date: what yearly_days lists, and nothing else (`yearly-exactly`)
--     gaps ks                  the days from each of ks to the next
--     YearGap g                a gap of a year: 365 or 366 days
--     LeapGap g                a gap of four years or of eight, from a 29 February to the next: 1,461 or 2,921 days
use Rattle.std.specs.Prelude.{ℕ, ◌-◌, ◌≤◌, ◌≡◌, ◌⊎◌, Bool, not, cond, ◌&&◌, ◌||◌, List, [], ◌∷◌, map, eqb, length}
use Rattle.base.specs.Count.{keep, up_from}
use Rattle.faults.specs.Checks.{in_bounds}
use Rattle.calendar.specs.declared.Date.{Date}
use Rattle.calendar.specs.declared.YearlyDate.{YearlyDate}
use Rattle.calendar.specs.Years.{leap_year}
use Rattle.calendar.specs.Dates.{date, date_exists}
use Rattle.calendar.specs.Numbers.{day_number, date_of, last_day}

abbrev pub years : List ℕ
years = up_from 2000 400

abbrev pub no_edition : ℕ → Bool
no_edition ed = not (eqb ed 1 || eqb ed 2)

abbrev pub leap_day : YearlyDate
leap_day = record { month = 2; day = 29 }

unfoldable pub on_leap_day : YearlyDate → Bool
on_leap_day t = eqb t.month 2 && eqb t.day 29

abbrev pub set_on : YearlyDate → ℕ → Date
set_on t y = date y t.month t.day

unfoldable pub in_no_year : YearlyDate → Bool
in_no_year t = eqb (length (keep date_exists (map (set_on t) years))) 0

unfoldable pub moved_in : ℕ → YearlyDate → ℕ → Bool
moved_in ed t y = eqb ed 2 && on_leap_day t && not (leap_year y)

unfoldable pub in_year : ℕ → YearlyDate → ℕ → Date
in_year ed t y = cond (moved_in ed t y) (date y 2 28) (set_on t y)

unfoldable pub same_date : Date → Date → Bool
same_date d e = eqb d.year e.year && eqb d.month e.month && eqb d.day e.day

unfoldable pub falls_on : ℕ → YearlyDate → Date → Bool
falls_on ed t d = same_date d (in_year ed t d.year)

unfoldable pub dates_in : ℕ → YearlyDate → List ℕ → List Date
dates_in ed t ys = keep date_exists (map (in_year ed t) ys)

unfoldable pub days_in : ℕ → YearlyDate → ℕ → ℕ → List ℕ → List ℕ
days_in ed t a e ys = keep (λ k. in_bounds a k e) (map day_number (dates_in ed t ys))

abbrev pub yearly_days : ℕ → YearlyDate → ℕ → ℕ → List ℕ
yearly_days ed t a e = days_in ed t a e years

pub record FallsBetween (ed : ℕ) (t : YearlyDate) (a e k : ℕ) : Type 0 where
  pub in_calendar : k ≤ last_day
  pub from : a ≤ k
  pub to : k ≤ e
  pub is : date_of k ≡ in_year ed t (date_of k).year

unfoldable pub gaps : List ℕ → List ℕ
gaps [] = []
gaps (k ∷ []) = []
gaps (k ∷ m ∷ ks) = (m - k) ∷ gaps (m ∷ ks)

abbrev pub YearGap : ℕ → Type 0
YearGap g = (g ≡ 365) ⊎ (g ≡ 366)

abbrev pub LeapGap : ℕ → Type 0
LeapGap g = (g ≡ 1461) ⊎ (g ≡ 2921)
