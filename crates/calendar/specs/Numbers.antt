-- Day numbers (document 02, W-203). 1 January 2000 is day 0.
--     days_before_year y      the days from 1 January 2000 up to year y: the lengths of the years between
--     days_before_month y m   the days of year y that lie before month m: the lengths of its earlier months
--     day_number d           the days that lie before d
--     date_of k              the date of day k: k sheets after the first one
--     last_day               31 December 2399
use Rattle.std.specs.Prelude.{ℕ, zero, suc, ◌+◌, ◌-◌, take}
use Rattle.base.specs.Count.{sum_of, up_from}
use Rattle.calendar.specs.declared.Date.{Date}
use Rattle.calendar.specs.Years.{year_length, month_lengths}
use Rattle.calendar.specs.Dates.{epoch, date_after}

unfoldable pub days_before_year : ℕ → ℕ
days_before_year y = sum_of year_length (up_from 2000 (y - 2000))

unfoldable pub days_before_month : ℕ → ℕ → ℕ
days_before_month y m = sum_of (λ n. n) (take (m - 1) (month_lengths y))

unfoldable pub day_number : Date → ℕ
day_number d = days_before_year d.year + days_before_month d.year d.month + (d.day - 1)

unfoldable pub date_of : ℕ → Date
date_of zero = epoch
date_of (suc k) = date_after (date_of k)

abbrev pub last_day : ℕ
last_day = 146096
