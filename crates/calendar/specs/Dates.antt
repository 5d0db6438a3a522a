-- The dates of the calendar, 1 January 2000 to 31 December 2399 (document 02, W-203).
--     date y m d            day d of month m of year y
--     epoch                 1 January 2000
--     date_exists d          the date is one of the calendar's
--     earlier d e           d comes before e: by year, then month, then day
--     date_after d           the date on the calendar's next sheet
use Rattle.std.specs.Prelude.{ℕ, ◌+◌, Bool, cond, ◌&&◌, ◌||◌, ltb, eqb}
use Rattle.faults.specs.Checks.{in_bounds}
use Rattle.calendar.specs.declared.Date.{Date}
use Rattle.calendar.specs.Years.{month_length}

abbrev pub date : ℕ → ℕ → ℕ → Date
date y m d = record { year = y; month = m; day = d }

abbrev pub epoch : Date
epoch = date 2000 1 1

unfoldable pub date_exists : Date → Bool
date_exists d = in_bounds 2000 d.year 2399 && in_bounds 1 d.month 12 && in_bounds 1 d.day (month_length d.year d.month)

unfoldable pub earlier : Date → Date → Bool
earlier d e =
    ltb d.year e.year
    || eqb d.year e.year && (ltb d.month e.month || eqb d.month e.month && ltb d.day e.day)

unfoldable pub date_after : Date → Date
date_after d =
    cond (ltb d.day (month_length d.year d.month)) (date d.year d.month (d.day + 1))
    (cond (ltb d.month 12) (date d.year (d.month + 1) 1)
    (date (d.year + 1) 1 1))
