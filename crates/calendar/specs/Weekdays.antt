-- Weekdays (document 02, W-203). Day 0 is a Saturday.
--     week                  the seven weekdays from Saturday on
--     weekday_of k           the weekday of day k
--     weekday_number w       the days from a Saturday to w
use Rattle.std.specs.Prelude.{ℕ, ◌%◌, List, [], ◌∷◌, get_or}
use Rattle.calendar.specs.declared.Weekday.{Weekday}
use Rattle.calendar.specs.declared.Weekday.TheVariants.{Saturday, Sunday, Monday, Tuesday, Wednesday, Thursday, Friday}

abbrev pub week : List Weekday
week = Saturday ∷ Sunday ∷ Monday ∷ Tuesday ∷ Wednesday ∷ Thursday ∷ Friday ∷ []

unfoldable pub weekday_of : ℕ → Weekday
weekday_of k = get_or week (k % 7) Saturday

abbrev pub weekday_number : Weekday → ℕ
weekday_number Saturday = 0
weekday_number Sunday = 1
weekday_number Monday = 2
weekday_number Tuesday = 3
weekday_number Wednesday = 4
weekday_number Thursday = 5
weekday_number Friday = 6
