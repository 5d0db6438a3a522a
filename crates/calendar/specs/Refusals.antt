-- What the calendar answers (document 02, W-203 and W-206). A yearly list looks at its edition first: 11 for one that is neither 1 nor 2.
-- 10 comes before any other answer: for a date that does not exist, a month and day that exist in no year, and a day outside the range.
-- Then 9, exactly when the lent list has fewer places than there are days to list. All three come with 0.
--     date_answer k          the date of day k
--     day_answer d           the day number of d
--     weekday_answer d       the weekday of d
--     yearly_check ed t a e room   the refusals of a yearly list, in their order, for a lent list with `room` places
--     yearly_answer ed t a e room  how many days are listed, or the refusal
--     yearly_listed ed t a e list  what the lent list holds afterwards: the days, and then its own later places; as it was on a refusal
use Rattle.std.specs.Prelude.{ℕ, cond, ◌||◌, List, ◌++◌, leb, ltb, length, drop}
use Rattle.days.specs.declared.Day.{Day}
use Rattle.calendar.specs.declared.Weekday.{Weekday}
use Rattle.faults.specs.Checks.{Refused, Checked}
use Rattle.faults.specs.declared.Refusal.{Refusal}
use Rattle.std.specs.Prelude.{Ok, Err, Result}
use Rattle.days.specs.Days.{day}
use Rattle.faults.specs.declared.Fault.TheVariants.{NoRoom, NoSuchDate, NoSuchEdition}
use Rattle.faults.specs.Checks.{then, refuse_if}
use Rattle.calendar.specs.declared.Date.{Date}
use Rattle.calendar.specs.declared.YearlyDate.{YearlyDate}
use Rattle.calendar.specs.Dates.{date_exists}
use Rattle.calendar.specs.Numbers.{day_number, date_of, last_day}
use Rattle.calendar.specs.Weekdays.{weekday_of}
use Rattle.calendar.specs.Yearly.{no_edition, in_no_year, yearly_days}

unfoldable pub date_answer : ℕ → Result Date Refusal
date_answer k = cond (leb k last_day) (Ok (date_of k)) (Refused NoSuchDate 0)

unfoldable pub day_answer : Date → Result Day Refusal
day_answer d = cond (date_exists d) (Ok (day (day_number d))) (Refused NoSuchDate 0)

unfoldable pub weekday_answer : Date → Result Weekday Refusal
weekday_answer d = cond (date_exists d) (Ok (weekday_of (day_number d))) (Refused NoSuchDate 0)

abbrev pub yearly_check : ℕ → YearlyDate → ℕ → ℕ → ℕ → Checked
yearly_check ed t a e room =
    then (refuse_if (no_edition ed) NoSuchEdition 0)
    (then (refuse_if (in_no_year t || ltb last_day a || ltb last_day e) NoSuchDate 0)
    (refuse_if (ltb room (length (yearly_days ed t a e))) NoRoom 0))

unfoldable pub yearly_answer : ℕ → YearlyDate → ℕ → ℕ → ℕ → Result ℕ Refusal
yearly_answer ed t a e room = then (yearly_check ed t a e room) (Ok (length (yearly_days ed t a e)))

-- `days` at the front of the list where nothing is refused
abbrev pub stored_if : Checked → List ℕ → List ℕ → List ℕ
stored_if (Ok _) days list = days ++ drop (length days) list
stored_if (Err e) days list = list

unfoldable pub yearly_listed : ℕ → YearlyDate → ℕ → ℕ → List ℕ → List ℕ
yearly_listed ed t a e list = stored_if (yearly_check ed t a e (length list)) (yearly_days ed t a e) list
