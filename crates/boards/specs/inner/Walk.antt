-- The input as the code walks it, line by line.
--     start_of n line        the day of the start, or 10, for a run of n days
--     within_of n which      a day from which n days more are in the calendar, or 10
--     noted_of j line        the test that the j-th line of the diary writes, or its fault
--     noted_from ed on ended j       the same of its edition and its date, where it has the form
--     noting_of lines        the diary that lines write, or the first fault
--     entered_with start found       what is answered, with the start and the diary that were found
use Rattle.std.specs.Prelude.{ℕ, ◌+◌, Bool, cond, List, leb, Ok, Err, Result}
use Rattle.faults.specs.Checks.{Refused, or_refused}
use Rattle.faults.specs.declared.Refusal.{Refusal}
use Rattle.faults.specs.declared.Fault.TheVariants.{NoSuchDate}
use Rattle.days.specs.declared.Day.{Day}
use Rattle.days.specs.Days.{day}
use Rattle.calendar.specs.declared.YearlyDate.{YearlyDate}
use Rattle.calendar.specs.Numbers.{day_number, last_day}
use Rattle.calendar.specs.Texts.{date_in}
use Rattle.rules.specs.Text.{Line}
use Rattle.boards.specs.declared.{Test.Test, Diary.Diary, CrewInput.CrewInput}
use Rattle.boards.specs.Input.{start_right, test_in, test_check, diary_check, diary_in, diary_of}

abbrev pub no_day : Result Day Refusal
no_day = Refused NoSuchDate 0

unfoldable pub start_of : ℕ → Line → Result Day Refusal
start_of n line = cond (start_right n line) (Ok (day (day_number (date_in line.bytes)))) no_day

unfoldable pub within_of : ℕ → Result Day Refusal → Result Day Refusal
within_of n (Ok k) = cond (leb (k.0 + n) last_day) (Ok k) no_day
within_of n (Err e) = Err e

unfoldable pub noted_of : ℕ → Line → Result Test Refusal
noted_of j line = or_refused Refused (test_check j line) (Ok (test_in line.bytes))

unfoldable pub noted_from : Result ℕ Refusal → Result YearlyDate Refusal → Bool → ℕ → Result Test Refusal
noted_from (Err e) on ended j = Err e
noted_from (Ok ed) (Err e) ended j = Err e
noted_from (Ok ed) (Ok on) ended j =
    cond ended (cond (leb j 20) (Ok (record { month = on.month; day = on.day; edition = ed })) (Refused NoSuchDate 0))
    (Refused NoSuchDate 0)

unfoldable pub noting_of : List Line → Result Diary Refusal
noting_of lines = or_refused Refused (diary_check 1 lines) (Ok (diary_of (diary_in lines)))

unfoldable pub entered_with : Day → Result Diary Refusal → Result CrewInput Refusal
entered_with start (Err e) = Err e
entered_with start (Ok diary) = Ok (record { start = start; diary = diary })
