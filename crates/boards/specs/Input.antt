-- What stands on standard input (document 02, W-214): a start date, and then the crew's diary, lines each ended by 0a.
--     diary_form             two digits, hyphen, two digits, space, digit
--     set_for t              the month and the day on which the test t is set
--     test_in bytes          the yearly test that a text of that form writes, as 02-29 1
--     start_right n line     the line writes a date of the calendar and has its 0a, and the day n days later is in the calendar too
--     start_check n lines    10 where the start is missing or not right, for a run of n days
--     test_right j line      the line has that form, a date that exists in some year and its 0a, and is not the twenty-first
--     test_check j line      the j-th line of the diary: 11 where it has the form and an edition other than 1 or 2, then 10 where it is not
--                           right
--     diary_check j lines    the lines of the diary from the j-th on, in order, the first fault deciding
--     input_check n lines    the start, then the diary
--     start_said lines       the day number of the start
--     diary_in lines         the tests of the diary, in order
--     diary_of ts            the diary of the tests ts, at most twenty; no_test stands where there is none
--     input_reading n text   what reading the input gives, for a run of n days; on a refusal day 0 and an empty diary (refused_input)
--     entered_in i           what is answered for it
-- All refusals come with 0. Lines are those of a plan file: what stands up to its 0a, and only the last can lack one.
use Rattle.std.specs.Prelude.{ℕ, suc, ◌+◌, Bool, not, ◌&&◌, List, [], ◌∷◌, map, leb, length, drop, Result, Ok}
use Rattle.faults.specs.Checks.{Refused, Lawful, Checked}
use Rattle.days.specs.declared.Day.{Day}
use Rattle.days.specs.Days.{day}
use Rattle.faults.specs.declared.Refusal.{Refusal}
use Rattle.base.specs.Count.{filled}
use Rattle.faults.specs.declared.Fault.{Fault}
use Rattle.faults.specs.declared.Fault.TheVariants.{NoSuchDate, NoSuchEdition}
use Rattle.faults.specs.Checks.{then, refuse_if, or_refused}
use Rattle.calendar.specs.Dates.{date_exists}
use Rattle.calendar.specs.Numbers.{day_number, last_day}
use Rattle.calendar.specs.Yearly.{no_edition, in_no_year}
use Rattle.calendar.specs.Texts.{hyphen, number, fits, date_form, date_in, yearly_in}
use Rattle.rules.specs.Text.{Line, lines_of}
use Rattle.calendar.specs.declared.YearlyDate.{YearlyDate}
use Rattle.boards.specs.declared.Test.{Test}
use Rattle.boards.specs.declared.Diary.{Diary}
use Rattle.boards.specs.declared.CrewInput.{CrewInput}

-- ---- The start

unfoldable pub start_right : ℕ → Line → Bool
start_right n line =
    line.ended
    && fits date_form line.bytes
    && date_exists (date_in line.bytes)
    && leb (day_number (date_in line.bytes) + n) last_day

unfoldable pub start_check : ℕ → List Line → Checked
start_check n [] = Refused NoSuchDate 0
start_check n (line ∷ lines) = refuse_if (not (start_right n line)) NoSuchDate 0

unfoldable pub start_said : List Line → ℕ
start_said [] = 0
start_said (line ∷ lines) = day_number (date_in line.bytes)

-- ---- The diary

abbrev pub diary_form : List ℕ
diary_form = 0x30 ∷ 0x30 ∷ hyphen ∷ 0x30 ∷ 0x30 ∷ 0x20 ∷ 0x30 ∷ []

abbrev pub set_for : Test → YearlyDate
set_for t = record { month = t.month; day = t.day }

unfoldable pub test_in : List ℕ → Test
test_in bytes = record { month = (yearly_in bytes).month; day = (yearly_in bytes).day; edition = number (drop 6 bytes) }

unfoldable pub test_right : ℕ → Line → Bool
test_right j line = fits diary_form line.bytes && not (in_no_year (set_for (test_in line.bytes))) && line.ended && leb j 20

unfoldable pub test_check : ℕ → Line → Checked
test_check j line =
    then (refuse_if (fits diary_form line.bytes && no_edition (test_in line.bytes).edition) NoSuchEdition 0)
    (refuse_if (not (test_right j line)) NoSuchDate 0)

unfoldable pub diary_check : ℕ → List Line → Checked
diary_check j [] = Lawful
diary_check j (line ∷ lines) =
    let later = diary_check (suc j) lines in
    then (test_check j line) later

unfoldable pub diary_in : List Line → List Test
diary_in lines = map (λ line. test_in line.bytes) lines

-- ---- The input

unfoldable pub input_check : ℕ → List Line → Checked
input_check n lines =
    let diary = diary_check 1 (drop 1 lines) in
    then (start_check n lines) diary

abbrev pub no_test : Test
no_test = record { month = 0; day = 0; edition = 0 }

abbrev pub diary_of : List Test → Diary
diary_of ts = record { count = length ts; tests = filled 20 no_test ts }

-- what reading gives: whether it is lawful, and then the start and the diary
pub record Input : Type 0 where
  pub checked : Checked
  pub start : Day
  pub diary : Diary

abbrev pub refused_input : Fault → ℕ → Input
refused_input f at = record { checked = Refused f at; start = day 0; diary = diary_of [] }

unfoldable pub input_reading : ℕ → List ℕ → Input
input_reading n text =
    let lines = lines_of text in
    or_refused refused_input (input_check n lines)
    (record { checked = Lawful; start = day (start_said lines); diary = diary_of (diary_in (drop 1 lines)) })

abbrev pub entered_in : Input → Result CrewInput Refusal
entered_in i = or_refused Refused i.checked (Ok (record { start = i.start; diary = i.diary }))
