-- All that is answered for a plan file and an input (document 02, W-214): the first refusal, 1 to 8 of the plan, then 10 and 11 of the
-- input, then 9 (with 0) where the lent list has too few places for the run's stints; or the board.
--     refused_board f at     the fault f
--     board_in g             what is answered: the board that is given, or its refusal
--     board_with p rs start diary room       the board of a run, with a start and a diary, for a lent list of `room` places
--     board_over p rs text room      the same of an input
--     board_reading plan text room   the same of a plan file
--     over_listed p rs text list     what the lent list holds afterwards: the run's stints; as it was on a refusal
--     board_listed plan text list    the same of a plan file
--     board_text plan text   all that is written: the bare number of the refusal on one line, or the whole board
--     end_text k o           the line of a miss, for a run from day k that ended with o; nothing where its day is not in the calendar
use Rattle.std.specs.Prelude.{ℕ, ◌+◌, cond, List, [], leb, length, Result, Ok}
use Rattle.faults.specs.Checks.{Refused, Lawful, Checked}
use Rattle.faults.specs.declared.Refusal.{Refusal}
use Rattle.days.specs.declared.Day.{Day}
use Rattle.days.specs.Days.{day, days}
use Rattle.faults.specs.declared.Fault.{Fault}
use Rattle.faults.specs.Checks.{then, or_refused}
use Rattle.calendar.specs.Numbers.{last_day}
use Rattle.rules.specs.declared.Plan.{Plan}
use Rattle.rules.specs.declared.Releases.{Releases}
use Rattle.rules.specs.declared.Outcome.{Outcome}
use Rattle.rules.specs.declared.Outcome.TheVariants.{Miss, Clean}
use Rattle.rules.specs.Release.{releases_of}
use Rattle.rules.specs.Run.{run_of}
use Rattle.rules.specs.Stints.{run_stints, stints_check, stints_listed}
use Rattle.rules.specs.Text.{reading_of}
use Rattle.lines.specs.Board.{number_line}
use Rattle.boards.specs.declared.Diary.{Diary}
use Rattle.boards.specs.declared.Board.{Board}
use Rattle.boards.specs.Input.{diary_of, input_reading}
use Rattle.boards.specs.Board.{miss_line_of, board_of}

-- what is answered, as Input is: whether there is a board, and the board
pub record Given : Type 0 where
  pub checked : Checked
  pub board : Board

abbrev pub refused_board : Fault → ℕ → Given
refused_board f at =
    record {
      checked = Refused f at;
      board = record { start = day 0; diary = diary_of []; stints = 0; outcome = Clean (days 0) (days 0) (days 0) };
    }

abbrev pub board_in : Given → Result Board Refusal
board_in g = or_refused Refused g.checked (Ok g.board)

unfoldable pub board_with : Plan → Releases → Day → Diary → ℕ → Given
board_with p rs start diary room =
    let stints = length (run_stints p (releases_of rs)) in
    let outcome = run_of p (releases_of rs) in
    or_refused refused_board (stints_check p rs room)
    (record { checked = Lawful; board = record { start = start; diary = diary; stints = stints; outcome = outcome } })

unfoldable pub board_over : Plan → Releases → List ℕ → ℕ → Given
board_over p rs text room =
    let read = input_reading p.run.0 text in
    let board = board_with p rs read.start read.diary room in
    or_refused refused_board read.checked board

unfoldable pub board_reading : List ℕ → List ℕ → ℕ → Given
board_reading plan text room =
    let read = reading_of plan in
    let board = board_over read.plan read.releases text room in
    or_refused refused_board read.checked board

unfoldable pub over_listed : Plan → Releases → List ℕ → List ℕ → List ℕ
over_listed p rs text list =
    let stints = stints_listed p rs list in
    or_refused (λ f at. list) (input_reading p.run.0 text).checked stints

unfoldable pub board_listed : List ℕ → List ℕ → List ℕ → List ℕ
board_listed plan text list =
    let read = reading_of plan in
    let over = over_listed read.plan read.releases text list in
    or_refused (λ f at. list) read.checked over

unfoldable pub board_text : List ℕ → List ℕ → List ℕ
board_text plan text =
    let read = reading_of plan in
    let input = input_reading read.plan.run.0 text in
    let board = board_of input.start.0 input.diary read.plan (releases_of read.releases) in
    or_refused (λ f at. number_line f) (then read.checked input.checked) board

-- ---- The end of a board

unfoldable pub end_text : ℕ → Outcome → List ℕ
end_text k (Miss t i) = cond (leb (k + t.0) last_day) (miss_line_of (k + t.0) i) []
end_text k (Clean w m i) = []
