-- The crew's board (document 02, W-214), as bytes. Days are those of the calendar: day k is k days after 1 January 2000.
--     date_head k              date and weekday of day k, each with a space behind it
--     day_line_of k u         the line of day k, on which the bank did u: place and "work" or "move", or "idle"
--     yearly_line_of k t      the line of a yearly test t that falls on day k
--     miss_line_of k i        the line of a miss on day k at place i
--     falls_today k t        the test t falls on day k, by its edition
--     tests_on k ts          those of the tests ts that fall on day k, in diary order
--     board_day k ts u       all that is written of day k: its line, and then one for each yearly test that falls on it
--     board_from k ts us     the same of days in a row, the first of which is day k, on which the bank did us
--     board_end k o          a miss ends the board with its line, for a run from day k that ended with o
--     tests_of d             the tests of a diary
--     board_of k d p rs      the whole board of the run of p over rs, from day k on, with the diary d: the days of the run's history,
--                           up to, not into, the day of a miss, and its line
use Rattle.std.specs.Prelude.{ℕ, suc, ◌+◌, Bool, take}
use mathlib.Core.List.{List, [], ◌∷◌, ◌++◌, flat_map}
use Rattle.base.specs.Count.{keep}
use Rattle.calendar.specs.Numbers.{date_of}
use Rattle.calendar.specs.Weekdays.{weekday_of}
use Rattle.calendar.specs.Yearly.{falls_on}
use Rattle.calendar.specs.Texts.{date_text, yearly_text}
use Rattle.rules.specs.declared.Plan.{Plan}
use Rattle.rules.specs.declared.Release.{Release}
use Rattle.rules.specs.declared.Use.{Use}
use Rattle.rules.specs.declared.Outcome.{Outcome}
use Rattle.rules.specs.declared.Outcome.TheVariants.{Miss, Clean}
use Rattle.rules.specs.Run.{history, run_of}
use Rattle.rules.specs.Stints.{days_run}
use Rattle.rules.specs.Lines.{worded}
use Rattle.lines.specs.Dates.{weekday_name}
use Rattle.lines.specs.Board.{used_line, missed_line}
use Rattle.boards.specs.declared.Test.{Test}
use Rattle.boards.specs.declared.Diary.{Diary}
use Rattle.boards.specs.Input.{set_for}

-- ---- Lines

unfoldable pub date_head : ℕ → List ℕ
date_head k = worded "# # " (date_text (date_of k) ∷ weekday_name (weekday_of k) ∷ [])

unfoldable pub day_line_of : ℕ → Use → List ℕ
day_line_of k u = date_head k ++ used_line u

unfoldable pub yearly_line_of : ℕ → Test → List ℕ
yearly_line_of k t = date_head k ++ worded "yearly #\n" (yearly_text (set_for t) ∷ [])

unfoldable pub miss_line_of : ℕ → ℕ → List ℕ
miss_line_of k i = date_head k ++ missed_line i

-- ---- Days

unfoldable pub falls_today : ℕ → Test → Bool
falls_today k t = falls_on t.edition (set_for t) (date_of k)

unfoldable pub tests_on : ℕ → List Test → List Test
tests_on k ts = keep (falls_today k) ts

unfoldable pub board_day : ℕ → List Test → Use → List ℕ
board_day k ts u = day_line_of k u ++ flat_map (yearly_line_of k) (tests_on k ts)

unfoldable pub board_from : ℕ → List Test → List Use → List ℕ
board_from k ts [] = []
board_from k ts (u ∷ us) = board_day k ts u ++ board_from (suc k) ts us

-- ---- The board of a run

unfoldable pub board_end : ℕ → Outcome → List ℕ
board_end k (Miss t i) = miss_line_of (k + t.0) i
board_end k (Clean w m i) = []

abbrev pub tests_of : Diary → List Test
tests_of d = take d.count d.tests

unfoldable pub board_of : ℕ → Diary → Plan → List Release → List ℕ
board_of k d p rs = board_from k (tests_of d) (history p rs (days_run p rs)) ++ board_end k (run_of p rs)
