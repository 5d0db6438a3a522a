-- A day of the board as the code writes it: the parts of its lines.
--     head_with d k          the date d and the weekday of day k, each with a space behind it
--     yearly_tail t          what stands behind them in the line of the test t
--     falls_by d t           the test t falls on the date d
--     tests_text head d ts   the lines of those of the tests ts that fall on the date d
--     day_text head tail d ts        all that is written of a day
--     day_by tail ts k       the same of day k of the calendar
--     put_from at k ts us page       a page with what fits from the place `at` on, of days in a row from day k on
--     run_text day room k n  what is written of n days from day k on, `day` saying what of each, of the first that fit into `room` bytes
--     run_days day room k n  how many these are
use Rattle.std.specs.Prelude.{ℕ, zero, suc, ◌-◌, Bool, cond, leb, length}
use mathlib.Core.List.{List, [], ◌∷◌, ◌++◌, flat_map}
use Rattle.base.specs.Count.{keep, put_at}
use Rattle.calendar.specs.declared.Date.{Date}
use Rattle.calendar.specs.Numbers.{date_of}
use Rattle.calendar.specs.Weekdays.{weekday_of}
use Rattle.calendar.specs.Yearly.{falls_on}
use Rattle.calendar.specs.Texts.{date_text, yearly_text}
use Rattle.rules.specs.Lines.{worded}
use Rattle.lines.specs.Dates.{weekday_name}
use Rattle.boards.specs.declared.Test.{Test}
use Rattle.rules.specs.declared.Use.{Use}
use Rattle.boards.specs.Input.{set_for}
use Rattle.boards.specs.Paging.{fitted}

unfoldable pub head_with : Date → ℕ → List ℕ
head_with d k = worded "# # " (date_text d ∷ weekday_name (weekday_of k) ∷ [])

unfoldable pub yearly_tail : Test → List ℕ
yearly_tail t = worded "yearly #\n" (yearly_text (set_for t) ∷ [])

unfoldable pub falls_by : Date → Test → Bool
falls_by d t = falls_on t.edition (set_for t) d

unfoldable pub tests_text : List ℕ → Date → List Test → List ℕ
tests_text head d ts = flat_map (λ t. head ++ yearly_tail t) (keep (falls_by d) ts)

unfoldable pub day_text : List ℕ → List ℕ → Date → List Test → List ℕ
day_text head tail d ts = (head ++ tail) ++ tests_text head d ts

unfoldable pub day_by : List ℕ → List Test → ℕ → List ℕ
day_by tail ts k = day_text (head_with (date_of k) k) tail (date_of k) ts

abbrev pub put_from : ℕ → ℕ → List Test → List Use → List ℕ → List ℕ
put_from at k ts us page = put_at at (fitted (length page - at) k ts us) page

unfoldable pub run_text : (ℕ → List ℕ) → ℕ → ℕ → ℕ → List ℕ
run_text day room k zero = []
run_text day room k (suc n) =
    let more = day k ++ run_text day (room - length (day k)) (suc k) n in
    cond (leb (length (day k)) room) more []

unfoldable pub run_days : (ℕ → List ℕ) → ℕ → ℕ → ℕ → ℕ
run_days day room k zero = 0
run_days day room k (suc n) =
    let more = suc (run_days day (room - length (day k)) (suc k) n) in
    cond (leb (length (day k)) room) more 0
