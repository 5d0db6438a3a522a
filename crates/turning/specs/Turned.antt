-- Files of version 01 to 02 and back (document 02, W-208; W-213 keeps it between these two). A text of the version v is turned into the
-- version w and put into a page:
--     line_of place          the line of the string at a place, after the header's; 0 stays 0
--     on_line a, place_in a   what the writer answers, with the line of a refusal for its place; and that place, 0 where there is none
--     turned_text v w text   the text in the version w of the plan that the text says
--     turn_check v w text page at    what the reader of the version v finds, 1 to 8; then 12 with the line of the first string
--                           that differs from place 1; then 9 with 0 where there is no room
--     turned_answer, turned_page      what is answered, and the page afterwards: a refusal keeps every byte
use Rattle.std.specs.Prelude.{ℕ, ◌+◌, cond, List, eqb}
use Rattle.faults.specs.Checks.{Refused, Checked}
use Rattle.faults.specs.declared.Refusal.{Refusal}
use Rattle.std.specs.Prelude.{Ok, Err, Result}
use Rattle.faults.specs.Checks.{then}
use Rattle.rules.specs.Layout.{Version}
use Rattle.rules.specs.Text.{reading_in}
use Rattle.writing.specs.Saved.{fit_check, text_answer, text_page, first_other, alike_check, saved_text}

unfoldable pub line_of : ℕ → ℕ
line_of place = cond (eqb place 0) 0 (place + 1)

-- what the writer answers, with the line of a refusal in place of its place
abbrev pub on_line : Result ℕ Refusal → Result ℕ Refusal
on_line (Ok len) = Ok len
on_line (Err e) = Refused e.fault (line_of e.at)

abbrev pub place_in : Result ℕ Refusal → ℕ
place_in (Ok len) = 0
place_in (Err e) = e.at

module _ (v w : Version) (text : List ℕ) where
  unfoldable pub turned_text : List ℕ
  turned_text = saved_text w (reading_in v text).plan (reading_in v text).releases

  unfoldable pub turn_check : List ℕ → ℕ → Checked
  turn_check page at =
      let plan = (reading_in v text).plan in
      then (reading_in v text).checked (fit_check (alike_check w (line_of (first_other plan)) plan) turned_text page at)

  unfoldable pub turned_answer : List ℕ → ℕ → Result ℕ Refusal
  turned_answer page at = text_answer (turn_check page at) turned_text

  unfoldable pub turned_page : List ℕ → ℕ → List ℕ
  turned_page page at = text_page (turn_check page at) turned_text page at
