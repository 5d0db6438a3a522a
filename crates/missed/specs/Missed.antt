-- The releases that miss, as the text of a plan in the caller's page, for the plan p of another text.
--     as_saved a             what the writer answered
--     put_answer, put_page    what is answered, and the page afterwards, where m is found for p: a list is written with the strings of p
--                           and with the N that was found, in version 03; 9 with 0 where there is no room
--     missed_answer, missed_page   the same of a text; but what the reader finds, 1 to 8, comes first
-- Where no text is written, no byte of the page is another.
use Rattle.std.specs.Prelude.{ℕ, List}
use Rattle.std.specs.Prelude.{Ok, Err, Result}
use Rattle.faults.specs.Checks.{then}
use Rattle.faults.specs.declared.Refusal.{Refusal}
use Rattle.rules.specs.declared.Plan.{Plan}
use Rattle.rules.specs.Layout.{version03}
use Rattle.rules.specs.Text.{reading_of}
use Rattle.writing.specs.Saved.{on_page, saved_answer, saved_page}
use Rattle.rules.specs.Plan.{with_run}
use Rattle.tries.specs.declared.Missing.{Missing}
use Rattle.tries.specs.declared.Missing.TheVariants as missing
use Rattle.tries.specs.Tries.{missing_answer}
use Rattle.missed.specs.declared.Missed.{Missed}
use Rattle.missed.specs.declared.Missed.TheVariants.{Passes, Never, NoneFound, TooMany, Text}

abbrev pub as_saved : Result ℕ Refusal → Result Missed Refusal
as_saved (Err e) = Err e
as_saved (Ok len) = Ok (Text len)

module _ (p : Plan) (page : List ℕ) (at : ℕ) where
  unfoldable pub put_answer : Result Missing Refusal → Result Missed Refusal
  put_answer (Err e) = Err e
  put_answer (Ok missing.Passes) = Ok Passes
  put_answer (Ok missing.Never) = Ok Never
  put_answer (Ok missing.NoneFound) = Ok NoneFound
  put_answer (Ok missing.TooMany) = Ok TooMany
  put_answer (Ok (missing.Found n rs)) = as_saved (saved_answer version03 (with_run p n.0) rs page at)

  unfoldable pub put_page : Result Missing Refusal → List ℕ
  put_page (Err e) = page
  put_page (Ok missing.Passes) = page
  put_page (Ok missing.Never) = page
  put_page (Ok missing.NoneFound) = page
  put_page (Ok missing.TooMany) = page
  put_page (Ok (missing.Found n rs)) = saved_page version03 (with_run p n.0) rs page at

module _ (text page : List ℕ) (at : ℕ) where
  unfoldable pub missed_answer : Result Missed Refusal
  missed_answer =
      let p = (reading_of text).plan in
      let put = put_answer p page at (missing_answer p) in
      then (reading_of text).checked put

  unfoldable pub missed_page : List ℕ
  missed_page =
      let p = (reading_of text).plan in
      let put = put_page p page at (missing_answer p) in
      on_page (reading_of text).checked page put
