-- The plan of a text with the set that the search finds, as the text of a plan in the caller's page.
--     Assigned, AssigningNobody, Text len   what is answered: a refusal; that no set passes; the length of the text that was written
--     wrote_set a            what the writer answered
--     set_answered, set_page  what is answered, and the page afterwards, where the search answered for p and rs are its releases: p with
--                           the set that was found is written, in version 03; 9 with 0 where there is no room
--     assigned_answer, assigned_page   the same of a text; but what the reader finds, 1 to 8, comes first
-- Where no text is written, no byte of the page is another.
use Rattle.std.specs.Prelude.{ℕ, List}
use Rattle.faults.specs.declared.Refusal.{Refusal}
use Rattle.std.specs.Prelude.{Ok, Err, Result, Option, Some, None}
use Rattle.rules.specs.Found.{Assign}
use Rattle.faults.specs.Checks.{Refused, or_refused}
use Rattle.rules.specs.declared.Plan.{Plan}
use Rattle.rules.specs.declared.Releases.{Releases}
use Rattle.rules.specs.Layout.{version03}
use Rattle.rules.specs.Search.{with_set}
use Rattle.rules.specs.Refusal.{search_answer}
use Rattle.rules.specs.Text.{reading_of}
use Rattle.writing.specs.Saved.{on_page, saved_answer, saved_page}

abbrev pub Assigned : Type 0
Assigned = Result (Option ℕ) Refusal

abbrev pub AssigningNobody : Assigned
AssigningNobody = Ok None

abbrev pub Text : ℕ → Assigned
Text len = Ok (Some len)

abbrev pub wrote_set : Result ℕ Refusal → Assigned
wrote_set (Err e) = Err e
wrote_set (Ok len) = Text len

module _ (p : Plan) (rs : Releases) (page : List ℕ) (at : ℕ) where
  unfoldable pub set_answered : Result Assign Refusal → Assigned
  set_answered (Err e) = Err e
  set_answered (Ok None) = AssigningNobody
  set_answered (Ok (Some m)) = wrote_set (saved_answer version03 (with_set p m) rs page at)

  unfoldable pub set_page : Result Assign Refusal → List ℕ
  set_page (Err e) = page
  set_page (Ok None) = page
  set_page (Ok (Some m)) = saved_page version03 (with_set p m) rs page at

module _ (text page : List ℕ) (at : ℕ) where
  unfoldable pub assigned_answer : Assigned
  assigned_answer =
      let p = (reading_of text).plan in
      let put = set_answered p (reading_of text).releases page at (search_answer p) in
      or_refused Refused (reading_of text).checked put

  unfoldable pub assigned_page : List ℕ
  assigned_page =
      let p = (reading_of text).plan in
      let put = set_page p (reading_of text).releases page at (search_answer p) in
      on_page (reading_of text).checked page put
