-- Writing into the caller's page (document 02, W-201). A text goes there where a check finds nothing:
--     lacks_room page at k   the page has fewer than k bytes from the place at on, or at lies beyond its end
--     no_room page at text   it has fewer than the text needs
--     fit_check c text page at    what the check c finds, then 9 with 0 where the text does not fit
--     text_answer c text     the refusal of the check c, or the length of the text
--     text_page c text page at    the page afterwards: a refusal keeps every byte
-- Writing a plan (document 02, W-201, W-207, W-208, W-213):
--     cost_differs p i       the string at place i has another moving cost than the one at place 1
--     first_other p          the first place whose string has another; n + 1 where none has
-- v is the version that is written; W-201 writes version 03, W-208 versions 01 and 02, which do not say late days and due days:
--     alike_check v at p     12 where the header says one moving cost for all strings and those of the plan p differ, reported at `at`
--     saved_text v p rs      the text that is written
--     writable_check v p rs  4 to 8 as for numbers, then 12 with the first place that differs
--     save_check v p rs page at   the same, then 9 with 0 where the text does not fit
--     saved_answer, saved_page     what is answered, and the page afterwards: a refusal keeps every byte
use Rattle.std.specs.Prelude.{ℕ, Bool, not, ◌&&◌, ◌||◌, List, ltb, leb, eqb, length, drop}
use Rattle.faults.specs.Checks.{Refused, Checked}
use Rattle.faults.specs.declared.Refusal.{Refusal}
use Rattle.std.specs.Prelude.{Ok, Result}
use Rattle.base.specs.Count.{least_from, put_at}
use Rattle.faults.specs.declared.Fault.TheVariants.{NoRoom, CostsDiffer}
use Rattle.faults.specs.Checks.{then, refuse_if, or_refused}
use Rattle.rules.specs.declared.Plan.{Plan}
use Rattle.rules.specs.declared.Releases.{Releases}
use Rattle.rules.specs.Plan.{string_at}
use Rattle.rules.specs.Release.{releases_of}
use Rattle.rules.specs.Refusal.{run_check}
use Rattle.rules.specs.Layout.{Version, has_field, header_frame, Common}
use Rattle.writing.specs.Written.{plan_text}

abbrev pub lacks_room : List ℕ → ℕ → ℕ → Bool
lacks_room page at k = ltb (length (drop at page)) k || ltb (length page) at

unfoldable pub no_room : List ℕ → ℕ → List ℕ → Bool
no_room page at text = ltb (length (drop at page)) (length text) || ltb (length page) at

abbrev pub on_page : Checked → List ℕ → List ℕ → List ℕ
on_page c page after = or_refused (λ f at. page) c after

abbrev pub fit_check : Checked → List ℕ → List ℕ → ℕ → Checked
fit_check c text page at =
    let room = refuse_if (no_room page at text) NoRoom 0 in
    then c room

abbrev pub text_answer : Checked → List ℕ → Result ℕ Refusal
text_answer c text = or_refused Refused c (Ok (length text))

abbrev pub text_page : Checked → List ℕ → List ℕ → ℕ → List ℕ
text_page c text page at = on_page c page (put_at at text page)

-- ---- Moving costs

abbrev pub cost_differs : Plan → ℕ → Bool
cost_differs p i = not (eqb (string_at p i).a.0 (string_at p 1).a.0)

unfoldable pub first_other : Plan → ℕ
first_other p = least_from (cost_differs p) 1 p.n

module _ (v : Version) where
  unfoldable pub alike_check : ℕ → Plan → Checked
  alike_check at p = refuse_if (has_field (header_frame v) Common && leb (first_other p) p.n) CostsDiffer at

  -- ---- The text, the answer and the page

  unfoldable pub saved_text : Plan → Releases → List ℕ
  saved_text p rs = plan_text v p (releases_of rs)

  unfoldable pub writable_check : Plan → Releases → Checked
  writable_check p rs = then (run_check p rs) (alike_check (first_other p) p)

  unfoldable pub save_check : Plan → Releases → List ℕ → ℕ → Checked
  save_check p rs page at = fit_check (writable_check p rs) (saved_text p rs) page at

  unfoldable pub saved_answer : Plan → Releases → List ℕ → ℕ → Result ℕ Refusal
  saved_answer p rs page at = text_answer (save_check p rs page at) (saved_text p rs)

  unfoldable pub saved_page : Plan → Releases → List ℕ → ℕ → List ℕ
  saved_page p rs page at = text_page (save_check p rs page at) (saved_text p rs) page at
