-- Where a text is answered with, the turned text stands in the page from the named place on.
use Rattle.base.proofs.Prelude.{ℕ, ◌≡◌, sym, ap, ◌∙◌, List, length, take, drop}
use Rattle.faults.specs.Checks.{Lawful, Checked}
use Rattle.std.specs.Prelude.{Ok}
use Rattle.base.specs.Count.{put_at}
use Rattle.base.proofs.Parts.{put_at-stands}
use Rattle.faults.specs.declared.Fault.TheVariants.{NoRoom}
use Rattle.faults.specs.Checks.{then, refuse_if}
use Rattle.faults.proofs.Checks.{then-first, then-second, refuse_if-not}
use Rattle.rules.specs.{declared.Plan.Plan, Layout.Version, Text.reading_in}
use Rattle.writing.specs.Saved.{no_room, first_other, alike_check}
use Rattle.roundtrip.proofs.InPage.{answered-text, room-inside}
use Rattle.turning.specs.Turned.{line_of, turned_text, turn_check, turned_answer, turned_page}

module _ (v w : Version) (text page : List ℕ) (at len : ℕ) (h : turned_answer v w text page at ≡ Ok len) where
  turned : (turn_check v w text page at ≡ Lawful) × (length (turned_text v w text) ≡ len)
  unfolding turned_answer
  turned = answered-text (turn_check v w text page at) (length (turned_text v w text)) len h

  abbrev plan : Plan
  plan = (reading_in v text).plan

  abbrev alike : Checked
  alike = alike_check w (line_of (first_other plan)) plan

  abbrev room : Checked
  room = refuse_if (no_room page at (turned_text v w text)) NoRoom 0

  pub turned-read : (reading_in v text).checked ≡ Lawful
  unfolding turn_check
  turned-read = then-first (reading_in v text).checked (then alike room) turned.0

  costs-and-room : then alike room ≡ Lawful
  unfolding turn_check
  costs-and-room = then-second (reading_in v text).checked (then alike room) turned.0

  pub turned-alike : alike ≡ Lawful
  turned-alike = then-first alike room costs-and-room

  page-is : turned_page v w text page at ≡ put_at at (turned_text v w text) page
  unfolding turned_page
  page-is = rw turned.0

  pub turned-stands : take len (drop at (turned_page v w text page at)) ≡ turned_text v w text
  turned-stands =
      let now = turned_text v w text in
      let fits = refuse_if-not (no_room page at now) NoRoom 0 (then-second alike room costs-and-room) in
      ap (λ whole. take len (drop at whole)) page-is
      ∙ ap (λ k. take k (drop at (put_at at now page))) (sym turned.1) ∙ put_at-stands at now page (room-inside page at now fits)
