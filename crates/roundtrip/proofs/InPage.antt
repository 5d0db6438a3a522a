-- The same of the page that the writer leaves: where it answers with a text, that text stands in the page and reads back.
use Rattle.base.proofs.Prelude.{ℕ, ◌≤◌, ◌≡◌, sym, ap, ◌∙◌, Bool, true, false, ◌||◌, List, arith, ltb-false, ltb, length, take, drop}
use Rattle.faults.specs.Checks.{Refused, Lawful, Checked}
use Rattle.std.specs.Prelude.{Ok}
use Rattle.base.specs.Count.{put_at}
use Rattle.base.proofs.Parts.{put_at-stands}
use Rattle.faults.specs.declared.Fault.{Fault}
use Rattle.faults.specs.declared.Fault.TheVariants.{NoRoom}
use Rattle.faults.specs.Checks.{refuse_if, or_refused}
use Rattle.faults.proofs.Checks.{then-first, then-second, refuse_if-not, or_refused-lawful}
use Rattle.rules.specs.{declared.Plan.Plan, declared.Releases.Releases, Refusal.run_check, Layout.{Version, version03, held_to}, Text.{reading_in, reading_of}}
use Rattle.writing.specs.Saved.{no_room, fit_check, text_answer, text_page, saved_text, writable_check, save_check, saved_answer, saved_page}
use Rattle.writing.proofs.Saving.{writable-run}
use Rattle.roundtrip.specs.OneText.{read_again}
use Rattle.roundtrip.proofs.{ReadBack.reading-03, WriteBack.writing-what-was-read}

or_right : (a b : Bool) → (a || b) ≡ false → b ≡ false
or_right true b h = cc
or_right false b h = h

pub answered-text : (c : Checked) (long len : ℕ) → or_refused Refused c (Ok long) ≡ Ok len → (c ≡ Lawful) × (long ≡ len)
answered-text c long len h =
    let said = or_refused-lawful Refused c (Ok long) (Ok len) not-text h in
    let same = said.1 in
    (said.0, cc)
  where
    not-text : (f : Fault) (at : ℕ) → Refused f at ≡ Ok len → ⊥
    not-text f at e =
        let z : ◌≡◌ {A = ℕ} 0 1 = cc in
        omega arith

pub room-inside : (page : List ℕ) (at : ℕ) (text : List ℕ) → no_room page at text ≡ false → at ≤ length page
unfolding no_room
room-inside page at text fits =
    ltb-false (length page) at (or_right (ltb (length (drop at page)) (length text)) (ltb (length page) at) fits)

-- a text that went into a page where a check found nothing
module _ (c : Checked) (text page : List ℕ) (at len : ℕ) (h : text_answer (fit_check c text page at) text ≡ Ok len) where
  went : (fit_check c text page at ≡ Lawful) × (length text ≡ len)
  went = answered-text (fit_check c text page at) (length text) len h

  pub fit-lawful : c ≡ Lawful
  fit-lawful = then-first c (refuse_if (no_room page at text) NoRoom 0) went.0

  inside : at ≤ length page
  inside =
      let full = no_room page at text in
      room-inside page at text (refuse_if-not full NoRoom 0 (then-second c (refuse_if full NoRoom 0) went.0))

  pub fit-page : text_page (fit_check c text page at) text page at ≡ put_at at text page
  fit-page = rw went.0

  -- it stands in the page from the named place on
  pub fit-stands : take len (drop at (text_page (fit_check c text page at) text page at)) ≡ text
  fit-stands =
      ap (λ whole. take len (drop at whole)) fit-page
      ∙ ap (λ k. take k (drop at (put_at at text page))) (sym went.1) ∙ put_at-stands at text page inside

module _ (v : Version) (p : Plan) (rs : Releases) (page : List ℕ) (at len : ℕ) (h : saved_answer v p rs page at ≡ Ok len) where
  text-lawful : run_check p rs ≡ Lawful
  unfolding saved_answer save_check
  text-lawful = writable-run v p rs (fit-lawful (writable_check v p rs) (saved_text v p rs) page at len h)

  page-is : saved_page v p rs page at ≡ put_at at (saved_text v p rs) page
  unfolding saved_answer saved_page save_check
  page-is = fit-page (writable_check v p rs) (saved_text v p rs) page at len h

  pub text-stands : take len (drop at (saved_page v p rs page at)) ≡ saved_text v p rs
  unfolding saved_answer saved_page save_check
  text-stands = fit-stands (writable_check v p rs) (saved_text v p rs) page at len h

-- a text of version 03 that is written stands in the page and reads back to the plan
pub reading-the-page : (p : Plan) (rs : Releases) (page : List ℕ) (at len : ℕ) → saved_answer version03 p rs page at ≡ Ok len
    → length p.strings ≡ 10 → length rs.list ≡ 1000
    → reading_of (take len (drop at (saved_page version03 p rs page at))) ≡ read_again p rs
reading-the-page p rs page at len h ten thousand =
    ap reading_of (text-stands version03 p rs page at len h)
    ∙ reading-03 p rs ten thousand (text-lawful version03 p rs page at len h)

-- a text that was read and is saved in its version stands in the page byte for byte
pub saving-what-was-read : (k : ℕ) (text page : List ℕ) (at len : ℕ) → (reading_in (held_to k) text).checked ≡ Lawful
    → saved_answer (held_to k) (reading_in (held_to k) text).plan (reading_in (held_to k) text).releases page at ≡ Ok len
    → saved_page (held_to k) (reading_in (held_to k) text).plan (reading_in (held_to k) text).releases page at ≡ put_at at text page
saving-what-was-read k text page at len h saves =
    let read = reading_in (held_to k) text in
    page-is (held_to k) read.plan read.releases page at len saves ∙ ap (λ t. put_at at t page) (writing-what-was-read k text h)
