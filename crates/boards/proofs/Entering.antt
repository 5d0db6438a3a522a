-- What a line of the input gives: the parts of a form, and the checks in their order.
use Rattle.base.proofs.Prelude.{ℕ, ◌+◌, ◌≤◌, ◌≡◌, refl, sym, ap, ◌∙◌, Bool, true, false, List, [], ◌∷◌, ◌++◌, arith, leb, length, take, drop, drop-drop}
use Rattle.calendar.specs.declared.Date.{Date}
use Rattle.faults.specs.Checks.{Refused}
use Rattle.faults.specs.declared.Refusal.{Refusal}
use Rattle.std.specs.Prelude.{Ok, Err, Result}
use lib.Seq.{take-take}
use Rattle.base.proofs.{Lists.{by_bool, and_left, and_right}, Parts.take-drop-take}
use Rattle.days.specs.declared.Day.{Day}
use Rattle.faults.specs.declared.Fault.TheVariants.{NoSuchDate}
use Rattle.calendar.specs.Dates.{date_exists}
use Rattle.calendar.specs.Yearly.{no_edition, in_no_year}
use Rattle.calendar.specs.Refusals.{day_answer}
use Rattle.calendar.specs.Texts.{number, fits, fits_at, yearly_form, edition_form, date_form, date_in, yearly_in, date_reading, yearly_reading, edition_reading}
use Rattle.calendar.proofs.Texts.{date_reading-is, date_reading-form, date_reading-none, yearly_reading-is, yearly_reading-none, edition_reading-is, edition_reading-none}
use Rattle.rules.specs.Text.{Line}
use Rattle.boards.specs.{Input.{start_right, diary_form, set_for, test_in, test_right, test_check}, inner.Walk.{start_of, within_of, no_day, noted_of, noted_from}}

-- ---- Forms

-- a text that has two forms in a row has each in its part
fits-parts : (f g xs : List ℕ) → fits (f ++ g) xs ≡ true → (fits f (take (length f) xs) ≡ true) × (fits g (drop (length f) xs) ≡ true)
unfolding fits
fits-parts [] g xs h = (refl, h)
fits-parts (c ∷ f) g [] h = (h, absurd (never h))
  where
    never : false ≡ true → ⊥
    never e =
        let z : ◌≡◌ {A = ℕ} 0 1 = cc in
        omega arith
fits-parts (c ∷ f) g (b ∷ xs) h =
    let here = and_left (fits_at c b) (fits (f ++ g) xs) h in
    let rest = fits-parts f g xs (and_right (fits_at c b) (fits (f ++ g) xs) h) in
    (rw (here, rest.0), rest.1)

module _ (bytes : List ℕ) where
  module _ (form : fits diary_form bytes ≡ true) where
    date-form : fits yearly_form (take 5 bytes) ≡ true
    date-form = (fits-parts yearly_form (0x20 ∷ edition_form) bytes form).0

    edition-form : fits edition_form (drop 6 bytes) ≡ true
    edition-form =
        let behind = (fits-parts yearly_form (0x20 ∷ edition_form) bytes form).1 in
        let last = (fits-parts (0x20 ∷ []) edition_form (drop 5 bytes) behind).1 in
        rw (sym (drop-drop 1 5 bytes)) last

  -- the date is that of the first five characters
  date-in : yearly_in (take 5 bytes) ≡ set_for (test_in bytes)
  unfolding yearly_in test_in
  date-in =
      let two : 2 ≤ 5 = omega arith in
      let five : 3 + 2 ≤ 5 = omega arith in
      rw (take-take 2 5 bytes two, take-drop-take 2 3 5 bytes five)

-- ---- A line of the diary

module _ (bytes : List ℕ) (ended : Bool) (j : ℕ) where
  abbrev line : Line
  line = record { bytes = bytes; ended = ended }

  pub unformed : fits diary_form bytes ≡ false → Refused NoSuchDate 0 ≡ noted_of j line
  unfolding noted_of test_check test_right
  unformed e = rw e

  module _ (form : fits diary_form bytes ≡ true) where
    -- an edition that is neither
    other-edition : no_edition (number (drop 6 bytes)) ≡ true
        → noted_from (edition_reading (drop 6 bytes)) (yearly_reading (take 5 bytes)) ended j ≡ noted_of j line
    unfolding noted_from noted_of test_check test_right test_in
    other-edition other =
        rw (edition_reading-none (drop 6 bytes) (edition-form bytes form) other, form, other)

    known-edition : no_edition (number (drop 6 bytes)) ≡ false
        → noted_from (edition_reading (drop 6 bytes)) (yearly_reading (take 5 bytes)) ended j ≡ noted_of j line
    unfolding noted_from noted_of test_check test_right test_in
    known-edition known =
        let said = edition_reading-is (drop 6 bytes) (edition-form bytes form) known in
        by_bool (in_no_year (yearly_in (take 5 bytes)))
        (λ none. rw (said, yearly_reading-none (take 5 bytes) (date-form bytes form) none, form, known, sym (date-in bytes), none))
        (λ some. rw (said, yearly_reading-is (take 5 bytes) (date-form bytes form) some, form, known, sym (date-in bytes), some)
        (by_bool ended (λ t. rw t (by_bool (leb j 20) (λ u. rw u) (λ e. rw e))) (λ e. rw e)))

    pub formed-noted : noted_from (edition_reading (drop 6 bytes)) (yearly_reading (take 5 bytes)) ended j ≡ noted_of j line
    formed-noted = by_bool (no_edition (number (drop 6 bytes))) other-edition known-edition

-- ---- The start

module _ (n : ℕ) where
  pub no_end : (bytes : List ℕ) → no_day ≡ start_of n (record { bytes = bytes; ended = false })
  unfolding start_of start_right
  no_end bytes = refl

  -- of what the calendar reads
  unfoldable pub started : Result Date Refusal → Result Day Refusal
  started (Ok d) = within_of n (day_answer d)
  started (Err e) = Err e

  pub with-end : (bytes : List ℕ) (date : Result Date Refusal) → date ≡ date_reading bytes
      → started date ≡ start_of n (record { bytes = bytes; ended = true })
  unfolding started start_of start_right within_of day_answer
  with-end bytes date is =
      ap started is
      ∙ by_bool (fits date_form bytes)
      (λ form. by_bool (date_exists (date_in bytes))
      (λ there. rw (date_reading-is bytes form there, there, form))
      (λ none. rw (date_reading-none bytes form none, form, none)))
      (λ other. rw (date_reading-form bytes other, other))
