-- Which version a text is held to: the one that its first line names in its digits 3 and 4. A first line that is malformed is refused
-- alike in all versions.
use Rattle.base.proofs.Prelude.{ℕ, ◌/◌, ◌≤◌, ◌<◌, ◌≡◌, refl, sym, ap, ◌∙◌, true, false, List, [], ◌∷◌, arith, dec_le, not-suc-le-zero, le_of_suc-le-suc, length}
use Rattle.faults.specs.Checks.{Refused}
use Rattle.faults.specs.declared.Fault.TheVariants.{LineMalformed}
use Rattle.faults.proofs.Checks.{then-refused}
use Rattle.base.specs.Digits.{number_on}
use Rattle.base.proofs.Lists.{by_bool}
use Rattle.rules.specs.{Layout.{Version, frame_size, version_in, version01, held_to, header_frame}, Text.{lines_of, well_formed, frame_of, header_check, reading_in, version_of, reading_of, said_in}}
use Rattle.reading.specs.inner.Positions.{digits_ahead, line_at, Frame, number_in}
use Rattle.reading.proofs.{Lines.formed-is, Framing.{check-malformed, formed-frame, frame-next, frame-length, frame-number}, Whole.{read-long, read-empty, read-refused}}

-- a frame of one byte names no version
no-version : (frame : List ℕ) → length frame ≤ 1 → version_in frame ≡ 0
unfolding number_on
no-version [] h = refl
no-version (b ∷ []) h = refl
no-version (b ∷ c ∷ rest) h = absurd (not-suc-le-zero (le_of_suc-le-suc h))

module _ (text : List ℕ) where
  module _ (bad : well_formed (line_at text 0) ≡ false) where
    header-bad : (v : Version) → header_check v (line_at text 0) ≡ Refused LineMalformed 1
    unfolding header_check
    header-bad v = then-refused _ _ _ _ (check-malformed text 0 1 (header_frame v).kind (frame_size (header_frame v)) bad)

    malformed-alike : (v w : Version) → said_in (reading_in v text) ≡ said_in (reading_in w text)
    malformed-alike v w =
        elim (dec_le (length text) 65536) [
          | yes fits ↦
              elim (dec_le 1 (length text)) [
                | yes some ↦ read-refused v text fits some _ (header-bad v) ∙ sym (read-refused w text fits some _ (header-bad w))
                | no none ↦ read-empty v text fits (omega arith) ∙ sym (read-empty w text fits (omega arith))
              ]
          | no long ↦ read-long v text (omega arith) ∙ sym (read-long w text (omega arith))
        ]

  -- the first line is a frame
  framed : well_formed (line_at text 0) ≡ true → Frame text 0 (digits_ahead text / 2)
  framed t = formed-frame text 0 (digits_ahead text / 2) (formed-is text 0 t) refl

  held : well_formed (line_at text 0) ≡ true → version_of (lines_of text) ≡ held_to (version_in (frame_of (line_at text 0)))
  unfolding version_of
  held t = rw (frame-next text 0 (digits_ahead text / 2) (framed t))

  -- held to a version that is known of a first line that is a frame
  choose : (v : Version) → (well_formed (line_at text 0) ≡ true → version_of (lines_of text) ≡ v)
      → said_in (reading_of text) ≡ said_in (reading_in v text)
  unfolding reading_of
  choose v good =
      by_bool (well_formed (line_at text 0)) (λ t. ap (λ w. said_in (reading_in w text)) (good t))
      (λ bad. malformed-alike bad (version_of (lines_of text)) v)

  pub held-short : digits_ahead text < 4 → said_in (reading_of text) ≡ said_in (reading_in version01 text)
  unfolding held_to
  held-short few = choose version01 short
    where
      short : well_formed (line_at text 0) ≡ true → version_of (lines_of text) ≡ version01
      short t =
          let one = frame-length text 0 (digits_ahead text / 2) (framed t) in
          held t ∙ ap held_to (no-version (frame_of (line_at text 0)) (omega arith))

  pub held-named : 4 ≤ digits_ahead text → said_in (reading_of text) ≡ said_in (reading_in (held_to (number_in text 0 1 1)) text)
  held-named long =
      choose (held_to (number_in text 0 1 1))
      (λ t. held t ∙ ap held_to (frame-number text 0 (digits_ahead text / 2) (framed t) 1 1 (omega arith)))
