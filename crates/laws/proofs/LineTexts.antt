-- Lines and the text that they make, where each is ended by its 0a: each says the other.
--     text_of_lines lines     the text of the lines, each with its 0a
--     NoEnd line            no 0a stands in the line
use Rattle.base.proofs.Prelude.{ℕ, ◌≡◌, refl, sym, ap, ◌∙◌, true, false, List, [], ◌∷◌, ◌++◌, append_assoc, eqb-true, eqb}
use mathlib.Core.List.{flat_map}
use Rattle.base.specs.Count.{All}
use Rattle.base.proofs.Lists.{by_bool, true-not-false}
use Rattle.rules.specs.Text.{Line, before, lines_of}

abbrev pub line_bytes : Line → List ℕ
line_bytes line = line.bytes ++ (0x0a ∷ [])

abbrev pub text_of_lines : List Line → List ℕ
text_of_lines lines = flat_map line_bytes lines

abbrev pub EndedLine : Line → Type 0
EndedLine line = line.ended ≡ true

abbrev pub NoEnd : Line → Type 0
NoEnd line = All (λ b. eqb b 0x0a ≡ false) line.bytes

-- what stands up to a 0a is a line
pub line-next : (bytes rest : List ℕ) → All (λ b. eqb b 0x0a ≡ false) bytes
    → lines_of (bytes ++ (0x0a ∷ rest)) ≡ record { bytes = bytes; ended = true } ∷ lines_of rest
unfolding lines_of before
line-next [] rest h = refl
line-next (b ∷ bytes) rest h = rw (h.0, line-next bytes rest h.1)

pub lines-said : (lines : List Line) → All EndedLine lines → All NoEnd lines → lines_of (text_of_lines lines) ≡ lines
unfolding flat_map lines_of
lines-said [] e d = refl
lines-said (line ∷ lines) e d =
    ap lines_of (append_assoc line.bytes (0x0a ∷ []) (text_of_lines lines)) ∙ line-next line.bytes (text_of_lines lines) d.0
    ∙ rw (sym e.0) (ap (λ rest. line ∷ rest) (lines-said lines e.1 d.1))

-- ---- The other way

before-ended : (b : ℕ) (lines : List Line) → All EndedLine (before b lines) → All EndedLine lines
unfolding before
before-ended b [] h = tt
before-ended b (line ∷ lines) h = h

before_text : (b : ℕ) (lines : List Line) → All EndedLine (before b lines) → text_of_lines (before b lines) ≡ b ∷ text_of_lines lines
unfolding before flat_map
before_text b [] h = absurd (true-not-false (sym h.0))
before_text b (line ∷ lines) h = refl

pub lines-written : (text : List ℕ) → All EndedLine (lines_of text) → text_of_lines (lines_of text) ≡ text
unfolding lines_of flat_map
lines-written [] h = refl
lines-written (b ∷ text) h =
    by_bool (eqb b 0x0a)
    (λ t. rw t (ap (λ rest. 0x0a ∷ rest) (lines-written text (rw t at h).1) ∙ ap (λ x. x ∷ text) (sym (eqb-true b 0x0a t))))
    (λ e. rw e (before_text b (lines_of text) (rw e at h)
    ∙ ap (λ rest. b ∷ rest) (lines-written text (before-ended b (lines_of text) (rw e at h)))))
