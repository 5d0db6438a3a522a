-- The string lines by positions of the text, one after the other, and what they give where none is refused.
use Rattle.base.proofs.Prelude.{ℕ, zero, suc, ◌+◌, ◌-◌, ◌*◌, ◌≤◌, ◌<◌, ◌≡◌, refl, sym, ◌∙◌, List, arith, add-one, suc-mul, dec_le, length}
use Rattle.faults.specs.Checks.{Refused, Lawful, Checked}
use Rattle.std.specs.Prelude.{Err}
use Rattle.faults.specs.declared.Refusal.{Refusal}
use Rattle.faults.specs.declared.Fault.{Fault}
use Rattle.faults.specs.declared.Fault.TheVariants.{FrameWrong}
use Rattle.faults.proofs.Checks.{then-first, refused-not-lawful}
use Rattle.rules.specs.Refusal.{string_check}
use Rattle.rules.specs.{Layout.{Version, frame_size, line_size, string_frame}, Text.{Line, string_of, layout_check, string_line_check, string_lines_check}}
use Rattle.reading.specs.inner.Positions.{lines_from, line_at, Frame, Stand}
use Rattle.reading.proofs.{Lines.{line-here, lines_none}, Framing.{frame_check-frame, frame-next}, Standing.{stand-none, stand-more}}

module _ (v : Version) (header : Line) (text : List ℕ) where
  pub string-frame : (at k : ℕ) → string_line_check v header k (line_at text at) ≡ Lawful → Frame text at (frame_size (string_frame v))
  unfolding string_line_check
  string-frame at k h = frame_check-frame text at k (string_frame v).kind (frame_size (string_frame v)) (then-first _ _ h)

  pub string-refused : (k : ℕ) (line : Line) (e : Refusal) → layout_check k (string_frame v) line ≡ Err e
      → string_line_check v header k line ≡ Err e
  unfolding string_line_check
  string-refused k line e h = rw h

  pub string-judged : (k : ℕ) (line : Line) → layout_check k (string_frame v) line ≡ Lawful
      → string_line_check v header k line ≡ string_check k (string_of v header line)
  unfolding string_line_check
  string-judged k line h = rw h

  -- m lines and one are left from `at` on
  module _ (at k m : ℕ) where
    pub strings-missing : length text ≤ at → string_lines_check v header k (suc m) (lines_from text at) ≡ Refused FrameWrong k
    unfolding string_lines_check
    strings-missing h = rw (lines_none text at h)

    pub strings-bad : at < length text → (f : Fault) (a : ℕ) → string_line_check v header k (line_at text at) ≡ Refused f a
        → string_lines_check v header k (suc m) (lines_from text at) ≡ Refused f a
    unfolding string_lines_check
    strings-bad h f a e = rw ((line-here text at h).1, e)

    pub strings-good : string_line_check v header k (line_at text at) ≡ Lawful
        → string_lines_check v header k (suc m) (lines_from text at)
        ≡ string_lines_check v header (suc k) m (lines_from text (at + line_size (string_frame v)))
    unfolding string_lines_check
    strings-good e = rw (frame-next text at (frame_size (string_frame v)) (string-frame at k e), e)

    strings-first : at < length text → string_lines_check v header k (suc m) (lines_from text at) ≡ Lawful
        → string_line_check v header k (line_at text at) ≡ Lawful
    unfolding string_lines_check
    strings-first more h =
        let here = line-here text at more in
        then-first (string_line_check v header k (line_at text at)) (string_lines_check v header (suc k) m here.0) (rw here.1 at h)

  pub strings-end : (k : ℕ) (lines : List Line) → string_lines_check v header k 0 lines ≡ Lawful
  unfolding string_lines_check
  strings-end k lines = refl

  pub strings-stand : (at k n : ℕ) → at ≤ length text → string_lines_check v header k n (lines_from text at) ≡ Lawful
      → Stand text at (frame_size (string_frame v)) n
  strings-stand at k zero inside h = stand-none text (frame_size (string_frame v)) at inside
  strings-stand at k (suc n) inside h =
      elim (dec_le (suc at) (length text)) [
        | yes more ↦ step (strings-first at k n more h) (strings-stand (at + line_size (string_frame v)) (suc k) n)
        | no ended ↦ absurd (refused-not-lawful FrameWrong k (sym (strings-missing at k n (omega arith)) ∙ h))
      ]
    where
      step : string_line_check v header k (line_at text at) ≡ Lawful
          → (at + line_size (string_frame v) ≤ length text
          → string_lines_check v header (suc k) n (lines_from text (at + line_size (string_frame v))) ≡ Lawful
          → Stand text (at + line_size (string_frame v)) (frame_size (string_frame v)) n)
          → Stand text at (frame_size (string_frame v)) (suc n)
      step first later =
          let frame = string-frame at k first in
          stand-more text (frame_size (string_frame v)) at n frame
          (later (omega (arith, frame.inside)) (sym (strings-good at k n first) ∙ h))

-- ---- What the lines from the i-th on, of n, give; each line takes step bytes

abbrev pub strings_left : Version → List ℕ → ℕ → ℕ → ℕ → ℕ → Checked
strings_left v text step start n i = string_lines_check v (line_at text 0) (i + 2) (n - i) (lines_from text (start + i * step))

module _ (v : Version) (text : List ℕ) (step start n i : ℕ) where
  abbrev header_line : Line
  header_line = line_at text 0

  module _ (h : i < n) where
    one : n - i ≡ suc (n - (i + 1))
    one = omega arith

    pub left-missing : length text ≤ start + i * step → strings_left v text step start n i ≡ Refused FrameWrong (i + 2)
    left-missing ended = rw one (strings-missing v header_line text (start + i * step) (i + 2) (n - (i + 1)) ended)

    pub left-bad : start + i * step < length text → (e : Refusal)
        → string_line_check v header_line (i + 2) (line_at text (start + i * step)) ≡ Err e → strings_left v text step start n i ≡ Err e
    left-bad inside e h = rw one (strings-bad v header_line text (start + i * step) (i + 2) (n - (i + 1)) inside e.fault e.at h)

    pub reading-left-next : step ≡ line_size (string_frame v)
        → string_line_check v header_line (i + 2) (line_at text (start + i * step)) ≡ Lawful
        → strings_left v text step start n (i + 1) ≡ strings_left v text step start n i
    reading-left-next long e =
        let line : suc (i + 2) ≡ i + 1 + 2 = omega arith in
        let more : (i + 1) * step ≡ i * step + step = rw (add-one i) (suc-mul i step) in
        let there : start + i * step + line_size (string_frame v) ≡ start + (i + 1) * step = omega arith in
        sym (rw one (strings-good v header_line text (start + i * step) (i + 2) (n - (i + 1)) e ∙ rw (line, there)))

  pub left-end : n ≤ i → strings_left v text step start n i ≡ Lawful
  left-end h =
      let none : n - i ≡ 0 = omega arith in
      rw none (strings-end v header_line text (i + 2) (lines_from text (start + i * step)))
