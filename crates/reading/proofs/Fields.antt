-- The fields of a frame, by positions of the text.
use Rattle.base.proofs.Prelude.{ℕ, zero, suc, ◌+◌, ◌*◌, ◌^◌, ◌≤◌, ◌<◌, ◌≡◌, refl, ap, ◌∙◌, List, [], ◌∷◌, arith, add-one, not-suc-le-zero, pow-suc, eqb, length, take, drop, get_or, length-drop, drop-drop, get_or-drop, take-suc}
use native.Mathlib.Nat.{pow-le-pow_right}
use Rattle.base.specs.Digits.{number_on}
use Rattle.base.proofs.{Digits.number_on-last, Lists.by_bool}
use Rattle.rules.specs.{Layout.{Layout, size_of, frame_size, number_of, field_among, field_in}, Text.{hex_bytes, frame_of, field_of}}
use Rattle.layouts.specs.inner.Versions.{offset_among, size_among, offset_in, size_in}
use Rattle.reading.specs.inner.Positions.{digits_ahead, line_at, Frame, byte_in, number_in}
use Rattle.reading.proofs.{Hex.{digits_ahead-fits, ahead-digit}, Framing.{twice-more, frame-number}}

-- ---- Where a field stands

module _ {F : Type 0} (l : Layout F) (f : F) where
  among-is : (fields : List F) (k : ℕ) (bytes : List ℕ)
      → field_among l fields f (drop k bytes) ≡ number_of (take (size_among l fields f) (drop (k + offset_among l fields f) bytes))
  unfolding field_among number_on
  among-is [] k bytes = refl
  among-is (g ∷ rest) k bytes =
      by_bool (eqb (l.rank g) (l.rank f))
      (λ t.
      let here : k + 0 ≡ k = omega arith in
      rw (t, here))
      (λ e.
      let there : k + l.size g + offset_among l rest f ≡ k + (l.size g + offset_among l rest f) = omega arith in
      rw (e, drop-drop (l.size g) k bytes) (among-is rest (k + l.size g) bytes ∙ rw there))

  among-fits : (fields : List F) → offset_among l fields f + size_among l fields f ≤ size_of l.size fields
  among-fits [] = omega arith
  among-fits (g ∷ rest) =
      let later = among-fits rest in
      by_bool (eqb (l.rank g) (l.rank f)) (λ t. rw t (omega arith)) (λ e. rw e (omega arith))

  pub field_fits : offset_in l f + size_in l f ≤ frame_size l
  field_fits = omega (arith, among-fits l.fields)

  pub field_is : (text : List ℕ) (at : ℕ) → Frame text at (frame_size l)
      → field_of l f (line_at text at) ≡ number_in text at (offset_in l f) (size_in l f)
  unfolding field_of field_in
  field_is text at frame =
      among-is l.fields 1 (frame_of (line_at text at))
      ∙ frame-number text at (frame_size l) frame (offset_in l f) (size_in l f) field_fits

-- ---- Its number, one byte after the other

pairs_of-at : (xs : List ℕ) (k : ℕ) → k * 2 + 1 < length xs → (k < length (hex_bytes xs)) × (get_or (hex_bytes xs) k 0 ≡ byte_in xs (k * 2))
unfolding hex_bytes
pairs_of-at [] k h = absurd (not-suc-le-zero h)
pairs_of-at (high ∷ []) k h = absurd (omega arith)
pairs_of-at (high ∷ low ∷ xs) zero h = (omega arith, refl)
pairs_of-at (high ∷ low ∷ xs) (suc k) h =
    let later = pairs_of-at xs k (omega arith) in
    let low : suc (suc (k * 2)) + 1 ≡ suc (suc (k * 2 + 1)) = omega arith in
    rw (twice-more k, low) (omega (arith, later.0), later.1)

module _ (frame : List ℕ) (k : ℕ) where
  pub number-none : number_in frame 0 k 0 ≡ 0
  unfolding number_in number_on
  number-none = refl

  module _ (i : ℕ) (h : (k + i) * 2 + 1 < digits_ahead frame) where
    pub number-next : number_in frame 0 k (i + 1) ≡ number_in frame 0 k i * 256 + byte_in frame ((k + i) * 2)
    unfolding number_in
    number-next =
        let bytes = hex_bytes frame in
        let there = pairs_of-at frame (k + i) (omega (arith, digits_ahead-fits frame)) in
        let long : i < length (drop k bytes) = omega (arith, there.0, length-drop k bytes) in
        rw (add-one i, take-suc (drop k bytes) i 0 long, number_on-last 256 0 (take i (drop k bytes)) _, get_or-drop k bytes i 0)
        (ap (λ b. number_of (take i (drop k bytes)) * 256 + b) there.1)

    pub byte_small : byte_in frame ((k + i) * 2) < 256
    byte_small =
        let second = ahead-digit frame ((k + i) * 2 + 1) h in
        omega (arith, ahead-digit frame ((k + i) * 2) (omega arith))

-- ---- What bytes are worth

pub worth-small : (i : ℕ) → i ≤ 3 → 256 ^ i ≤ 16777216
worth-small i h = pow-le-pow_right (omega arith) h

pub worth-next : (i v b : ℕ) → v < 256 ^ i → b < 256 → v * 256 + b < 256 ^ (i + 1)
worth-next i v b h k = rw (add-one i, pow-suc 256 i) (omega arith)
