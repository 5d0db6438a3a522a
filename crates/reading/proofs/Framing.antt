-- A line as a frame: what stands from a position on decides `frame_check`, and a frame that is not refused stands where it should.
use Rattle.base.proofs.Prelude.{ℕ, zero, suc, ◌+◌, ◌*◌, ◌/◌, ◌≤◌, ◌≡◌, refl, sym, ap, ◌∙◌, false, not, ◌&&◌, List, [], ◌∷◌, arith, eq-eqb, ne_eqb, eqb-true, not-false, eqb, length, take, drop, length-drop, length-take-le}
use Rattle.faults.specs.Checks.{Refused, Lawful}
use Rattle.faults.specs.declared.Fault.TheVariants.{LineMalformed, FrameWrong}
use Rattle.faults.specs.Checks.{refuse_if}
use Rattle.faults.proofs.Checks.{then-first, then-second, refuse_if-not}
use Rattle.base.proofs.{Lists.and_left, Parts.take-drop-take}
use Rattle.rules.specs.Layout as rule
use Rattle.layouts.specs.{declared.Layout.Layout, inner.Versions.layout_for}
use Rattle.rules.specs.{Layout.{line_length, number_of, kind_in}, Text.{Line, well_formed, hex_bytes, frame_of, frame_check, layout_check}}
use Rattle.reading.specs.inner.Positions.{digits_ahead, lines_from, line_at, Frame, number_in}
use Rattle.reading.proofs.Lines.{Formed, lines_next, formed-yes, formed-is}

-- ---- Bytes of digits

pairs_of-length : (xs : List ℕ) → length (hex_bytes xs) ≡ length xs / 2
unfolding hex_bytes
pairs_of-length [] = refl
pairs_of-length (high ∷ []) = refl
pairs_of-length (high ∷ low ∷ xs) =
    let rest = pairs_of-length xs in
    omega arith

pub twice-more : (k : ℕ) → suc k * 2 ≡ suc (suc (k * 2))
twice-more k = omega arith

pairs_of-take : (size : ℕ) (xs : List ℕ) → hex_bytes (take (size * 2) xs) ≡ take size (hex_bytes xs)
unfolding hex_bytes
pairs_of-take zero xs = refl
pairs_of-take (suc size) [] = rw (twice-more size)
pairs_of-take (suc size) (high ∷ []) = rw (twice-more size)
pairs_of-take (suc size) (high ∷ low ∷ xs) = rw (twice-more size, pairs_of-take size xs)

-- ---- A frame

module _ (text : List ℕ) (at size : ℕ) (f : Frame text at size) where
  pub frame-next : lines_from text at ≡ line_at text at ∷ lines_from text (at + line_length size)
  unfolding line_at
  frame-next =
      let next = lines_next text at (rw f.digits f.inside) (rw f.digits f.newline) in
      next ∙ rw (next, f.digits)

  frame-bytes : frame_of (line_at text at) ≡ take size (hex_bytes (drop at text))
  unfolding line_at frame_of
  frame-bytes =
      rw (lines_next text at (rw f.digits f.inside) (rw f.digits f.newline), f.digits) (pairs_of-take size (drop at text))

  pub frame-length : length (frame_of (line_at text at)) ≡ size
  frame-length =
      let inside = f.inside in
      let long : size ≤ length (hex_bytes (drop at text)) = omega (arith, pairs_of-length (drop at text), length-drop at text) in
      ap length frame-bytes ∙ length-take-le size (hex_bytes (drop at text)) long

  pub frame-number : (k m : ℕ) → k + m ≤ size → number_of (take m (drop k (frame_of (line_at text at)))) ≡ number_in text at k m
  unfolding number_in
  frame-number k m h = ap number_of (rw frame-bytes (take-drop-take m k size (hex_bytes (drop at text)) h))

pub formed-frame : (text : List ℕ) (at size : ℕ) → Formed text at → digits_ahead (drop at text) / 2 ≡ size → Frame text at size
formed-frame text at size f e =
    let digits : digits_ahead (drop at text) ≡ size * 2 = omega (arith, f.even) in
    record { digits = digits; inside = rw digits at f.inside; newline = rw digits at f.newline }

-- ---- What decides a frame

module _ (text : List ℕ) (at k kind size : ℕ) where
  pub check-malformed : well_formed (line_at text at) ≡ false → frame_check k kind size (line_at text at) ≡ Refused LineMalformed k
  unfolding frame_check
  check-malformed e = rw e

  module _ (s : ℕ) (f : Formed text at) (e : digits_ahead (drop at text) / 2 ≡ s) where
    framed : Frame text at s
    framed = formed-frame text at s f e

    pub check-size : (s ≡ size → ⊥) → frame_check k kind size (line_at text at) ≡ Refused FrameWrong k
    unfolding frame_check
    check-size other = rw (formed-yes text at f, frame-length text at s framed, ne_eqb s size other)

    kind-is : kind_in (frame_of (line_at text at)) ≡ number_in text at 0 1
    kind-is = frame-number text at s framed 0 1 (omega (arith, f.some, f.even))

    module _ (fits : s ≡ size) where
      pub check-kind : (number_in text at 0 1 ≡ kind → ⊥) → frame_check k kind size (line_at text at) ≡ Refused FrameWrong k
      unfolding frame_check
      check-kind other = rw (formed-yes text at f, frame-length text at s framed, eq-eqb s size fits, kind-is, ne_eqb _ kind other)

      pub check-good : number_in text at 0 1 ≡ kind → frame_check k kind size (line_at text at) ≡ Lawful
      unfolding frame_check
      check-good same = rw (formed-yes text at f, frame-length text at s framed, eq-eqb s size fits, kind-is, eq-eqb _ kind same)

  pub frame_check-frame : frame_check k kind size (line_at text at) ≡ Lawful → Frame text at size
  unfolding frame_check
  frame_check-frame h =
      let line = line_at text at in
      let whole = eqb (length (frame_of line)) size in
      let same = eqb (kind_in (frame_of line)) kind in
      let form = refuse_if (not (well_formed line)) LineMalformed k in
      let wrong = refuse_if (not (whole && same)) FrameWrong k in
      let formed = formed-is text at (not-false _ (refuse_if-not _ _ _ (then-first form wrong h))) in
      let both = not-false (whole && same) (refuse_if-not _ _ _ (then-second form wrong h)) in
      formed-frame text at size formed
      (sym (frame-length text at _ (formed-frame text at _ formed refl)) ∙ eqb-true _ size (and_left whole same both))

-- the code's layout is the frame's
pub as-laid : {F : Type 0} (l : rule.Layout F) (said : Layout) → said ≡ layout_for l → (k : ℕ) (line : Line)
    → frame_check k said.kind said.size line ≡ layout_check k l line
as-laid l said e k line = ap (λ (s : Layout). frame_check k s.kind s.size line) e
