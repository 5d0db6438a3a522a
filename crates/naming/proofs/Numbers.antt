-- The numbers that a line says, by its bytes.
use Rattle.base.proofs.Prelude.{ℕ, zero, suc, ◌+◌, ◌*◌, ◌^◌, ◌≤◌, ◌<◌, ◌≡◌, refl, sym, ap, ◌∙◌, List, [], ◌∷◌, arith, add-one, pow-suc, eqb, length, get_or, take, drop, drop-drop, not-suc-le-zero}
use native.Mathlib.Nat.{pow-le-pow_right}
use Rattle.base.specs.Digits.{number_on}
use Rattle.base.proofs.Lists.{by_bool}
use Rattle.rules.specs.Layout as rule
use Rattle.rules.specs.{Layout.{Layout, frame_size, field_among, field_in, held_to, header_frame, string_frame, release_frame, Common, Run, Own, Late, Due}, Text.{Line, digit_of, hex_bytes, frame_of, field_of, version_of}}
use Rattle.layouts.specs.{declared.Field.Field, declared.Layouts.Layouts, declared.Version.Version, inner.Versions.{offset_among, size_among, field_for, layouts_for, layouts_number_of, meant_by}}
use Rattle.layouts.proofs.Versions.{common-known, common-small, run-known, run_small, own-known, own-small, late-known, late-small, due-known, due-small, header-short, string-short, release-short, cost-sizes, late-sizes}
use Rattle.reading.proofs.Fields.{field_fits}
use Rattle.naming.specs.{Lines.line_no, inner.Bytes.number_at}

-- ---- Bytes of a frame

abbrev pub pair_at : List ℕ → ℕ → ℕ
pair_at bytes i = digit_of (get_or bytes (2 * i) 0) * 16 + digit_of (get_or bytes (2 * i + 1) 0)

pub hex-next : (bytes : List ℕ) (i : ℕ) → 2 * i + 1 < length bytes
    → drop i (hex_bytes bytes) ≡ pair_at bytes i ∷ drop (i + 1) (hex_bytes bytes)
unfolding hex_bytes
hex-next [] i h = absurd (not-suc-le-zero h)
hex-next (high ∷ []) i h = absurd (omega arith)
hex-next (high ∷ low ∷ bytes) zero h = refl
hex-next (high ∷ low ∷ bytes) (suc i) h =
    let one : 2 * suc i ≡ suc (suc (2 * i)) = omega arith in
    let two : 2 * suc i + 1 ≡ suc (suc (2 * i + 1)) = omega arith in
    let three : suc i + 1 ≡ suc (i + 1) = omega arith in
    rw (two, one, three) (hex-next bytes i (omega arith))

pub hex-ends : (bytes : List ℕ) (i : ℕ) → length bytes ≤ 2 * i + 1 → drop i (hex_bytes bytes) ≡ []
unfolding hex_bytes
hex-ends [] zero h = refl
hex-ends [] (suc i) h = refl
hex-ends (high ∷ []) zero h = refl
hex-ends (high ∷ []) (suc i) h = refl
hex-ends (high ∷ low ∷ bytes) zero h = absurd (omega arith)
hex-ends (high ∷ low ∷ bytes) (suc i) h = hex-ends bytes i (omega arith)

-- ---- The number, byte after byte; v is what those before say

abbrev pub number_rest : List ℕ → ℕ → ℕ → ℕ → ℕ
number_rest bytes v i size = number_on 256 v (take size (drop i (hex_bytes bytes)))

pub rest-next : (bytes : List ℕ) (v i size : ℕ) → 2 * i + 1 < length bytes
    → number_rest bytes v i (suc size) ≡ number_rest bytes (v * 256 + pair_at bytes i) (i + 1) size
unfolding number_on
rest-next bytes v i size h = rw (hex-next bytes i h)

-- the code's byte, whatever it is called
pub rest-step : (bytes : List ℕ) (v i size b : ℕ) → 2 * i + 1 < length bytes → b ≡ pair_at bytes i
    → number_rest bytes (v * 256 + b) (i + 1) size ≡ number_rest bytes v i (suc size)
rest-step bytes v i size b h e = rw e (sym (rest-next bytes v i size h))

pub pair_is : (a b x y : ℕ) → a ≡ x → b ≡ y → a * 16 + b ≡ x * 16 + y
pair_is a b x y e f = rw (e, f)

pub rest-ends : (bytes : List ℕ) (v i size : ℕ) → length bytes ≤ 2 * i + 1 → number_rest bytes v i size ≡ v
unfolding number_on
rest-ends bytes v i zero h = refl
rest-ends bytes v i (suc size) h = rw (hex-ends bytes i h)

pub rest-none : (bytes : List ℕ) (v i : ℕ) → number_rest bytes v i 0 ≡ v
unfolding number_on
rest-none bytes v i = refl

pub rest-whole : (bytes : List ℕ) (i size : ℕ) → number_rest bytes 0 i size ≡ number_at bytes i size
unfolding number_at
rest-whole bytes i size = refl

pub worth-more : (i v b : ℕ) → v + 2 ≤ 2 * 256 ^ i → b ≤ 272 → v * 256 + b + 2 ≤ 2 * 256 ^ (i + 1)
worth-more i v b h k = rw (add-one i, pow-suc 256 i) (omega arith)

pub worth-most : (i k : ℕ) → i ≤ k → 256 ^ i ≤ 256 ^ k
worth-most i k h = pow-le-pow_right (omega arith) h

-- ---- A field

module _ {F : Type 0} (l : Layout F) (f : F) where
  among-said : (fields : List F) (k : ℕ) (bytes : List ℕ)
      → rule.number_of (take (size_among l fields f) (drop (k + offset_among l fields f) bytes)) ≡ field_among l fields f (drop k bytes)
  unfolding field_among number_on
  among-said [] k bytes = refl
  among-said (g ∷ rest) k bytes =
      by_bool (eqb (l.rank g) (l.rank f))
      (λ t.
      let here : k + 0 ≡ k = omega arith in
      rw (t, here))
      (λ e.
      let there : k + (l.size g + offset_among l rest f) ≡ k + l.size g + offset_among l rest f = omega arith in
      rw (e, drop-drop (l.size g) k bytes, there) (among-said rest (k + l.size g) bytes))

  -- what stands where the code's field is, is what the definition's field says
  pub said : (field : Field) → field ≡ field_for l f → (line : Line) → number_at line.bytes field.at field.size ≡ field_of l f line
  unfolding number_at field_of field_in frame_of
  said field e line = rw e (among-said l.fields 1 (hex_bytes line.bytes))

  pub field-room-of : (field : Field) → field ≡ field_for l f → frame_size l * 2 + 1 ≤ 60 → field.at ≤ 60
  field-room-of field e short = omega (arith, ap (λ (g : Field). g.at) e, field_fits l f)

-- ---- The fields in which versions differ

module _ (version : Version) (layouts : Layouts) (known : layouts ≡ layouts_for (meant_by version)) where
  pub common-room : (layouts.common.at ≤ 60) × (layouts.common.size ≤ 4)
  common-room = (
    field-room-of (header_frame (meant_by version)) Common layouts.common (common-known version layouts known)
        (header-short (layouts_number_of version)),
    common-small version layouts known,
  )

  pub run_room : (layouts.run.at ≤ 60) × (layouts.run.size ≤ 4)
  run_room = (
    field-room-of (header_frame (meant_by version)) Run layouts.run (run-known version layouts known)
        (header-short (layouts_number_of version)),
    run_small version layouts known,
  )

  pub own_room : (layouts.own.at ≤ 60) × (layouts.own.size ≤ 4)
  own_room = (
    field-room-of (string_frame (meant_by version)) Own layouts.own (own-known version layouts known)
        (string-short (layouts_number_of version)),
    own-small version layouts known,
  )

  pub late-room : (layouts.late.at ≤ 60) × (layouts.late.size ≤ 4)
  late-room = (
    field-room-of (string_frame (meant_by version)) Late layouts.late (late-known version layouts known)
        (string-short (layouts_number_of version)),
    late-small version layouts known,
  )

  pub due_room : (layouts.due.at ≤ 60) × (layouts.due.size ≤ 4)
  due_room = (
    field-room-of (release_frame (meant_by version)) Due layouts.due (due-known version layouts known)
        (release-short (layouts_number_of version)),
    due-small version layouts known,
  )

  pub common-two : 256 ^ layouts.common.size ≤ 65536
  common-two =
      worth-most layouts.common.size 2 (omega (
        arith,
        ap (λ (f : Field). f.size) (common-known version layouts known),
        cost-sizes (layouts_number_of version),
      ))

  pub own-two : 256 ^ layouts.own.size ≤ 65536
  own-two =
      worth-most layouts.own.size 2 (omega (
        arith,
        ap (λ (f : Field). f.size) (own-known version layouts known),
        cost-sizes (layouts_number_of version),
      ))

  pub late-two : 256 ^ layouts.late.size ≤ 65536
  late-two =
      worth-most layouts.late.size 2 (omega (
        arith,
        ap (λ (f : Field). f.size) (late-known version layouts known),
        late-sizes (layouts_number_of version),
      ))

-- ---- The version

pub version-first : (lines : List Line) → held_to (number_at (line_no lines 1).bytes 1 1) ≡ version_of lines
unfolding number_at version_of frame_of hex_bytes held_to number_on
version-first [] = refl
version-first (header ∷ lines) = refl
