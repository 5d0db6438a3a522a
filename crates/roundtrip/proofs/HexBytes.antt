-- Digits and the bytes that they write: each says the other.
--     Small b               b is a byte
--     Digit b               b is a hexadecimal digit
use Rattle.base.proofs.Prelude.{ℕ, suc, ◌+◌, ◌-◌, ◌*◌, ◌/◌, ◌%◌, ◌≤◌, ◌<◌, ◌≡◌, refl, ◌∙◌, false, List, [], ◌∷◌, arith, dec_le, lt-ltb, le-ltb, ne_eqb, eqb, length}
use mathlib.Core.List.{flat_map}
use Rattle.base.proofs.Order.{all_append}
use Rattle.base.specs.Count.{All}
use Rattle.rules.specs.Text.{digit_of, hex_bytes}
use Rattle.reading.proofs.Hex.{digit_of-number, digit_of-letter, digit_of-other}
use Rattle.writing.specs.Written.{digit_text, byte_text}

abbrev pub SmallByte : ℕ → Type 0
SmallByte b = b < 256

abbrev pub Digit : ℕ → Type 0
Digit b = digit_of b < 16

-- ---- One digit

digit_text-low : (v : ℕ) → v < 10 → digit_text v ≡ 48 + v
unfolding digit_text
digit_text-low v h = rw (lt-ltb v 10 h)

digit_text-high : (v : ℕ) → 10 ≤ v → digit_text v ≡ 87 + v
unfolding digit_text
digit_text-high v h = rw (le-ltb v 10 h)

digit-said : (v : ℕ) → v < 16 → digit_of (digit_text v) ≡ v
digit-said v h =
    elim (dec_le (suc v) 10) [
      | yes low ↦ rw (digit_text-low v low) (digit_of-number (48 + v) (omega arith) (omega arith) ∙ omega arith)
      | no high ↦ rw (digit_text-high v (omega arith)) (digit_of-letter (87 + v) (omega arith) (omega arith) ∙ omega arith)
    ]

digit-written : (b : ℕ) → Digit b → digit_text (digit_of b) ≡ b
digit-written b h =
    elim (dec_le 48 b) [
      | yes low ↦ elim (dec_le b 57) [ yes high ↦ number low high | no high ↦ letters (λ l k. high k) ]
      | no low ↦ letters (λ l k. low l)
    ]
  where
    number : 48 ≤ b → b ≤ 57 → digit_text (digit_of b) ≡ b
    number low high = rw (digit_of-number b low high) (digit_text-low (b - 48) (omega arith) ∙ omega arith)

    letter : 97 ≤ b → b ≤ 102 → digit_text (digit_of b) ≡ b
    letter low high = rw (digit_of-letter b low high) (digit_text-high (b - 87) (omega arith) ∙ omega arith)

    other : (48 ≤ b → b ≤ 57 → ⊥) → (97 ≤ b → b ≤ 102 → ⊥) → digit_text (digit_of b) ≡ b
    other no_number no-letter =
        let sixteen = digit_of-other b no_number no-letter in
        omega arith

    letters : (48 ≤ b → b ≤ 57 → ⊥) → digit_text (digit_of b) ≡ b
    letters no_number =
        elim (dec_le 97 b) [
          | yes low ↦ elim (dec_le b 102) [ yes high ↦ letter low high | no high ↦ other no_number (λ l k. high k) ]
          | no low ↦ other no_number (λ l k. low l)
        ]

-- no digit ends a line
pub digit-no-end : (b : ℕ) → Digit b → eqb b 0x0a ≡ false
digit-no-end b h = ne_eqb b 0x0a (λ e. absurd (not-here (rw e at h)))
  where
    not-here : Digit 0x0a → ⊥
    not-here d = unfold digit_of in omega arith

-- ---- The digits of a byte

byte-digits : (b : ℕ) → SmallByte b → All Digit (byte_text b)
unfolding byte_text
byte-digits b h =
    let high = digit-said (b / 16) (omega arith) in
    let low = digit-said (b % 16) (omega arith) in
    (omega arith, (omega arith, tt))

-- ---- Frames

pub frame-digits : (frame : List ℕ) → All SmallByte frame → All Digit (flat_map byte_text frame)
unfolding flat_map
frame-digits [] h = tt
frame-digits (b ∷ frame) h = all_append Digit (byte_text b) (flat_map byte_text frame) (byte-digits b h.0) (frame-digits frame h.1)

pub frame-said : (frame : List ℕ) → All SmallByte frame → hex_bytes (flat_map byte_text frame) ≡ frame
unfolding flat_map byte_text hex_bytes
frame-said [] h = refl
frame-said (b ∷ frame) h =
    let small = h.0 in
    let high = digit-said (b / 16) (omega arith) in
    let low = digit-said (b % 16) (omega arith) in
    let byte : digit_of (digit_text (b / 16)) * 16 + digit_of (digit_text (b % 16)) ≡ b = omega arith in
    rw (byte, frame-said frame h.1)

pub frame-written : (digits : List ℕ) → All Digit digits → length digits % 2 ≡ 0 → flat_map byte_text (hex_bytes digits) ≡ digits
unfolding flat_map byte_text hex_bytes
frame-written [] h even = refl
frame-written (high ∷ []) h even = absurd (omega arith)
frame-written (high ∷ low ∷ digits) h even =
    let first = h.0 in
    let second = h.1.0 in
    let upper : (digit_of high * 16 + digit_of low) / 16 ≡ digit_of high = omega arith in
    let lower : (digit_of high * 16 + digit_of low) % 16 ≡ digit_of low = omega arith in
    rw (upper, lower, digit-written high first, digit-written low second, frame-written digits h.1.1 (omega arith))

pub frame_small : (digits : List ℕ) → All Digit digits → All SmallByte (hex_bytes digits)
unfolding hex_bytes
frame_small [] h = tt
frame_small (high ∷ []) h = tt
frame_small (high ∷ low ∷ digits) h =
    let first = h.0 in
    let second = h.1.0 in
    (omega arith, frame_small digits h.1.1)
