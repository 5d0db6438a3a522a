-- Frames of a layout and the lines that write them: each says the other.
--     frame_line frame       the line of a frame
--     written l says        the line of the layout l whose fields say what says gives them
--     Framed l line         the line writes a frame of the layout l
use Rattle.base.proofs.Prelude.{ℕ, ◌%◌, ◌<◌, ◌≡◌, refl, ap, ◌∙◌, true, not, ◌&&◌, List, [], ◌∷◌, ◌++◌, flat_map, arith, lt-ltb, ltb-true, eq-eqb, eqb-true, not-false, ltb, eqb, length, drop}
use Rattle.faults.specs.Checks.{Lawful}
use Rattle.base.specs.{Count.{All, every}, Digits.number_on}
use Rattle.base.proofs.Lists.{all_map, all-of-every, every-of-all, and_left, and_right}
use Rattle.faults.specs.Checks.{refuse_if}
use Rattle.faults.specs.declared.Fault.TheVariants.{LineMalformed, FrameWrong}
use Rattle.faults.proofs.Checks.{then-first, then-second, refuse_if-not}
use Rattle.rules.specs.{Layout.{Layout, frame_size, kind_in}, Text.{Line, digit_of, well_formed, frame_of, frame_check, layout_check}}
use Rattle.laws.proofs.LineTexts.{line_bytes}
use Rattle.writing.specs.Written.{byte_text, frame_bytes, line_text}
use Rattle.writing.proofs.Texts.{flat_map-length, byte_text-length, frame_bytes-length}
use Rattle.roundtrip.proofs.{HexBytes.{SmallByte, Digit, frame-digits, frame-said, frame-written, frame_small}, Numbers.{Says, Fits, fields-said, fields-written, fields-small}}

abbrev pub frame_line : List ℕ → Line
frame_line frame = record { bytes = flat_map byte_text frame; ended = true }

pub line_text-is : (frame : List ℕ) → line_text frame ≡ line_bytes (frame_line frame)
unfolding line_text
line_text-is frame = refl

-- ---- A frame that is written

digits-pass : (digits : List ℕ) → All Digit digits → every (λ b. ltb (digit_of b) 16) digits ≡ true
digits-pass digits h =
    every-of-all (λ b. ltb (digit_of b) 16) digits
    (all_map Digit (λ b. ltb (digit_of b) 16 ≡ true) (λ b small. lt-ltb (digit_of b) 16 small) digits h)

line-well : (frame : List ℕ) → All SmallByte frame → 0 < length frame → well_formed (frame_line frame) ≡ true
unfolding well_formed
line-well frame small some =
    let size = flat_map-length byte_text 2 byte_text-length frame in
    let long = lt-ltb 0 (length (flat_map byte_text frame)) (omega arith) in
    let even = eq-eqb (length (flat_map byte_text frame) % 2) 0 (omega arith) in
    rw (long, even, digits-pass (flat_map byte_text frame) (frame-digits frame small))

frame_is : (frame : List ℕ) → All SmallByte frame → frame_of (frame_line frame) ≡ frame
unfolding frame_of
frame_is frame small = frame-said frame small

abbrev pub line_written : {F : Type 0} → Layout F → (F → ℕ) → Line
line_written l says = frame_line (frame_bytes l says)

module _ {F : Type 0} (l : Layout F) (says : F → ℕ) (low : l.kind < 256) where
  pub bytes_small : All SmallByte (frame_bytes l says)
  unfolding frame_bytes
  bytes_small = (low, fields-small l says l.fields)

  written-kind : kind_in (frame_bytes l says) ≡ l.kind
  unfolding frame_bytes number_on
  written-kind = omega arith

  pub written-lawful : (k : ℕ) → layout_check k l (line_written l says) ≡ Lawful
  unfolding frame_check
  written-lawful k =
      let size = frame_bytes-length l says in
      let well = line-well (frame_bytes l says) bytes_small (omega arith) in
      rw (
        well,
        frame_is (frame_bytes l says) bytes_small,
        eq-eqb (length (frame_bytes l says)) (frame_size l) size,
        eq-eqb (kind_in (frame_bytes l says)) l.kind written-kind,
      )

  pub written-says : Fits l says → Says l says l.fields (drop 1 (frame_of (line_written l says)))
  unfolding frame_bytes
  written-says fits = rw (frame_is (frame_bytes l says) bytes_small) (fields-said l says fits l.fields)

-- ---- A frame that is read

module _ {F : Type 0} where
  pub record FramedAs (l : Layout F) (line : Line) : Type 0 where
    pub ended : line.ended ≡ true
    pub digits : All Digit line.bytes
    pub even : length line.bytes % 2 ≡ 0
    pub size : length (frame_of line) ≡ frame_size l
    pub kind : kind_in (frame_of line) ≡ l.kind

module _ {F : Type 0} (l : Layout F) (line : Line) where
  pub layout-framed : (k : ℕ) → layout_check k l line ≡ Lawful → FramedAs l line
  unfolding frame_check well_formed
  layout-framed k h =
      let E = line.ended in
      let L = ltb 0 (length line.bytes) in
      let P = eqb (length line.bytes % 2) 0 in
      let D = every (λ b. ltb (digit_of b) 16) line.bytes in
      let S = eqb (length (frame_of line)) (frame_size l) in
      let K = eqb (kind_in (frame_of line)) l.kind in
      let form = refuse_if (not (E && L && P && D)) LineMalformed k in
      let wrong = refuse_if (not (S && K)) FrameWrong k in
      let well = not-false (E && L && P && D) (refuse_if-not _ LineMalformed k (then-first form wrong h)) in
      let frame = not-false (S && K) (refuse_if-not _ FrameWrong k (then-second form wrong h)) in
      let elv = and_left (E && L && P) D well in
      record {
        ended = and_left E L (and_left (E && L) P elv);
        digits =
            all_map (λ b. ltb (digit_of b) 16 ≡ true) Digit (λ b t. ltb-true (digit_of b) 16 t) line.bytes
            (all-of-every (λ b. ltb (digit_of b) 16) line.bytes (and_right (E && L && P) D well));
        even = eqb-true (length line.bytes % 2) 0 (and_right (E && L) P elv);
        size = eqb-true (length (frame_of line)) (frame_size l) (and_left S K frame);
        kind = eqb-true (kind_in (frame_of line)) l.kind (and_right S K frame);
      }

bytes-written : {F : Type 0} (l : Layout F) (says : F → ℕ) (frame : List ℕ) → All SmallByte frame → length frame ≡ frame_size l
    → kind_in frame ≡ l.kind → Says l says l.fields (drop 1 frame) → frame_bytes l says ≡ frame
unfolding frame_bytes number_on
bytes-written l says [] small size kind s = absurd (omega arith)
bytes-written l says (b ∷ bytes) small size kind s =
    let first : l.kind ≡ b = omega arith in
    rw (first, fields-written l says l.fields bytes small.1 (omega arith) s)

-- a line whose fields say what is written is the line that is written
pub framed-written : {F : Type 0} (l : Layout F) (says : F → ℕ) (line : Line) → FramedAs l line
    → Says l says l.fields (drop 1 (frame_of line)) → line_text (frame_bytes l says) ≡ line_bytes line
unfolding frame_of
framed-written l says line f s =
    let bytes = bytes-written l says (frame_of line) (frame_small line.bytes f.digits) f.size f.kind s in
    line_text-is (frame_bytes l says)
    ∙ ap (λ digits. digits ++ (0x0a ∷ [])) (ap (flat_map byte_text) bytes ∙ frame-written line.bytes f.digits f.even)
