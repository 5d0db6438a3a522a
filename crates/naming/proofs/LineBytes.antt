-- A text by its lines: where a line starts, and how long it is.
use Rattle.base.proofs.Prelude.{ℕ, suc, ◌+◌, ◌-◌, ◌≤◌, ◌<◌, ◌≡◌, refl, ap, ◌∙◌, true, false, cond, List, [], ◌∷◌, arith, eqb, eq-eqb, ne_eqb, length, get_or, take, drop, drop-cons, drop_of_length-le}
use Rattle.base.proofs.Lists.{by_bool}
use Rattle.rules.specs.Text.{Line, before, lines_of}
use Rattle.naming.specs.{Lines.{no_line, line_no}, inner.Bytes.head_bytes}

-- ---- A text that has a byte more

lines-ended : (b : ℕ) (bs : List ℕ) → eqb b 0x0a ≡ true → lines_of (b ∷ bs) ≡ record { bytes = []; ended = true } ∷ lines_of bs
unfolding lines_of
lines-ended b bs t = rw t

lines_more : (b : ℕ) (bs : List ℕ) → eqb b 0x0a ≡ false → lines_of (b ∷ bs) ≡ before b (lines_of bs)
unfolding lines_of
lines_more b bs e = rw e

-- ---- The bytes of the first line

pub head-none : head_bytes [] ≡ []
unfolding head_bytes lines_of
head-none = refl

pub head-ends : (b : ℕ) (bs : List ℕ) → eqb b 0x0a ≡ true → head_bytes (b ∷ bs) ≡ []
unfolding head_bytes
head-ends b bs t = ap (λ lines. (line_no lines 1).bytes) (lines-ended b bs t)

before_head : (b : ℕ) (lines : List Line) → (line_no (before b lines) 1).bytes ≡ b ∷ (line_no lines 1).bytes
unfolding before
before_head b [] = refl
before_head b (line ∷ lines) = refl

pub head_more : (b : ℕ) (bs : List ℕ) → eqb b 0x0a ≡ false → head_bytes (b ∷ bs) ≡ b ∷ head_bytes bs
unfolding head_bytes
head_more b bs e = ap (λ lines. (line_no lines 1).bytes) (lines_more b bs e) ∙ before_head b (lines_of bs)

pub head-take : (text : List ℕ) → take (length (head_bytes text)) text ≡ head_bytes text
head-take [] = rw head-none
head-take (b ∷ bs) =
    by_bool (eqb b 0x0a) (λ t. rw (head-ends b bs t)) (λ e. rw (head_more b bs e) (ap (λ xs. b ∷ xs) (head-take bs)))

-- ---- Passing a byte

before-later : (b : ℕ) (lines : List Line) (m : ℕ) → get_or (before b lines) (suc m) no_line ≡ get_or lines (suc m) no_line
unfolding before
before-later b [] m = refl
before-later b (line ∷ lines) m = refl

-- a byte that ends a line is one line less to pass
pub passed-end : (b : ℕ) (bs : List ℕ) (left : ℕ) → 1 < left → eqb b 0x0a ≡ true
    → line_no (lines_of (b ∷ bs)) left ≡ line_no (lines_of bs) (left - 1)
passed-end b bs left h t =
    let two : left - 1 ≡ suc (left - 1 - 1) = omega arith in
    rw (lines-ended b bs t) (ap (λ i. get_or (record { bytes = []; ended = true } ∷ lines_of bs) i no_line) two)

pub passed-more : (b : ℕ) (bs : List ℕ) (left : ℕ) → 1 < left → eqb b 0x0a ≡ false
    → line_no (lines_of (b ∷ bs)) left ≡ line_no (lines_of bs) left
passed-more b bs left h e =
    let two : left - 1 ≡ suc (left - 1 - 1) = omega arith in
    rw (lines_more b bs e, two) (before-later b (lines_of bs) (left - 1 - 1))

pub byte-passed : (b : ℕ) (bs : List ℕ) (left : ℕ) → 1 < left
    → line_no (lines_of (b ∷ bs)) left ≡ line_no (lines_of bs) (left - cond (eqb b 0x0a) 1 0)
byte-passed b bs left h =
    by_bool (eqb b 0x0a)
    (λ t. rw t (passed-end b bs left h t))
    (λ e.
    let all : left - 0 ≡ left = omega arith in
    rw (e, all) (passed-more b bs left h e))

-- ---- By positions

module _ (text : List ℕ) (at : ℕ) where
  pub here-ends : at < length text → get_or text at 0 ≡ 10 → length (head_bytes (drop at text)) ≡ 0
  here-ends h e = rw (drop-cons text at 0 h, head-ends (get_or text at 0) (drop (suc at) text) (eq-eqb (get_or text at 0) 10 e))

  pub here-more : at < length text → (get_or text at 0 ≡ 10 → ⊥)
      → length (head_bytes (drop at text)) ≡ length (head_bytes (drop (at + 1) text)) + 1
  here-more h e =
      let next : suc at ≡ at + 1 = omega arith in
      let one : suc (length (head_bytes (drop (at + 1) text))) ≡ length (head_bytes (drop (at + 1) text)) + 1 = omega arith in
      rw (drop-cons text at 0 h, head_more (get_or text at 0) (drop (suc at) text) (ne_eqb (get_or text at 0) 10 e), next) one

  pub here-none : length text ≤ at → length (head_bytes (drop at text)) ≡ 0
  here-none h = rw (drop_of_length-le text h, head-none)

  pub past-none : (k : ℕ) → length text ≤ at → line_no (lines_of (drop at text)) k ≡ no_line
  unfolding lines_of
  past-none k h = rw (drop_of_length-le text h)

  pub past-byte : (left : ℕ) → at < length text → 1 < left
      → line_no (lines_of (drop at text)) left ≡ line_no (lines_of (drop (at + 1) text)) (left - cond (eqb (get_or text at 0) 10) 1 0)
  past-byte left h k =
      let next : suc at ≡ at + 1 = omega arith in
      rw (drop-cons text at 0 h, next) (byte-passed (get_or text at 0) (drop (at + 1) text) left k)

  pub line-whole : take (length (head_bytes (drop at text))) (drop at text) ≡ head_bytes (drop at text)
  line-whole = head-take (drop at text)

pub start-whole : (text : List ℕ) (k : ℕ) → line_no (lines_of (drop 0 text)) k ≡ line_no (lines_of text) k
start-whole text k = refl

-- the first line, counted or not
pub first-line : (lines : List Line) (left : ℕ) → left ≤ 1 → line_no lines left ≡ line_no lines 1
first-line lines left h =
    let none : left - 1 ≡ 0 = omega arith in
    ap (λ i. get_or lines i no_line) none

pub ends-most : (b : ℕ) → cond (eqb b 10) 1 0 ≤ 1
ends-most b = by_bool (eqb b 10) (λ t. rw t (omega arith)) (λ e. rw e (omega arith))
