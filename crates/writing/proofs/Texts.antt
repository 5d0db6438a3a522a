-- Texts written one after the other into a part of a page, and the lengths of what is written.
use Rattle.base.proofs.Prelude.{ℕ, zero, suc, ◌+◌, ◌-◌, ◌*◌, ◌/◌, ◌%◌, ◌≤◌, ◌<◌, ◌≡◌, refl, sym, ap, ◌∙◌, List, [], ◌∷◌, ◌++◌, append_assoc, append-nil, arith, add-one, zero-mul, suc-mul, not-suc-le-zero, le_of_suc-le-suc, length, take, drop, get_or, set, length-append, length-drop, take-append_seam, drop-drop, take_all, take-suc, put_mid}
use mathlib.Core.List.{flat_map}
use lib.Seq.{drop-append_seam, drop-length}
use Rattle.std.specs.Int.{to_be_bytes, w32}
use borrow.Rule.Slice.PartMut.{post_of, Post-is, same_len_mid}
use Rattle.base.specs.{Count.sum_of, Digits.places_of}
use Rattle.base.proofs.Digits.{places-length}
use Rattle.rules.specs.Layout.{Layout, size_of, frame_size}
use Rattle.writing.specs.{declared.cells.Cell.Cell, Written.{number_bytes, byte_text, frame_bytes, line_text}, inner.Cells.{number_text, cell_text, cells_size, cells_text, SaysFrame}}

-- ---- Lists

module _ {ℓ κ} {A : Type ℓ} {B : Type κ} (f : A → List B) where
  pub flat_map-append : (xs ys : List A) → flat_map f (xs ++ ys) ≡ flat_map f xs ++ flat_map f ys
  unfolding flat_map
  flat_map-append [] ys = refl
  flat_map-append (x ∷ xs) ys = ap (λ rest. f x ++ rest) (flat_map-append xs ys) ∙ sym (append_assoc (f x) (flat_map f xs) (flat_map f ys))

  pub flat_map-one : (x : A) → flat_map f (x ∷ []) ≡ f x ++ []
  unfolding flat_map
  flat_map-one x = refl

  -- where each has the same length
  pub flat_map-length : (k : ℕ) → ((x : A) → length (f x) ≡ k) → (xs : List A) → length (flat_map f xs) ≡ length xs * k
  unfolding flat_map
  flat_map-length k each [] = omega (arith, zero-mul k)
  flat_map-length k each (x ∷ xs) =
      let rest = flat_map-length k each xs in
      let one = each x in
      omega (arith, length-append (f x) (flat_map f xs), suc-mul (length xs) k)

-- ---- Two texts one after the other are one

module _ (before : List ℕ) where
  -- the part holds the text t; the next part is handed on and comes back with the text u
  next-text : (t u part : List ℕ) → part ≡ t ++ drop (length t) before
      → take (length t) part ++ (u ++ drop (length u) (drop (length t) part)) ≡ (t ++ u) ++ drop (length t + length u) before
  next-text t u part is =
      let front : take (length t) part ≡ t = ap (take (length t)) is ∙ take-append_seam t (drop (length t) before) in
      let back : drop (length t) part ≡ drop (length t) before = ap (drop (length t)) is ∙ drop-append_seam t (drop (length t) before) in
      rw (front, back, drop-drop (length u) (length t) before) (sym (append_assoc t u (drop (length t + length u) before)))

-- ---- A part that is lent from a place to the end, and comes back

pub lent-part : (a : ℕ) (page : List ℕ) → take (length page - a) (drop a page) ≡ drop a page
lent-part a page = take_all (length page - a) (drop a page) (omega (arith, length-drop a page))

pub lent_back : (a : ℕ) (page part : List ℕ) → a ≤ length page → put_mid a (length page - a) page part ≡ take a page ++ part
lent_back a page part h =
    let behind : post_of a (length page - a) page ≡ [] = Post-is a (length page) page h ∙ drop-length page in
    rw behind (ap (λ rest. take a page ++ rest) (append-nil part))

pub lent_length : (a : ℕ) (page part next : List ℕ) → a ≤ length page
    → next ≡ part ++ drop (length part) (take (length page - a) (drop a page))
    → length part + a ≤ length page → length (put_mid a (length page - a) page next) ≡ length page
lent_length a page part next h is room =
    same_len_mid a (length page - a) page next
    (ap length (is ∙ ap (λ rest. part ++ drop (length part) rest) (lent-part a page))
    ∙ omega (
      arith,
      length-append part (drop (length part) (drop a page)),
      length-drop (length part) (drop a page),
      length-drop a page,
      ap
          length (lent-part a page),
    ))

-- the first bytes of a part, stored one by one
pub set-one : (part : List ℕ) (a : ℕ) → 1 ≤ length part → set part 0 a ≡ (a ∷ []) ++ drop 1 part
set-one [] a h = absurd (not-suc-le-zero h)
set-one (x ∷ part) a h = refl

pub set-two : (part : List ℕ) (a b : ℕ) → 2 ≤ length part → set (set part 0 a) 1 b ≡ (a ∷ b ∷ []) ++ drop 2 part
set-two [] a b h = absurd (not-suc-le-zero h)
set-two (x ∷ []) a b h = absurd (not-suc-le-zero (le_of_suc-le-suc h))
set-two (x ∷ y ∷ part) a b h = refl

-- ---- Lengths

pub byte_text-length : (b : ℕ) → length (byte_text b) ≡ 2
unfolding byte_text
byte_text-length b = refl

pub number_text-length : (size n : ℕ) → length (number_text size n) ≡ size * 2
unfolding number_text
number_text-length size n =
    flat_map-length byte_text 2 byte_text-length (number_bytes size n) ∙ ap (λ k. k * 2) (places-length 256 size n)

pub cells_text-length : (cs : List Cell) → length (cells_text cs) ≡ cells_size cs * 2
unfolding cells_text cells_size flat_map sum_of
cells_text-length [] = refl
cells_text-length (c ∷ cs) =
    let rest = cells_text-length cs in
    omega (arith, length-append (cell_text c) (flat_map cell_text cs), number_text-length c.size c.value)

-- ---- Numbers

-- the last bytes of a number's four are the number in so many
last_bytes : (size n : ℕ) → size ≤ 4 → drop (4 - size) (to_be_bytes w32 n) ≡ number_bytes size n
unfolding places_of
last_bytes zero n h = refl
last_bytes (suc zero) n h = refl
last_bytes (suc (suc zero)) n h = refl
last_bytes (suc (suc (suc zero))) n h = ap (λ a. a ∷ n / 256 % 256 ∷ n % 256 ∷ []) (omega arith)
last_bytes (suc (suc (suc (suc zero)))) n h =
    let high : n / 16777216 ≡ n / 256 / 256 / 256 = omega arith in
    let next : n / 65536 ≡ n / 256 / 256 = omega arith in
    ap (λ a. a % 256 ∷ n / 65536 % 256 ∷ n / 256 % 256 ∷ n % 256 ∷ []) high
    ∙ ap (λ a. n / 256 / 256 / 256 % 256 ∷ a % 256 ∷ n / 256 % 256 ∷ n % 256 ∷ []) next
last_bytes (suc (suc (suc (suc (suc k))))) n h = absurd (omega arith)

pub writing_bytes_of : (size n : ℕ) (four : List ℕ) → size ≤ 4 → four ≡ to_be_bytes w32 n
    → take (4 - (4 - size)) (drop (4 - size) four) ≡ number_bytes size n
writing_bytes_of size n four few is =
    let last = last_bytes size n few in
    let long : length (number_bytes size n) ≡ size = places-length 256 size n in
    rw (is, last) (take_all (4 - (4 - size)) (number_bytes size n) (omega arith))

-- ---- Frames, field by field

sum_of-more : (xs : List Cell) (x : Cell) → sum_of (λ c. c.size) (xs ++ (x ∷ [])) ≡ sum_of (λ c. c.size) xs + x.size
unfolding sum_of
sum_of-more [] x = omega arith
sum_of-more (y ∷ xs) x =
    let rest = sum_of-more xs x in
    omega arith

module _ (cs : List Cell) (z : Cell) (i : ℕ) (h : i < length cs) where
  -- one cell more
  step : take (i + 1) cs ≡ take i cs ++ (get_or cs i z ∷ [])
  step = rw add-one (take-suc cs i z h)

  pub cells_size-step : cells_size (take (i + 1) cs) ≡ cells_size (take i cs) + (get_or cs i z).size
  unfolding cells_size
  cells_size-step = ap (sum_of (λ c. c.size)) step ∙ sum_of-more (take i cs) (get_or cs i z)

  pub cells_text-step : cells_text (take (i + 1) cs) ≡ cells_text (take i cs) ++ cell_text (get_or cs i z)
  unfolding cells_text
  cells_text-step =
      ap (flat_map cell_text) step ∙ flat_map-append cell_text (take i cs) (get_or cs i z ∷ [])
      ∙ ap (λ rest. flat_map cell_text (take i cs) ++ rest) (flat_map-one cell_text (get_or cs i z)
      ∙ append-nil (cell_text (get_or cs i z)))

-- the size of the first cells grows with their number
pub cells_size-within : (cs : List Cell) (z : Cell) (i : ℕ) → i < length cs → cells_size (take i cs) + (get_or cs i z).size ≤ cells_size cs
unfolding cells_size sum_of
cells_size-within [] z i h = absurd (omega arith)
cells_size-within (c ∷ cs) z zero h = omega arith
cells_size-within (c ∷ cs) z (suc i) h =
    let rest : cells_size (take i cs) + (get_or cs i z).size ≤ cells_size cs = cells_size-within cs z i (omega arith) in
    omega arith

-- ---- A text that stands at the head of a part

-- the part holds the text, and behind it what stood there before
pub record TextStands (before text part : List ℕ) : Type 0 where
  pub size : length part ≡ length before
  pub is : part ≡ text ++ drop (length text) before

pub stands-none : (before : List ℕ) → TextStands before [] before
stands-none before = record { size = refl; is = refl }

-- a text at the head of the whole part
pub stands-first : (before t part : List ℕ) (size : ℕ) → length t ≡ size → size ≤ length before → part ≡ t ++ drop size before
    → TextStands before t part
stands-first before t part size long room got =
    record {
      size = ap length got ∙ omega (arith, length-append t (drop size before), length-drop size before);
      is = got ∙ ap (λ k. t ++ drop k before) (sym long);
    }

-- what follows is written into the next part
pub stands-next : (before t u part next : List ℕ) (a size : ℕ) → TextStands before t part → length t ≡ a → length u ≡ size
    → a + size ≤ length part
    → next ≡ u ++ drop size (take (length part - a) (drop a part)) → TextStands before (t ++ u) (put_mid a (length part - a) part next)
stands-next before t u part next a size stands long more room got =
    let here : a ≤ length part = omega arith in
    let counted = got ∙ ap (λ k. u ++ drop k (take (length part - a) (drop a part))) (sym more) in
    record {
      size = lent_length a part u next here counted (omega arith) ∙ stands.size;
      is =
          lent_back a part next here
          ∙ rw (got, lent-part a part, length-append t u, ← long, ← more) (next-text before t u part stands.is);
    }

-- ---- Cells and frames

flat_map-flat_map {ℓ κ ι} : {A : Type ℓ} {B : Type κ} {C : Type ι} (f : A → List B) (g : B → List C) (xs : List A)
    → flat_map g (flat_map f xs) ≡ flat_map (λ x. flat_map g (f x)) xs
unfolding flat_map
flat_map-flat_map f g [] = refl
flat_map-flat_map f g (x ∷ xs) = flat_map-append g (f x) (flat_map f xs) ∙ ap (λ rest. flat_map g (f x) ++ rest) (flat_map-flat_map f g xs)

-- a cell of one byte for the kind, then those of the fields
pub cells-frame : (kind : ℕ) (cs : List Cell) → kind % 256 ≡ kind
    → cells_text (record { size = 1; value = kind } ∷ cs) ≡ flat_map byte_text (kind ∷ flat_map (λ c. number_bytes c.size c.value) cs)
unfolding cells_text number_text places_of flat_map
cells-frame kind cs small =
    rw small
    (ap (λ text. text ++ flat_map cell_text cs) (append-nil (byte_text kind))
    ∙ ap (λ rest. byte_text kind ++ rest) (sym (flat_map-flat_map (λ c. number_bytes c.size c.value) byte_text cs)))

-- ---- Lines

pub line_text-length : (frame : List ℕ) → length (line_text frame) ≡ length frame * 2 + 1
unfolding line_text
line_text-length frame = length-append (flat_map byte_text frame) (0x0a ∷ []) ∙ ap (λ k. k + 1)
    (flat_map-length byte_text 2 byte_text-length frame)

module _ {F : Type 0} (l : Layout F) (says : F → ℕ) where
  fields-length : (fields : List F) → length (flat_map (λ f. number_bytes (l.size f) (says f)) fields) ≡ size_of l.size fields
  unfolding flat_map
  fields-length [] = refl
  fields-length (g ∷ fields) =
      let rest = fields-length fields in
      omega (
        arith,
        length-append (number_bytes (l.size g) (says g)) (flat_map (λ f. number_bytes (l.size f) (says f)) fields),
        places-length 256 (l.size g) (says g),
      )

  pub frame_bytes-length : length (frame_bytes l says) ≡ frame_size l
  unfolding frame_bytes
  frame_bytes-length = omega (arith, fields-length l.fields)

  -- what put_frame writes for cells that say a frame
  pub says-line : (cells : List Cell) → SaysFrame cells l says → cells_text cells ++ (0x0a ∷ []) ≡ line_text (frame_bytes l says)
  unfolding line_text
  says-line cells s = ap (λ digits. digits ++ (0x0a ∷ [])) s.text
