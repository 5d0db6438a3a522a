-- A text up to the first byte of a kind: lines end at a 0a, fields at a comma.
use Rattle.base.proofs.Prelude.{ℕ, sym, ap, ◌∙◌, cond, ltb, ltb-true, ltb-false, suc, ◌+◌, ◌≤◌, ◌<◌, ◌≡◌, refl, true, false, List, [], ◌∷◌, arith, add-one, not-suc-le-zero, eqb, length, take, drop, get_or, drop-cons, drop_of_length-le}
use Rattle.std.specs.Prelude.{Option, Some, None, position}
use Rattle.std.proofs.lemmas.List.Recursion.{is_position_or_len}
use Rattle.base.proofs.Lists.{by_bool}
use Rattle.rules.specs.Text.{Line, before, lines_of}
use Rattle.register.specs.{Table.{comma, in_front, fields_of}, inner.Fields.bytes_ahead}

module _ (stop : ℕ) where
  pub ahead_within : (xs : List ℕ) → bytes_ahead stop xs ≤ length xs
  unfolding bytes_ahead
  ahead_within [] = omega arith
  ahead_within (x ∷ xs) =
      let rest = ahead_within xs in
      by_bool (eqb x stop) (λ t. rw t (omega arith)) (λ e. rw e (omega arith))

  pub ahead-end : (xs : List ℕ) (i : ℕ) → length xs ≤ i → bytes_ahead stop (drop i xs) ≡ 0
  unfolding bytes_ahead
  ahead-end xs i h = rw (drop_of_length-le xs h)

  module _ (xs : List ℕ) (i : ℕ) (h : i < length xs) where
    pub ahead-stop : eqb (get_or xs i 0) stop ≡ true → bytes_ahead stop (drop i xs) ≡ 0
    unfolding bytes_ahead
    ahead-stop t = rw (drop-cons xs i 0 h, t)

    pub ahead-further : eqb (get_or xs i 0) stop ≡ false → bytes_ahead stop (drop i xs) ≡ suc (bytes_ahead stop (drop (i + 1) xs))
    unfolding bytes_ahead
    ahead-further e = rw (add-one i, drop-cons xs i 0 h, e)

  -- where the code finds the byte, and where it finds none
  where-is : (xs : List ℕ) → position (λ b. eqb b stop) xs ≡ cond (ltb (bytes_ahead stop xs) (length xs)) (Some (bytes_ahead stop xs)) None
  unfolding bytes_ahead
  where-is xs =
      let next : (x : ℕ) (ys : List ℕ) → bytes_ahead stop (x ∷ ys) ≡ cond (eqb x stop) 0 (1 + bytes_ahead stop ys) =
      λ x ys. ap (λ k. cond (eqb x stop) 0 k) (omega arith) in
      rw (is_position_or_len (bytes_ahead stop) (λ b. eqb b stop) refl next xs)

  pub register_found : (xs : List ℕ) (i : ℕ) → position (λ b. eqb b stop) xs ≡ Some i → (bytes_ahead stop xs ≡ i) × (i < length xs)
  register_found xs i h =
      let is = sym (where-is xs) ∙ h in
      by_bool (ltb (bytes_ahead stop xs) (length xs))
      (λ t.
      let here : ◌≡◌ {A = Option ℕ} (Some (bytes_ahead stop xs)) (Some i) = rw t at is in
      let place : bytes_ahead stop xs ≡ i = cc in
      (place, omega (arith, ltb-true _ _ t)))
      (λ e. absurd (let none : ◌≡◌ {A = Option ℕ} None (Some i) = rw e at is in cc))

  pub not-found : (xs : List ℕ) → position (λ b. eqb b stop) xs ≡ None → bytes_ahead stop xs ≡ length xs
  not-found xs h =
      let is = sym (where-is xs) ∙ h in
      by_bool (ltb (bytes_ahead stop xs) (length xs))
      (λ t. absurd (let here : ◌≡◌ {A = Option ℕ} (Some (bytes_ahead stop xs)) None = rw t at is in cc))
      (λ e. omega (arith, ltb-false _ _ e, ahead_within xs))

-- ---- Fields

-- no comma: one field
pub fields-last : (xs : List ℕ) → bytes_ahead comma xs ≡ length xs → fields_of xs ≡ xs ∷ []
unfolding bytes_ahead fields_of in_front
fields-last [] h = refl
fields-last (x ∷ xs) h =
    by_bool (eqb x comma)
    (λ t. absurd (none (rw t at h)))
    (λ e. rw (e, fields-last xs (less (rw e at h))))
  where
    none : 0 ≡ suc (length xs) → ⊥
    none k = omega arith

    less : suc (bytes_ahead comma xs) ≡ suc (length xs) → bytes_ahead comma xs ≡ length xs
    less k = omega arith

-- what stands ahead of a comma is the first field
pub fields-next : (xs : List ℕ) → bytes_ahead comma xs < length xs
    → fields_of xs ≡ take (bytes_ahead comma xs) xs ∷ fields_of (drop (bytes_ahead comma xs + 1) xs)
unfolding bytes_ahead fields_of in_front
fields-next [] h = absurd (not-suc-le-zero h)
fields-next (x ∷ xs) h =
    by_bool (eqb x comma)
    (λ t. rw t)
    (λ e.
    let rest = fields-next xs (less (rw e at h)) in
    rw (e, rest, add-one (bytes_ahead comma xs), add-one (suc (bytes_ahead comma xs))))
  where
    less : suc (bytes_ahead comma xs) < suc (length xs) → bytes_ahead comma xs < length xs
    less k = omega arith

-- the first field and those behind it, as the code takes them
pub fields-found : (xs : List ℕ) (i : ℕ) → position (λ b. eqb b comma) xs ≡ Some i → fields_of xs ≡ take i xs ∷ fields_of (drop (i + 1) xs)
fields-found xs i h =
    let here = register_found comma xs i h in
    rw here.0 at (fields-next xs (omega (arith, here)))

pub fields-not-found : (xs : List ℕ) → position (λ b. eqb b comma) xs ≡ None → fields_of xs ≡ xs ∷ []
fields-not-found xs h = fields-last xs (not-found comma xs h)

-- ---- Lines

-- no 0a: one line, which lacks it
lines-unended : (x : ℕ) (xs : List ℕ) → bytes_ahead 0x0a (x ∷ xs) ≡ length (x ∷ xs)
    → lines_of (x ∷ xs) ≡ record { bytes = x ∷ xs; ended = false } ∷ []
unfolding bytes_ahead lines_of before
lines-unended x [] h = by_bool (eqb x 0x0a) (λ t. absurd (none (rw t at h))) (λ e. rw e)
  where
    none : ◌≡◌ {A = ℕ} 0 1 → ⊥
    none k = omega arith
lines-unended x (y ∷ xs) h =
    by_bool (eqb x 0x0a)
    (λ t. absurd (none (rw t at h)))
    (λ e. rw (e, lines-unended y xs (less (rw e at h))))
  where
    none : 0 ≡ suc (suc (length xs)) → ⊥
    none k = omega arith

    less : suc (bytes_ahead 0x0a (y ∷ xs)) ≡ suc (suc (length xs)) → bytes_ahead 0x0a (y ∷ xs) ≡ suc (length xs)
    less k = omega arith

pub lines-open : (xs : List ℕ) → 1 ≤ length xs → bytes_ahead 0x0a xs ≡ length xs → lines_of xs ≡ record { bytes = xs; ended = false } ∷ []
lines-open [] some h = absurd (not-suc-le-zero some)
lines-open (x ∷ xs) some h = lines-unended x xs h

-- what stands ahead of a 0a is the first line
pub lines-closed : (xs : List ℕ) → bytes_ahead 0x0a xs < length xs
    → lines_of xs ≡ record { bytes = take (bytes_ahead 0x0a xs) xs; ended = true } ∷ lines_of (drop (bytes_ahead 0x0a xs + 1) xs)
unfolding bytes_ahead lines_of before
lines-closed [] h = absurd (not-suc-le-zero h)
lines-closed (x ∷ xs) h =
    by_bool (eqb x 0x0a)
    (λ t. rw t)
    (λ e.
    let rest = lines-closed xs (less (rw e at h)) in
    rw (e, rest, add-one (bytes_ahead 0x0a xs), add-one (suc (bytes_ahead 0x0a xs))))
  where
    less : suc (bytes_ahead 0x0a xs) < suc (length xs) → bytes_ahead 0x0a xs < length xs
    less k = omega arith

-- a text that is not empty has a line
pub lines-some : (xs : List ℕ) → 1 ≤ length xs → 1 ≤ length (lines_of xs)
unfolding lines_of before
lines-some [] h = absurd (omega arith)
lines-some (x ∷ xs) h = by_bool (eqb x 0x0a) (λ t. rw t (omega arith)) (λ e. rw e (front (lines_of xs)))
  where
    front : (lines : List Line) → 1 ≤ length (before x lines)
    front [] = omega arith
    front (line ∷ lines) = omega arith
