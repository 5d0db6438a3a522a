-- Sums, extremes, counts and searches over lists and ranges, in which the rules are said.
--     sum_of f xs            the sum of f over xs
--     largest f xs          the largest f of xs, 0 of none
--     smallest f xs         the smallest f of xs, 0 of none
--     every f xs            all of xs pass f
--     any f xs              one of xs at least passes f
--     All P xs              every one of xs has P
--     Member x xs           x stands somewhere in xs
--     keep f xs             those of xs that pass f, in their order
--     count_of f xs          how many of xs pass f
--     first_of f xs          the first of xs that passes f
--     up_from k n            the n numbers k, k + 1, ..
--     filled k z xs         xs, and z to fill k places
--     put_at i ys xs         xs with ys in place of as many elements from place i on
--     least_from f k n       the least of the n numbers from k on that passes f, or k + n where none does
-- In a recursion both ways are bound before `cond` chooses, so that only the chosen one is computed.
use Rattle.std.specs.Prelude.{ℕ, zero, suc, ◌+◌, ◌-◌, min, max, ◌≡◌, ◌⊎◌, Bool, true, false, cond, length, take, drop, replicate}
use mathlib.Core.List.{List, [], ◌∷◌, ◌++◌}
use Rattle.std.proofs.Math.Option.{Option, none, some}

module _ {ℓ} {A : Type ℓ} where
  unfoldable pub sum_of : (A → ℕ) → List A → ℕ
  sum_of f [] = 0
  sum_of f (x ∷ xs) = f x + sum_of f xs

  unfoldable pub largest : (A → ℕ) → List A → ℕ
  largest f [] = 0
  largest f (x ∷ xs) = max (f x) (largest f xs)

  -- the smallest of m and of f over xs
  unfoldable pub smallest_with : (A → ℕ) → ℕ → List A → ℕ
  smallest_with f m [] = m
  smallest_with f m (x ∷ xs) = min (f x) (smallest_with f m xs)

  unfoldable pub smallest : (A → ℕ) → List A → ℕ
  unfolding smallest_with
  smallest f [] = 0
  smallest f (x ∷ xs) = smallest_with f (f x) xs

  unfoldable pub every : (A → Bool) → List A → Bool
  every f [] = true
  every f (x ∷ xs) =
      let rest = every f xs in
      cond (f x) rest false

  unfoldable pub any : (A → Bool) → List A → Bool
  any f [] = false
  any f (x ∷ xs) =
      let rest = any f xs in
      cond (f x) true rest

  abbrev pub All : (A → Type 0) → List A → Type 0
  All P [] = Unit {0}
  All P (x ∷ xs) = P x × All P xs

  unfoldable pub keep : (A → Bool) → List A → List A
  keep f [] = []
  keep f (x ∷ xs) =
      let rest = keep f xs in
      cond (f x) (x ∷ rest) rest

  unfoldable pub count_of : (A → Bool) → List A → ℕ
  count_of f [] = 0
  count_of f (x ∷ xs) = cond (f x) 1 0 + count_of f xs

  unfoldable pub first_of : (A → Bool) → List A → Option A
  first_of f [] = none
  first_of f (x ∷ xs) =
      let later = first_of f xs in
      cond (f x) (some x) later

abbrev pub Member : {A : Type 0} → A → List A → Type 0
Member x [] = ⊥
Member x (y ∷ ys) = (x ≡ y) ⊎ Member x ys

abbrev pub filled {ℓ} : {A : Type ℓ} → ℕ → A → List A → List A
filled k z xs = xs ++ replicate (k - length xs) z

abbrev pub put_at {ℓ} : {A : Type ℓ} → ℕ → List A → List A → List A
put_at i ys xs = take i xs ++ (ys ++ drop (i + length ys) xs)

unfoldable pub up_from : ℕ → ℕ → List ℕ
up_from k zero = []
up_from k (suc n) = k ∷ up_from (suc k) n

unfoldable pub least_from : (ℕ → Bool) → ℕ → ℕ → ℕ
least_from f k zero = k
least_from f k (suc n) =
    let later = least_from f (suc k) n in
    cond (f k) k later
