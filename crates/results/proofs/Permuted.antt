-- What is the same of a list in another order: lengths, sums, counts, extremes, and tests of all and of any. Each is by its first element
-- and the rest, and a swap of two neighbours leaves it as it was.
use Rattle.base.proofs.Prelude.{ℕ, suc, ◌+◌, min, max, ◌≡◌, refl, ap, ◌∙◌, Bool, true, false, cond, List, [], ◌∷◌, arith, length}
use Rattle.base.specs.Count.{All, sum_of, largest, smallest, smallest_with, every, any, count_of}
use Rattle.results.specs.Order.{Permuted, same, skip, swap, chain}

-- ---- Two in either order

both-orders : (a b c : Bool) → cond a (cond b c false) false ≡ cond b (cond a c false) false
both-orders true b c = refl
both-orders false true c = refl
both-orders false false c = refl

either_order : (a b c : Bool) → cond a true (cond b true c) ≡ cond b true (cond a true c)
either_order true true c = refl
either_order true false c = refl
either_order false b c = refl

min-across : (a b c : ℕ) → min a (min b c) ≡ min b (min a c)
min-across a b c = omega arith

module _ {ℓ} {A : Type ℓ} where
  -- ---- The order itself

  -- and back again
  pub permuted-back : {xs ys : List A} → Permuted xs ys → Permuted ys xs
  permuted-back same = same
  permuted-back (skip x r) = skip x (permuted-back r)
  permuted-back (swap x y xs) = swap y x xs
  permuted-back (chain r s) = chain (permuted-back s) (permuted-back r)

  pub length-permuted : {xs ys : List A} → Permuted xs ys → length ys ≡ length xs
  length-permuted same = refl
  length-permuted (skip x r) = ap suc (length-permuted r)
  length-permuted (swap x y xs) = refl
  length-permuted (chain r s) = length-permuted s ∙ length-permuted r

  pub all-permuted : (P : A → Type 0) {xs ys : List A} → Permuted xs ys → All P xs → All P ys
  all-permuted P same h = h
  all-permuted P (skip x r) h = (h.0, all-permuted P r h.1)
  all-permuted P (swap x y xs) h = (h.1.0, (h.0, h.1.1))
  all-permuted P (chain r s) h = all-permuted P s (all-permuted P r h)

  -- ---- Sums

  pub sum_of-permuted : (f : A → ℕ) {xs ys : List A} → Permuted xs ys → sum_of f ys ≡ sum_of f xs
  unfolding sum_of
  sum_of-permuted f same = refl
  sum_of-permuted f (skip x r) = ap (λ n. f x + n) (sum_of-permuted f r)
  sum_of-permuted f (swap x y xs) = omega arith
  sum_of-permuted f (chain r s) = sum_of-permuted f s ∙ sum_of-permuted f r

  pub count_of-permuted : (f : A → Bool) {xs ys : List A} → Permuted xs ys → count_of f ys ≡ count_of f xs
  unfolding count_of
  count_of-permuted f same = refl
  count_of-permuted f (skip x r) = ap (λ n. cond (f x) 1 0 + n) (count_of-permuted f r)
  count_of-permuted f (swap x y xs) = omega arith
  count_of-permuted f (chain r s) = count_of-permuted f s ∙ count_of-permuted f r

  -- ---- Extremes

  pub largest-permuted : (f : A → ℕ) {xs ys : List A} → Permuted xs ys → largest f ys ≡ largest f xs
  unfolding largest
  largest-permuted f same = refl
  largest-permuted f (skip x r) = ap (max (f x)) (largest-permuted f r)
  largest-permuted f (swap x y xs) = omega arith
  largest-permuted f (chain r s) = largest-permuted f s ∙ largest-permuted f r

  smallest_with-permuted : (f : A → ℕ) (m : ℕ) {xs ys : List A} → Permuted xs ys → smallest_with f m ys ≡ smallest_with f m xs
  unfolding smallest_with
  smallest_with-permuted f m same = refl
  smallest_with-permuted f m (skip x r) = ap (min (f x)) (smallest_with-permuted f m r)
  smallest_with-permuted f m (swap x y xs) = min-across (f y) (f x) (smallest_with f m xs)
  smallest_with-permuted f m (chain r s) = smallest_with-permuted f m s ∙ smallest_with-permuted f m r

  -- what a smallest starts from is one of those that it is the smallest of
  smallest_with-start : (f : A → ℕ) (k m : ℕ) (xs : List A) → min k (smallest_with f m xs) ≡ min m (smallest_with f k xs)
  unfolding smallest_with
  smallest_with-start f k m [] = omega arith
  smallest_with-start f k m (x ∷ xs) =
      min-across k (f x) (smallest_with f m xs)
      ∙ ap (min (f x)) (smallest_with-start f k m xs)
      ∙ min-across (f x) m (smallest_with f k xs)

  pub smallest-permuted : (f : A → ℕ) {xs ys : List A} → Permuted xs ys → smallest f ys ≡ smallest f xs
  unfolding smallest smallest_with
  smallest-permuted f same = refl
  smallest-permuted f (skip x r) = smallest_with-permuted f (f x) r
  smallest-permuted f (swap x y xs) = smallest_with-start f (f x) (f y) xs
  smallest-permuted f (chain r s) = smallest-permuted f s ∙ smallest-permuted f r

  -- ---- Tests

  pub every-permuted : (f : A → Bool) {xs ys : List A} → Permuted xs ys → every f ys ≡ every f xs
  unfolding every
  every-permuted f same = refl
  every-permuted f (skip x r) = ap (λ rest. cond (f x) rest false) (every-permuted f r)
  every-permuted f (swap x y xs) = both-orders (f y) (f x) (every f xs)
  every-permuted f (chain r s) = every-permuted f s ∙ every-permuted f r

  pub any-permuted : (f : A → Bool) {xs ys : List A} → Permuted xs ys → any f ys ≡ any f xs
  unfolding any
  any-permuted f same = refl
  any-permuted f (skip x r) = ap (λ rest. cond (f x) true rest) (any-permuted f r)
  any-permuted f (swap x y xs) = either_order (f y) (f x) (any f xs)
  any-permuted f (chain r s) = any-permuted f s ∙ any-permuted f r
