-- Laws of sums: over two lists one after the other, over lists of lists, over what is kept, over a range, and in either order.
use Rattle.base.proofs.Prelude.{ℕ, zero, suc, ◌+◌, ◌<◌, max, ◌≡◌, refl, sym, ap, ◌∙◌, Bool, cond, List, [], ◌∷◌, ◌++◌, map, arith, length, get_or}
use mathlib.Core.List.{flat_map}
use Rattle.base.specs.Count.{sum_of, largest, keep, up_from}
use Rattle.base.proofs.{Lists.{by_bool, sum_of-add}, Order.{all_of, sum_of-zero}, Sums.{sum_to, sum_to-first, sum_to-eq}}

module _ {ℓ} {A : Type ℓ} where
  pub sum_of-append : (f : A → ℕ) (xs ys : List A) → sum_of f (xs ++ ys) ≡ sum_of f xs + sum_of f ys
  unfolding sum_of
  sum_of-append f [] ys = omega arith
  sum_of-append f (x ∷ xs) ys =
      let rest = sum_of-append f xs ys in
      omega arith

  -- each counts one
  pub sum_of-length : (xs : List A) → sum_of (λ x. 1) xs ≡ length xs
  unfolding sum_of
  sum_of-length [] = refl
  sum_of-length (x ∷ xs) =
      let rest = sum_of-length xs in
      omega arith

  -- by places numbered from k
  pub sum_of-places : (g : ℕ → ℕ) (f : A → ℕ) (z : A) (k : ℕ) (xs : List A) → ((j : ℕ) → j < length xs → g (k + j) ≡ f (get_or xs j z))
      → sum_of g (up_from k (length xs)) ≡ sum_of f xs
  unfolding sum_of up_from
  sum_of-places g f z k [] h = refl
  sum_of-places g f z k (x ∷ xs) h =
      let rest = sum_of-places g f z (suc k) xs (λ j a. ap g (shift j) ∙ h (suc j) (omega arith)) in
      let here : k + 0 ≡ k = omega arith in
      let head : g k ≡ f x = ap g (sym here) ∙ h 0 (omega arith) in
      omega arith
    where
      shift : (j : ℕ) → suc k + j ≡ k + suc j
      shift j = omega arith

module _ {ℓ κ} {A : Type ℓ} {B : Type κ} where
  pub sum_of-mapped : (f : B → ℕ) (g : A → B) (xs : List A) → sum_of f (map g xs) ≡ sum_of (λ x. f (g x)) xs
  unfolding sum_of
  sum_of-mapped f g [] = refl
  sum_of-mapped f g (x ∷ xs) =
      let rest = sum_of-mapped f g xs in
      omega arith

  pub largest-mapped : (f : B → ℕ) (g : A → B) (xs : List A) → largest f (map g xs) ≡ largest (λ x. f (g x)) xs
  unfolding largest
  largest-mapped f g [] = refl
  largest-mapped f g (x ∷ xs) = ap (max (f (g x))) (largest-mapped f g xs)

  -- those that are kept, made something else
  pub sum_of-kept : (f : B → ℕ) (g : A → B) (ok : A → Bool) (xs : List A)
      → sum_of f (map g (keep ok xs)) ≡ sum_of (λ x. cond (ok x) (f (g x)) 0) xs
  unfolding sum_of keep
  sum_of-kept f g ok [] = refl
  sum_of-kept f g ok (x ∷ xs) =
      let rest = sum_of-kept f g ok xs in
      by_bool (ok x) (λ t. rw t (omega arith)) (λ e. rw e (omega arith))

  pub sum_of-flat : (f : B → ℕ) (g : A → List B) (xs : List A) → sum_of f (flat_map g xs) ≡ sum_of (λ x. sum_of f (g x)) xs
  unfolding sum_of flat_map
  sum_of-flat f g [] = refl
  sum_of-flat f g (x ∷ xs) =
      let rest = sum_of-flat f g xs in
      let split = sum_of-append f (g x) (flat_map g xs) in
      omega arith

  -- row by row or column by column
  pub sum_of-swap : (f : A → B → ℕ) (xs : List A) (ys : List B)
      → sum_of (λ x. sum_of (f x) ys) xs ≡ sum_of (λ y. sum_of (λ x. f x y) xs) ys
  unfolding sum_of
  sum_of-swap f [] ys = sym (sum_of-zero (λ y. 0) ys (all_of (λ y. ◌≡◌ {A = ℕ} 0 0) (λ y. refl) ys))
  sum_of-swap f (x ∷ xs) ys =
      let rest = sum_of-swap f xs ys in
      let row = sum_of-add (f x) (λ y. sum_of (λ z. f z y) xs) ys in
      omega arith

-- a range, by its offsets
pub sum_of-range : (f : ℕ → ℕ) (k n : ℕ) → sum_of f (up_from k n) ≡ sum_to n (λ j. f (k + j))
unfolding sum_of up_from
sum_of-range f k zero = unfold sum_to in refl
sum_of-range f k (suc n) =
    let rest = sum_of-range f (suc k) n in
    let first = sum_to-first n (λ j. f (k + j)) in
    let here : f (k + 0) ≡ f k = ap f (here-is k) in
    let later =
    sum_to-eq n (λ j. f (suc k + j)) (λ j. f (k + suc j)) (λ j h. ap f (shift k j)) in
    omega arith
  where
    here-is : (k : ℕ) → k + 0 ≡ k
    here-is k = omega arith

    shift : (k j : ℕ) → suc k + j ≡ k + suc j
    shift k j = omega arith
