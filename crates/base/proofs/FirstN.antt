-- The first n of a list, from a place on: the one there and those after it, or nothing.
use Rattle.base.proofs.Prelude.{ℕ, ◌+◌, ◌≤◌, ◌<◌, ◌≡◌, List, [], ◌∷◌, arith, add-one, length, take, drop, get_or, drop_of_length-le, length-take, drop-cons, length-take-le, get_or-take}

module _ {ℓ} {A : Type ℓ} where
  pub part-cons : (n i : ℕ) (xs : List A) (z : A) → i < n → n ≤ length xs
      → drop i (take n xs) ≡ get_or xs i z ∷ drop (i + 1) (take n xs)
  part-cons n i xs z h k =
      let inside : i < length (take n xs) = omega (arith, length-take-le n xs k) in
      rw (add-one, drop-cons (take n xs) i z inside, get_or-take n xs i z h)

  pub part_end : (n i : ℕ) (xs : List A) → n ≤ i → drop i (take n xs) ≡ []
  part_end n i xs h =
      let past : length (take n xs) ≤ i = omega (arith, length-take n xs) in
      drop_of_length-le (take n xs) past
