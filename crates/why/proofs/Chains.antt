-- The words of chains, as the definitions say them.
use Rattle.base.proofs.Prelude.{ℕ, zero, suc, ◌+◌, ◌-◌, ◌≤◌, ◌<◌, ◌≡◌, max, min, leb, refl, sym, ap, ◌∙◌, Bool, ◌||◌, List, [], ◌∷◌, map, arith, add-one, dec_le, le-leb, lt-leb, length}
use Rattle.std.specs.Prelude.{unwrap_or}
use Rattle.std.specs.List.{fold, reduce, list_any, range_with_len}
use Rattle.base.specs.Count.{largest, smallest, smallest_with, any, up_from}
use Rattle.base.proofs.Lists.{by_bool}

module _ {A : Type 0} where
  largest-from : (f : A → ℕ) (m : ℕ) (xs : List A) → fold max m (map f xs) ≡ max m (largest f xs)
  unfolding largest
  largest-from f m [] = omega arith
  largest-from f m (x ∷ xs) =
      let rest = largest-from f (max m (f x)) xs in
      omega arith

  pub largest-reduced : (f : A → ℕ) (xs : List A) → unwrap_or (reduce max (map f xs)) 0 ≡ largest f xs
  unfolding largest
  largest-reduced f [] = refl
  largest-reduced f (x ∷ xs) = largest-from f (f x) xs

  pub any-listed : (f : A → Bool) (xs : List A) → list_any f xs ≡ any f xs
  unfolding any
  any-listed f [] = refl
  any-listed f (x ∷ xs) = by_bool (f x) (λ t. rw t) (λ e. rw e (any-listed f xs))

pub range-up : (k n : ℕ) → range_with_len k n ≡ up_from k n
unfolding up_from
range-up k zero = refl
range-up k (suc n) = rw (← add-one k) (ap (λ ks. k ∷ ks) (range-up (k + 1) n))

-- one that fits is no shorter than the shortest
leb-min : (a b l : ℕ) → leb (min a b) l ≡ (leb a l || leb b l)
leb-min a b l =
    elim (dec_le a l) [
      | yes low ↦
          let least : min a b ≤ l = omega arith in
          rw (le-leb a l low, le-leb (min a b) l least)
      | no high ↦ elim (dec_le b l) [
        | yes low ↦
            let least : min a b ≤ l = omega arith in
            rw (lt-leb a l (omega arith), le-leb b l low, le-leb (min a b) l least)
        | no above ↦
            let least : l < min a b = omega arith in
            rw (lt-leb a l (omega arith), lt-leb b l (omega arith), lt-leb (min a b) l least)
      ]
    ]

module _ {A : Type 0} (f : A → ℕ) (l : ℕ) where
  any-fits : (m : ℕ) (xs : List A) → leb (smallest_with f m xs) l ≡ (leb m l || any (λ x. leb (f x) l) xs)
  unfolding smallest_with any
  any-fits m [] = by_bool (leb m l) (λ t. rw t) (λ e. rw e)
  any-fits m (x ∷ xs) =
      leb-min (f x) (smallest_with f m xs) l
      ∙ ap (λ t. leb (f x) l || t) (any-fits m xs)
      ∙ by_bool (leb (f x) l) (λ t. rw t (by_bool (leb m l) (λ u. rw u) (λ u. rw u))) (λ e. rw e)

  pub some-fits : (xs : List A) → 0 < length xs → any (λ x. leb (f x) l) xs ≡ leb (smallest f xs) l
  unfolding smallest any
  some-fits [] h = absurd (omega arith)
  some-fits (x ∷ xs) h = sym (any-fits (f x) xs ∙ by_bool (leb (f x) l) (λ t. rw t) (λ e. rw e))
