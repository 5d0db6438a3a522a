-- Laws of counts: over two lists one after the other, over one element, and never more than there are.
use Rattle.base.proofs.Prelude.{◌+◌, ◌≤◌, ◌≡◌, Bool, cond, List, [], ◌∷◌, ◌++◌, arith, length}
use Rattle.base.specs.Count.{count_of}
use Rattle.base.proofs.Lists.{by_bool}

module _ {ℓ} {A : Type ℓ} (f : A → Bool) where
  pub count_of-append : (xs ys : List A) → count_of f (xs ++ ys) ≡ count_of f xs + count_of f ys
  unfolding count_of
  count_of-append [] ys = omega arith
  count_of-append (x ∷ xs) ys =
      let rest = count_of-append xs ys in
      omega arith

  pub count_of-one : (x : A) → count_of f (x ∷ []) ≡ cond (f x) 1 0
  unfolding count_of
  count_of-one x = omega arith

  pub count_of-le : (xs : List A) → count_of f xs ≤ length xs
  unfolding count_of
  count_of-le [] = omega arith
  count_of-le (x ∷ xs) =
      let rest = count_of-le xs in
      by_bool (f x) (λ t. rw t (omega arith)) (λ e. rw e (omega arith))
