-- Laws of the first of a list that passes a test: there is none exactly where none passes; one that is found passes, is of the list,
-- and in a rising list none that passes comes before it. What a search keeps of the list does not matter, as long as it keeps that one.
use Rattle.base.proofs.Prelude.{ℕ, ◌≡◌, refl, sym, ap, ◌∙◌, ◌⊎◌, inl, inr, ◌↔◌, Bool, true, false, List, [], ◌∷◌, ◌++◌, none, some, arith}
use Rattle.base.specs.Count.{first_of, keep}
use Rattle.base.proofs.{Lists.{All, all_map, by_bool, true-not-false}, Order.{Rising, keep-yes, keep-no}}

module _ {A : Type 0} (f : A → Bool) where
  none-some : (x : A) → none ≡ some x → ⊥
  none-some x h =
      let z : ◌≡◌ {A = ℕ} 0 1 = cc in
      omega arith

  pub first_of-end : first_of f [] ≡ none
  unfolding first_of
  first_of-end = refl

  pub first_of-here : (x : A) (xs : List A) → f x ≡ true → first_of f (x ∷ xs) ≡ some x
  unfolding first_of
  first_of-here x xs t = rw t

  pub first_of-later : (x : A) (xs : List A) → f x ≡ false → first_of f (x ∷ xs) ≡ first_of f xs
  unfolding first_of
  first_of-later x xs e = rw e

  fail-if-none : (xs : List A) → first_of f xs ≡ none → All (λ x. f x ≡ false) xs
  fail-if-none [] h = tt
  fail-if-none (x ∷ xs) h =
      by_bool (f x)
      (λ t. absurd (none-some x (sym h ∙ first_of-here x xs t)))
      (λ e. (e, fail-if-none xs (sym (first_of-later x xs e) ∙ h)))

  none-if-fail : (xs : List A) → All (λ x. f x ≡ false) xs → first_of f xs ≡ none
  none-if-fail [] h = first_of-end
  none-if-fail (x ∷ xs) h = first_of-later x xs h.0 ∙ none-if-fail xs h.1

  pub first_of-none : (xs : List A) → (first_of f xs ≡ none) ↔ All (λ x. f x ≡ false) xs
  first_of-none xs = (fail-if-none xs, none-if-fail xs)

  -- it passes
  pub first_of-passes : (xs : List A) (x : A) → first_of f xs ≡ some x → f x ≡ true
  first_of-passes [] x h = absurd (none-some x (sym first_of-end ∙ h))
  first_of-passes (y ∷ xs) x h =
      by_bool (f y)
      (λ t.
      let same : y ≡ x = cc (first_of-here y xs t) in
      rw same at t)
      (λ e. first_of-passes xs x (sym (first_of-later y xs e) ∙ h))

  -- it is one of the list
  pub first_of-in : (P : A → Type 0) (xs : List A) (x : A) → All P xs → first_of f xs ≡ some x → P x
  first_of-in P [] x all h = absurd (none-some x (sym first_of-end ∙ h))
  first_of-in P (y ∷ xs) x all h =
      by_bool (f y)
      (λ t.
      let same : y ≡ x = cc (first_of-here y xs t) in
      rw same at all.0)
      (λ e. first_of-in P xs x all.1 (sym (first_of-later y xs e) ∙ h))

  -- in a rising list none that passes comes before it
  pub first_of-least :
      (R : A → A → Type 0) (xs : List A) (x : A) → Rising R xs → first_of f xs ≡ some x
      → All (λ y. f y ≡ true → (x ≡ y) ⊎ R x y) xs
  first_of-least R [] x rise h = tt
  first_of-least R (y ∷ xs) x rise h =
      by_bool (f y)
      (λ t.
      let same : y ≡ x = cc (first_of-here y xs t) in
      let later = all_map (R y) (λ z. f z ≡ true → (x ≡ z) ⊎ R x z) (λ z after u. inr (rw same at after)) xs rise.0 in
      ((λ u. inl (sym same)), later))
      (λ e. ((λ u. absurd (true-not-false (sym u ∙ e))), first_of-least R xs x rise.1 (sym (first_of-later y xs e) ∙ h)))

  -- among those that are kept it is the same, if it is kept itself
  pub first_of-keep :
      (g : A → Bool) (xs : List A) → ((x : A) → first_of f xs ≡ some x → g x ≡ true) → first_of f (keep g xs) ≡ first_of f xs
  unfolding keep
  first_of-keep g [] kept = refl
  first_of-keep g (y ∷ xs) kept =
      by_bool (f y)
      (λ t.
      let here = first_of-here y xs t in
      ap (first_of f) (keep-yes g y xs (kept y here)) ∙ first_of-here y (keep g xs) t ∙ sym here)
      (λ e.
      let later = first_of-later y xs e in
      let rest = first_of-keep g xs (λ x h. kept x (later ∙ h)) in
      by_bool (g y)
      (λ t. ap (first_of f) (keep-yes g y xs t) ∙ first_of-later y (keep g xs) e ∙ rest ∙ sym later)
      (λ u. ap (first_of f) (keep-no g y xs u) ∙ rest ∙ sym later))

  -- in two lists one after the other it is that of the first, or that of the second where the first has none
  pub first_of-front : (xs ys : List A) (x : A) → first_of f xs ≡ some x → first_of f (xs ++ ys) ≡ some x
  first_of-front [] ys x h = absurd (none-some x (sym first_of-end ∙ h))
  first_of-front (y ∷ xs) ys x h =
      by_bool (f y)
      (λ t. first_of-here y (xs ++ ys) t ∙ sym (first_of-here y xs t) ∙ h)
      (λ e. first_of-later y (xs ++ ys) e ∙ first_of-front xs ys x (sym (first_of-later y xs e) ∙ h))

  pub first_of-rest : (xs ys : List A) → first_of f xs ≡ none → first_of f (xs ++ ys) ≡ first_of f ys
  first_of-rest [] ys h = refl
  first_of-rest (y ∷ xs) ys h =
      by_bool (f y)
      (λ t. absurd (none-some y (sym h ∙ first_of-here y xs t)))
      (λ e. first_of-later y (xs ++ ys) e ∙ first_of-rest xs ys (sym (first_of-later y xs e) ∙ h))
