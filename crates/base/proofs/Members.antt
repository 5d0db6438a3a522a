-- What is a member of a list made by `keep`, `map` and `up_from`.
use Rattle.base.proofs.Prelude.{ℕ, zero, suc, ◌+◌, ◌≤◌, ◌<◌, ◌≡◌, refl, sym, ap, ◌∙◌, inl, inr, Bool, true, false, List, [], ◌∷◌, map, arith, ℕ_discrete}
use Rattle.base.specs.Count.{up_from, keep, Member}
use Rattle.base.proofs.Lists.{by_bool}

module _ {A : Type 0} (f : A → Bool) (x : A) where
  pub kept-of-member : (xs : List A) → Member x xs → f x ≡ true → Member x (keep f xs)
  unfolding keep
  kept-of-member [] m h = absurd m
  kept-of-member (y ∷ ys) (inl e) h = rw (ap f (sym e) ∙ h) (inl e)
  kept-of-member (y ∷ ys) (inr m) h =
      let rest = kept-of-member ys m h in
      by_bool (f y) (λ t. rw t (inr rest)) (λ t. rw t rest)

  pub member-of-kept : (xs : List A) → Member x (keep f xs) → Member x xs × (f x ≡ true)
  unfolding keep
  member-of-kept [] m = absurd m
  member-of-kept (y ∷ ys) m = by_bool (f y) (λ t. kept t (rw t at m) (member-of-kept ys)) (λ t. later (member-of-kept ys (rw t at m)))
    where
      later : Member x ys × (f x ≡ true) → Member x (y ∷ ys) × (f x ≡ true)
      later both = (inr both.0, both.1)

      kept : f y ≡ true → Member x (y ∷ keep f ys) → (Member x (keep f ys) → Member x ys × (f x ≡ true)) → Member x (y ∷ ys) × (f x ≡ true)
      kept t (inl e) rest = (inl e, ap f e ∙ t)
      kept t (inr n) rest = later (rest n)

-- where none passes, none is kept
pub keep-none {ℓ} : {A : Type ℓ} (f : A → Bool) → ((y : A) → f y ≡ false) → (xs : List A) → keep f xs ≡ []
unfolding keep
keep-none f none [] = refl
keep-none f none (y ∷ ys) = rw (none y) (keep-none f none ys)

module _ {A B : Type 0} (f : A → B) where
  pub mapped-of-member : (x : A) (xs : List A) → Member x xs → Member (f x) (map f xs)
  mapped-of-member x [] m = absurd m
  mapped-of-member x (y ∷ ys) (inl e) = inl (ap f e)
  mapped-of-member x (y ∷ ys) (inr m) = inr (mapped-of-member x ys m)

  pub member-of-mapped : (z : B) (xs : List A) → Member z (map f xs) → (x : A) × (Member x xs) × (z ≡ f x)
  member-of-mapped z [] m = absurd m
  member-of-mapped z (y ∷ ys) (inl e) = (y, inl refl, e)
  member-of-mapped z (y ∷ ys) (inr m) =
      let rest = member-of-mapped z ys m in
      (rest.0, inr rest.1, rest.2)

pub up_from-member : (i k n : ℕ) → k ≤ i → i < k + n → Member i (up_from k n)
unfolding up_from
up_from-member i k zero low high = absurd (omega arith)
up_from-member i k (suc n) low high =
    elim (ℕ_discrete i k) [ yes same ↦ inl same | no other ↦ inr (up_from-member i (suc k) n (omega arith) (omega arith)) ]
