-- A list whose elements all stand in another of the same length, each at a place of its own, is that list in another order. The first of
-- them is taken out of the other list, and the places behind it move up by one.
--     without i ys          ys without its i-th element, from 0
--     moved_up i j           the place j of ys, in `without i ys`
use Rattle.base.proofs.Prelude.{ℕ, zero, suc, ◌-◌, ◌≤◌, ◌<◌, ◌≡◌, refl, ap, ◌∙◌, cond, List, [], ◌∷◌, arith, dec_le, not-suc-le-zero, le_of_suc-le-suc, lt-ltb, le-ltb, ltb, length, get_or}
use Rattle.results.specs.Order.{Permuted, same, skip, swap, chain}

abbrev moved_up : ℕ → ℕ → ℕ
moved_up i j = cond (ltb j i) j (j - 1)

moved_up-low : (i j : ℕ) → j < i → moved_up i j ≡ j
moved_up-low i j h = rw (lt-ltb j i h)

moved_up-high : (i j : ℕ) → i < j → moved_up i j ≡ j - 1
moved_up-high i j h =
    let past : i ≤ j = omega arith in
    rw (le-ltb j i past)

both_high : (i j k : ℕ) → i < j → i < k → moved_up i j ≡ moved_up i k → j ≡ k
both_high i j k hj hk e = omega (arith, moved_up-high i j hj, moved_up-high i k hk)

-- no two places but i move to one
moved_up-apart : (i j k : ℕ) → (j ≡ i → ⊥) → (k ≡ i → ⊥) → moved_up i j ≡ moved_up i k → j ≡ k
moved_up-apart i j k nj nk e =
    elim (dec_le i j) [
      | yes hj ↦
          elim (dec_le i k) [
            | yes hk ↦ both_high i j k (beyond i j hj nj) (beyond i k hk nk) e
            | no lk ↦ absurd (omega (arith, e, moved_up-high i j (beyond i j hj nj), moved_up-low i k (omega arith), beyond i j hj nj))
          ]
      | no lj ↦
          elim (dec_le i k) [
            | yes hk ↦ absurd (omega (arith, e, moved_up-low i j (omega arith), moved_up-high i k (beyond i k hk nk), beyond i k hk nk))
            | no lk ↦ omega (arith, e, moved_up-low i j (omega arith), moved_up-low i k (omega arith))
          ]
    ]
  where
    beyond : (i j : ℕ) → i ≤ j → (j ≡ i → ⊥) → i < j
    beyond i j h n = omega arith

module _ {A : Type 0} (z : A) where
  unfoldable without : ℕ → List A → List A
  without i [] = []
  without zero (y ∷ ys) = ys
  without (suc i) (y ∷ ys) = y ∷ without i ys

  length_without : (ys : List A) (i : ℕ) → i < length ys → suc (length (without i ys)) ≡ length ys
  unfolding without
  length_without [] i h = absurd (not-suc-le-zero h)
  length_without (y ∷ ys) zero h = refl
  length_without (y ∷ ys) (suc i) h = ap suc (length_without ys i (le_of_suc-le-suc h))

  get_d-without-low : (ys : List A) (i j : ℕ) → j < i → get_or (without i ys) j z ≡ get_or ys j z
  unfolding without
  get_d-without-low ys zero j h = absurd (not-suc-le-zero h)
  get_d-without-low [] (suc i) j h = refl
  get_d-without-low (y ∷ ys) (suc i) zero h = refl
  get_d-without-low (y ∷ ys) (suc i) (suc j) h = get_d-without-low ys i j (le_of_suc-le-suc h)

  get_d-without-high : (ys : List A) (i j : ℕ) → i ≤ j → get_or (without i ys) j z ≡ get_or ys (suc j) z
  unfolding without
  get_d-without-high [] i zero h = refl
  get_d-without-high [] i (suc j) h = refl
  get_d-without-high (y ∷ ys) zero j h = refl
  get_d-without-high (y ∷ ys) (suc i) zero h = absurd (not-suc-le-zero h)
  get_d-without-high (y ∷ ys) (suc i) (suc j) h = get_d-without-high ys i j (le_of_suc-le-suc h)

  get_d-without : (ys : List A) (i j : ℕ) → (j ≡ i → ⊥) → get_or (without i ys) (moved_up i j) z ≡ get_or ys j z
  get_d-without ys i j other =
      elim (dec_le i j) [
        | yes high ↦
            let up : moved_up i j ≡ j - 1 = moved_up-high i j (omega arith) in
            let back : suc (j - 1) ≡ j = omega arith in
            let past : i ≤ j - 1 = omega arith in
            ap (λ k. get_or (without i ys) k z) up ∙ get_d-without-high ys i (j - 1) past ∙ ap (λ k. get_or ys k z) back
        | no low ↦
            let here : j < i = omega arith in
            ap (λ k. get_or (without i ys) k z) (moved_up-low i j here) ∙ get_d-without-low ys i j here
      ]

  moved_up-inside : (ys : List A) (i j : ℕ) → i < length ys → j < length ys → (j ≡ i → ⊥) → moved_up i j < length (without i ys)
  moved_up-inside ys i j hi hj other =
      elim (dec_le i j) [
        | yes high ↦
            let up : moved_up i j ≡ j - 1 = moved_up-high i j (omega arith) in
            omega (arith, length_without ys i hi)
        | no low ↦
            let up : moved_up i j ≡ j = moved_up-low i j (omega arith) in
            omega (arith, length_without ys i hi)
      ]

  -- an element in front of the others
  permuted-out : (ys : List A) (i : ℕ) → i < length ys → Permuted (get_or ys i z ∷ without i ys) ys
  unfolding without
  permuted-out [] i h = absurd (not-suc-le-zero h)
  permuted-out (y ∷ ys) zero h = same
  permuted-out (y ∷ ys) (suc i) h =
      chain (swap (get_or ys i z) y (without i ys)) (skip y (permuted-out ys i (le_of_suc-le-suc h)))

  -- each of xs stands in ys, at a place of its own
  pub record Placed (xs ys : List A) : Type 0 where
    pub as_many : length ys ≡ length xs
    pub at : ℕ → ℕ
    pub inside : (i : ℕ) → i < length xs → at i < length ys
    pub apart : (i j : ℕ) → i < length xs → j < length xs → at i ≡ at j → i ≡ j
    pub stands : (i : ℕ) → i < length xs → get_or ys (at i) z ≡ get_or xs i z

  other_place : (x : A) (xs ys : List A) (p : Placed (x ∷ xs) ys) (i : ℕ) → i < length xs → p.at (suc i) ≡ p.at zero → ⊥
  other_place x xs ys p i h e =
      let z : suc i ≡ 0 = p.apart (suc i) zero (omega arith) (omega arith) e in
      omega arith

  placed-rest : (x : A) (xs ys : List A) (p : Placed (x ∷ xs) ys) → Placed xs (without (p.at zero) ys)
  placed-rest x xs ys p =
      let first = p.inside zero (omega arith) in
      record {
        as_many = omega (arith, length_without ys (p.at zero) first, p.as_many);
        at = λ i. moved_up (p.at zero) (p.at (suc i));
        inside = λ i h. moved_up-inside ys (p.at zero) (p.at (suc i)) first (p.inside (suc i) (omega arith)) (other_place x xs ys p i h);
        apart = λ i j hi hj e. lower i j (p.apart (suc i) (suc j) (omega arith) (omega arith)
            (moved_up-apart (p.at zero) (p.at (suc i)) (p.at (suc j)) (other_place x xs ys p i hi) (other_place x xs ys p j hj) e));
        stands = λ i h. get_d-without ys (p.at zero) (p.at (suc i)) (other_place x xs ys p i h) ∙ p.stands (suc i) (omega arith);
      }
    where
      lower : (i j : ℕ) → suc i ≡ suc j → i ≡ j
      lower i j e = omega arith

  pub placed-permuted : (xs ys : List A) → Placed xs ys → Permuted xs ys
  placed-permuted [] [] p = same
  placed-permuted [] (y ∷ ys) p = absurd (omega (arith, p.as_many))
  placed-permuted (x ∷ xs) ys p =
      let first = p.inside zero (omega arith) in
      let out = permuted-out ys (p.at zero) first in
      let head : get_or ys (p.at zero) z ≡ x = p.stands zero (omega arith) in
      chain (skip x (placed-permuted xs (without (p.at zero) ys) (placed-rest x xs ys p))) (rw head at out)
