-- The fields of a line, taken one after the other: what is decided at each.
use Rattle.base.proofs.Prelude.{ℕ, refl, suc, ◌+◌, ◌≤◌, ◌<◌, ◌≡◌, sym, ap, ◌∙◌, true, false, List, [], ◌∷◌, ◌++◌, map, map-append, arith, add-one, eq-eqb, ne_eqb, eqb, length, take, drop, get_or, set, length-drop, drop-drop, take-suc, take_all, get_or-drop}
use Rattle.std.specs.Prelude.{Option, Some, None}
use Rattle.std.proofs.lemmas.List.{take_more_set}
use Rattle.base.specs.{Count.{All, every}, Digits.decimal_in}
use Rattle.base.proofs.{Lists.{by_bool, true-not-false, every-of-all, all-of-every, all-at}, Order.all_append}
use Rattle.register.specs.{Table.{comma, in_front, fields_of, plain_number, numbers_formed}, inner.Fields.{register_number_in, numbers_in}}

abbrev pub Plain : ℕ → List (List ℕ) → Type 0
Plain most fields = All (λ f. plain_number most f ≡ true) fields

-- there is always a field
pub fields-some : (xs : List ℕ) → 1 ≤ length (fields_of xs)
unfolding fields_of in_front
fields-some [] = omega arith
fields-some (b ∷ xs) = by_bool (eqb b comma) (λ t. rw t (omega arith)) (λ e. rw e (front (fields_of xs)))
  where
    front : (fields : List (List ℕ)) → 1 ≤ length (in_front b fields)
    front [] = omega arith
    front (f ∷ fields) = omega arith

-- the numbers of the first i fields were read; those that are left come next
pub record Read (most : ℕ) (fields left : List (List ℕ)) (numbers : List ℕ) (i : ℕ) : Type 0 where
  pub many : i ≤ length fields
  pub rest : drop i fields ≡ left
  pub plain : Plain most (take i fields)
  pub said : take i numbers ≡ map decimal_in (take i fields)

pub read-start : (most : ℕ) (fields : List (List ℕ)) (numbers : List ℕ) → Read most fields fields numbers 0
read-start most fields numbers = record { many = omega arith; rest = refl; plain = tt; said = refl }

module _ (count most : ℕ) (fields : List (List ℕ)) where
  many-or-few : (length fields ≡ count → ⊥) → None ≡ numbers_in count most fields
  unfolding numbers_in numbers_formed
  many-or-few other = rw (ne_eqb (length fields) count other)

  one-other : every (plain_number most) fields ≡ false → None ≡ numbers_in count most fields
  unfolding numbers_in numbers_formed
  one-other e = by_bool (eqb (length fields) count) (λ t. rw (t, e)) (λ f. rw f)

  module _ (numbers : List ℕ) (i : ℕ) where
    -- no field is left
    pub read-few : Read most fields [] numbers i → i < count → None ≡ numbers_in count most fields
    read-few r h = many-or-few (λ e. omega (arith, length-drop i fields, ap length r.rest))

    pub read-all : Read most fields [] numbers i → i ≡ count → length numbers ≡ count → Some numbers ≡ numbers_in count most fields
    unfolding numbers_in numbers_formed
    read-all r all size =
        let count_is : length fields ≡ count = omega (arith, r.many, length-drop i fields, ap length r.rest) in
        let whole : take i fields ≡ fields = take_all i fields (omega arith) in
        let read : numbers ≡ map decimal_in fields = sym (take_all i numbers (omega arith)) ∙ r.said ∙ ap (map decimal_in) whole in
        rw (eq-eqb (length fields) count count_is, every-of-all (plain_number most) fields (rw whole at r.plain)) (ap Some read)

    -- another is left
    pub read-more : (xs : List ℕ) → Read most fields (fields_of xs) numbers i → i ≡ count → None ≡ numbers_in count most fields
    read-more xs r all =
        let more = fields-some xs in
        many-or-few (λ e. omega (arith, length-drop i fields, ap length r.rest))

    module _ (f : List ℕ) (left : List (List ℕ)) (r : Read most fields (f ∷ left) numbers i) where
      counted : length fields ≡ i + suc (length left)
      counted = omega (arith, r.many, length-drop i fields, ap length r.rest)

      this : get_or fields i [] ≡ f
      this =
          let at : i + 0 ≡ i = omega arith in
          sym (ap (λ k. get_or fields k []) at) ∙ sym (get_or-drop i fields 0 []) ∙ ap (λ l. get_or l 0 []) r.rest

      taken : take (i + 1) fields ≡ take i fields ++ (f ∷ [])
      taken =
          rw (add-one i) (take-suc fields i [] (omega (arith, counted)) ∙ ap (λ g. take i fields ++ (g ∷ [])) this)

      pub read-other : plain_number most f ≡ false → None ≡ numbers_in count most fields
      read-other e = one-other (by_bool (every (plain_number most) fields) (λ t. absurd (plain_here t)) (λ g. g))
        where
          plain_here : every (plain_number most) fields ≡ true → ⊥
          plain_here t =
              let plain = all-of-every (plain_number most) fields t in
              let at = all-at (λ g. plain_number most g ≡ true) fields [] plain i (omega (arith, counted)) in
              true-not-false (sym at ∙ ap (plain_number most) this ∙ e)

      pub read-next : plain_number most f ≡ true → i < length numbers → Read most fields left (set numbers i (decimal_in f)) (i + 1)
      read-next t inside =
          record {
            many = omega (arith, counted);
            rest = sym (drop-drop 1 i fields) ∙ ap (drop 1) r.rest;
            plain = rw taken (all_append (λ g. plain_number most g ≡ true) (take i fields) (f ∷ []) r.plain (t, tt));
            said =
                take_more_set numbers i (decimal_in f) inside ∙ ap (λ ns. ns ++ (decimal_in f ∷ [])) r.said
                ∙ sym (ap (map decimal_in) taken ∙ map-append decimal_in (take i fields) (f ∷ []));
          }

-- a field that is a number, and one that is none
module _ (most : ℕ) (field : List ℕ) where
  pub number-some : (n : ℕ) → register_number_in most field ≡ Some n → (plain_number most field ≡ true) × (n ≡ decimal_in field)
  unfolding register_number_in
  number-some n h =
      by_bool (plain_number most field)
      (λ t. let is : ◌≡◌ {A = Option ℕ} (Some (decimal_in field)) (Some n) = rw t at h in (t, cc))
      (λ e. absurd (let none : ◌≡◌ {A = Option ℕ} None (Some n) = rw e at h in cc))

  pub register-number-none : register_number_in most field ≡ None → plain_number most field ≡ false
  unfolding register_number_in
  register-number-none h =
      by_bool (plain_number most field)
      (λ t. absurd (let is : ◌≡◌ {A = Option ℕ} (Some (decimal_in field)) None = rw t at h in cc))
      (λ e. e)
