-- The first moving cost that differs: what the code finds among the strings, counted from 0, is what the definition finds by place.
use Rattle.base.proofs.Prelude.{ℕ, suc, zero, ◌+◌, ◌-◌, ◌≤◌, ◌<◌, ◌≡◌, sym, ◌∙◌, subst, Bool, false, List, [], ◌∷◌, arith, get_or, get_or-take, length, length-take-le}
use Rattle.base.proofs.{Least.{least_from-unique, least_from-none}, Lists.by_bool}
use Rattle.std.specs.Prelude.{Some, None, position}
use Rattle.std.specs.List.{position_from}
use Rattle.std.proofs.lemmas.Iterator.Adapters.{position_from-zero}
use Rattle.std.proofs.lemmas.List.Quantifiers.{position-Some}
use Rattle.rules.specs.{declared.BatteryString.BatteryString, declared.Plan.Plan, Plan.{strings_of, string_at, no_string}}
use Rattle.writing.specs.{Saved.{cost_differs, first_other}, inner.Costs.{other_than_first}}

-- where none is found, none passes
none-from : {A : Type 0} (f : A → Bool) (z : A) (k : ℕ) (xs : List A) → position_from f k xs ≡ None → (i : ℕ) → i < length xs
    → f (get_or xs i z) ≡ false
none-from f z k [] h i low = absurd (omega arith)
none-from f z k (x ∷ xs) h zero low = by_bool (f x) (λ t. let some = rw t at h in cc) (λ e. e)
none-from f z k (x ∷ xs) h (suc i) low =
    by_bool (f x) (λ t. let some = rw t at h in cc) (λ e. none-from f z (k + 1) xs (rw e at h) i (omega arith))

none-passes : {A : Type 0} (f : A → Bool) (z : A) (xs : List A) → position f xs ≡ None → (i : ℕ) → i < length xs → f (get_or xs i z) ≡ false
none-passes f z xs h = none-from f z 0 xs (sym (position_from-zero f xs) ∙ h)

module _ (p : Plan) (some : 1 ≤ p.n) (few : p.n ≤ length p.strings) where
  many : length (strings_of p) ≡ p.n
  many = length-take-le p.n p.strings few

  -- the string after i others
  abbrev after : ℕ → BatteryString
  after i = get_or (strings_of p) i no_string

  differs-after : (i : ℕ) → cost_differs p (i + 1) ≡ other_than_first p (after i)
  differs-after i =
      let back : (i + 1) - 1 ≡ i = omega arith in
      let first : string_at p 1 ≡ get_or p.strings 0 no_string = get_or-take p.n p.strings 0 no_string (omega arith) in
      rw (back, first)

  alike-before : (m : ℕ) → ((i : ℕ) → i < m → other_than_first p (after i) ≡ false) → (k : ℕ) → 1 ≤ k → k < m + 1 → cost_differs p k ≡ false
  alike-before m same k low high =
      let whole : (k - 1) + 1 ≡ k = omega arith in
      subst (λ j. cost_differs p j ≡ false) whole (differs-after (k - 1) ∙ same (k - 1) (omega arith))

  pub other-at : (i : ℕ) → position (other_than_first p) (strings_of p) ≡ Some i → (first_other p ≡ i + 1) × (i < p.n)
  unfolding first_other
  other-at i found =
      let said = position-Some (other_than_first p) (strings_of p) i no_string found in
      let inside : i < p.n = omega (arith, many, said.0) in (
        least_from-unique (cost_differs p) 1 p.n (i + 1) (omega arith) (omega arith) (differs-after i ∙ said.1)
            (alike-before i said.2),
        inside,
      )

  pub other_none : position (other_than_first p) (strings_of p) ≡ None → first_other p ≡ p.n + 1
  unfolding first_other
  other_none found =
      let said = none-passes (other_than_first p) no_string (strings_of p) found in
      let alike = alike-before p.n (λ i h. said i (omega (arith, many))) in
      let none = least_from-none (cost_differs p) 1 p.n (λ k low high. alike k low (omega arith)) in
      omega arith
