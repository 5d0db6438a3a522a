-- The first string without a partner, and why it has none: up to it the list has more strings like it than the other list has.
use Rattle.base.proofs.Prelude.{ℕ, zero, suc, ◌+◌, ◌≤◌, ◌<◌, ◌≡◌, refl, sym, ap, ◌∙◌, ◌↔◌, Bool, true, false, List, Option, none, some, arith, dec_le, ℕ_discrete, eqb-true, eqb-false, eq-eqb, ne_eqb, eqb, length, get_or, take}
use Rattle.base.specs.Count.{count_of, up_from, first_of}
use Rattle.base.proofs.{Lists.by_bool, FirstOf.{first_of-end, first_of-here, first_of-later}}
use Rattle.rules.specs.{declared.BatteryString.BatteryString, Plan.no_string}
use Rattle.results.specs.{Order.Permuted, Places.{string_in, Place}, Partners.{alike, partner, first_alone, LeftAlone}}
use Rattle.results.proofs.{Ranks.{rank, rank_step}, Partners.{like_at, partner-there, partner-none, alike_self}, Bijection.{from_zero, EachPartnered, permuted-partnered}}

none-some : {A : Type 0} (x : A) → none ≡ some x → ⊥
none-some x h =
    let z : ◌≡◌ {A = ℕ} 0 1 = cc in
    omega arith

-- ---- Without a partner

-- a string has no partner left exactly where more are like it, up to its place, than there are in the other list
alone-exactly : (xs ys : List BatteryString) (i : ℕ) → Place xs i
    → (partner xs ys i ≡ 0) ↔ (count_of (alike (string_in xs i)) ys < count_of (alike (string_in xs i)) (take i xs))
alone-exactly xs ys zero at = absurd (omega (arith, at.0))
alone-exactly xs ys (suc i) at =
    let inside : i < length xs = omega (arith, at.1) in
    let next = rank_step (like_at xs i) xs no_string i inside (alike_self (get_or xs i no_string)) in
    rw (from_zero i) (
      λ gone. lacking inside next gone,
      λ few. partner-none xs ys i (omega (arith, next)),
    )
  where
    lacking : i < length xs → rank (like_at xs i) xs (suc i) ≡ suc (rank (like_at xs i) xs i) → partner xs ys (suc i) ≡ 0
        → count_of (like_at xs i) ys < rank (like_at xs i) xs (suc i)
    lacking inside next gone =
        elim (dec_le (count_of (like_at xs i) ys) (rank (like_at xs i) xs i)) [
          | yes few ↦ omega arith
          | no enough ↦
              let f = partner-there xs ys i inside (omega arith) in
              absurd (omega (arith, f.1))
        ]

-- ---- The first without a partner

-- of the numbers from k on, the first that passes
module _ (f : ℕ → Bool) where
  first-from : (k n i : ℕ) → first_of f (up_from k n) ≡ some i
      → (k ≤ i) × (i < k + n) × (f i ≡ true) × ((j : ℕ) → k ≤ j → j < i → f j ≡ false)
  unfolding up_from
  first-from k zero i h = absurd (none-some i (sym (first_of-end f) ∙ h))
  first-from k (suc n) i h =
      by_bool (f k)
      (λ t. here t (cc (first_of-here f k (up_from (suc k) n) t)))
      (λ e. later e (first-from (suc k) n i (sym (first_of-later f k (up_from (suc k) n) e) ∙ h)))
    where
      here : f k ≡ true → k ≡ i → (k ≤ i) × (i < k + suc n) × (f i ≡ true) × ((j : ℕ) → k ≤ j → j < i → f j ≡ false)
      here t e = (omega arith, omega arith, ap f (sym e) ∙ t, λ j low high. absurd (omega arith))

      later : f k ≡ false → (suc k ≤ i) × (i < suc k + n) × (f i ≡ true) × ((j : ℕ) → suc k ≤ j → j < i → f j ≡ false)
          → (k ≤ i) × (i < k + suc n) × (f i ≡ true) × ((j : ℕ) → k ≤ j → j < i → f j ≡ false)
      later e r = (
        omega (arith, r.0),
        omega (arith, r.1),
        r.2,
        λ j low high. elim (ℕ_discrete j k) [ yes same ↦ ap f same ∙ e | no other ↦ r.3 j (omega arith) high ],
      )

  none_from : (k n : ℕ) → (first_of f (up_from k n) ≡ none) → (j : ℕ) → k ≤ j → j < k + n → f j ≡ false
  unfolding up_from
  none_from k zero h j low high = absurd (omega arith)
  none_from k (suc n) h j low high =
      by_bool (f k)
      (λ t. absurd (none-some k (sym h ∙ first_of-here f k (up_from (suc k) n) t)))
      (λ e.
      let rest = none_from (suc k) n (sym (first_of-later f k (up_from (suc k) n) e) ∙ h) j in
      elim (ℕ_discrete j k) [ yes same ↦ ap f same ∙ e | no other ↦ rest (omega arith) (omega arith) ])

  -- and the other way
  first_found : (k n i : ℕ) → k ≤ i → i < k + n → f i ≡ true → ((j : ℕ) → k ≤ j → j < i → f j ≡ false)
      → first_of f (up_from k n) ≡ some i
  unfolding up_from
  first_found k zero i low high t before = absurd (omega arith)
  first_found k (suc n) i low high t before =
      elim (ℕ_discrete i k) [
        | yes same ↦ first_of-here f k (up_from (suc k) n) (ap f (sym same) ∙ t) ∙ ap some (sym same)
        | no other ↦
            first_of-later f k (up_from (suc k) n) (before k (omega arith) (omega arith))
            ∙ first_found (suc k) n i (omega arith) (omega arith) t (λ j after. before j (omega arith))
      ]

module _ (xs ys : List BatteryString) where
  -- no string is without a partner
  pub each-of-none : length ys ≡ length xs → first_alone xs ys ≡ none → EachPartnered xs ys
  unfolding first_alone
  each-of-none as_many gone =
      record {
        as_many = as_many;
        each = λ i inside. eqb-false (partner xs ys (suc i)) 0
            (none_from (λ i. eqb (partner xs ys i) 0) 1 (length xs) gone (suc i) (omega arith) (omega arith));
      }

  -- one is: exactly the one that is too many of its kind
  alone-of-first : (i : ℕ) → first_alone xs ys ≡ some i → LeftAlone xs ys i
  unfolding first_alone
  alone-of-first i h =
      let r = first-from (λ i. eqb (partner xs ys i) 0) 1 (length xs) i h in
      let at : Place xs i = (r.0, omega (arith, r.1)) in
      record {
        place = at;
        too_many = (alone-exactly xs ys i at).0 (eqb-true (partner xs ys i) 0 r.2);
        first = λ j p before. enough j p (eqb-false (partner xs ys j) 0 (r.3 j p.0 before));
      }
    where
      enough : (j : ℕ) → Place xs j → (partner xs ys j ≡ 0 → ⊥)
          → count_of (alike (string_in xs j)) (take j xs) ≤ count_of (alike (string_in xs j)) ys
      enough j p there =
          elim (dec_le (count_of (alike (string_in xs j)) (take j xs)) (count_of (alike (string_in xs j)) ys)) [
            | yes few ↦ few
            | no many ↦ absurd (there ((alone-exactly xs ys j p).1 (omega arith)))
          ]

  first-of-alone : (i : ℕ) → LeftAlone xs ys i → first_alone xs ys ≡ some i
  unfolding first_alone
  first-of-alone i a =
      first_found (λ i. eqb (partner xs ys i) 0) 1 (length xs) i a.place.0 (omega (arith, a.place.1))
      (eq-eqb (partner xs ys i) 0 ((alone-exactly xs ys i a.place).1 a.too_many))
      (λ j low before. ne_eqb (partner xs ys j) 0 (λ gone. left j (low, omega (arith, a.place.1)) before gone))
    where
      left : (j : ℕ) → Place xs j → j < i → partner xs ys j ≡ 0 → ⊥
      left j p before gone = omega (arith, (alone-exactly xs ys j p).0 gone, a.first j p before)

  pub first-alone-exactly : (i : ℕ) → (first_alone xs ys ≡ some i) ↔ LeftAlone xs ys i
  first-alone-exactly i = (alone-of-first i, first-of-alone i)

  -- where one is alone there is no other order
  pub alone-no-order : (i : ℕ) → LeftAlone xs ys i → Permuted xs ys → ⊥
  alone-no-order i a r = gone i a.place ((alone-exactly xs ys i a.place).1 a.too_many)
    where
      gone : (i : ℕ) → Place xs i → partner xs ys i ≡ 0 → ⊥
      gone zero p e = omega (arith, p.0)
      gone (suc i) p e = (permuted-partnered xs ys r).each i (omega (arith, p.1)) e

  -- where there is another order none is alone
  none-of-permuted : Permuted xs ys → first_alone xs ys ≡ none
  none-of-permuted r = which (first_alone xs ys) refl
    where
      which : (o : Option ℕ) → first_alone xs ys ≡ o → first_alone xs ys ≡ none
      which none e = e
      which (some i) e = absurd (alone-no-order i (alone-of-first i e) r)
