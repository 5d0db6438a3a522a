-- What the answer says, exactly when: the same strings, with the smallest list of places, where there is another order; the first string
-- that is too many of its kind; or the two numbers.
--     Case xs ys            which of the three it is, and what is then said
use Rattle.base.proofs.Prelude.{ℕ, ◌≡◌, refl, sym, ap, ◌∙◌, ◌↔◌, List, Option, none, some, arith, ℕ_discrete, eq-eqb, ne_eqb, length, take_at}
use Rattle.rules.specs.declared.BatteryString.{BatteryString}
use Rattle.results.specs.{Places.{AnotherOrder, SmallestTo}, Partners.{partners, first_alone, LeftAlone}}
use Rattle.results.proofs.{Bijection.{EachPartnered, partnered-permuted, another-of-permuted, permuted-of-another}, SmallestList.{partners-length, partners-smallest}, LeftAlone.{each-of-none, first-alone-exactly, alone-no-order}}
use Rattle.matching.specs.Matched.{told_by, matched_of, same_at, alone_at, counts, matching_says, matched_says}

-- ---- What is said in each case

module _ (xs ys : List BatteryString) where
  says-counts : (length xs ≡ length ys → ⊥) → matched_says (matched_of xs ys) ≡ counts (length xs) (length ys)
  unfolding matched_of matching_says
  says-counts differ = rw (ne_eqb (length xs) (length ys) differ)

  says-by : (o : Option ℕ) → length xs ≡ length ys → first_alone xs ys ≡ o
      → matched_says (matched_of xs ys) ≡ matched_says (told_by o xs ys)
  unfolding matched_of
  says-by o same e = rw (eq-eqb (length xs) (length ys) same) (ap (λ o. matched_says (told_by o xs ys)) e)

  says-alone : (i : ℕ) → length xs ≡ length ys → first_alone xs ys ≡ some i → matched_says (matched_of xs ys) ≡ alone_at i
  unfolding matching_says
  says-alone i same e = says-by (some i) same e

  says_same : length xs ≡ length ys → first_alone xs ys ≡ none → matched_says (matched_of xs ys) ≡ same_at (partners xs ys)
  unfolding matching_says
  says_same same e = says-by none same e ∙ ap same_at (take_at (partners xs ys) _ (length xs) (partners-length xs ys))

-- ---- The three cases

data Case (xs ys : List BatteryString) : Type 0 where
  counts-differ : (length xs ≡ length ys → ⊥) → matched_says (matched_of xs ys) ≡ counts (length xs) (length ys) → Case xs ys
  one-alone : (i : ℕ) → length xs ≡ length ys → LeftAlone xs ys i → matched_says (matched_of xs ys) ≡ alone_at i → Case xs ys
  all_same : EachPartnered xs ys → matched_says (matched_of xs ys) ≡ same_at (partners xs ys) → Case xs ys

case-of : (xs ys : List BatteryString) → Case xs ys
case-of xs ys =
    elim (ℕ_discrete (length xs) (length ys)) [
      | yes same ↦ by_first same (first_alone xs ys) refl
      | no differ ↦ counts-differ differ (says-counts xs ys differ)
    ]
  where
    by_first : length xs ≡ length ys → (o : Option ℕ) → first_alone xs ys ≡ o → Case xs ys
    by_first same none e = all_same (each-of-none xs ys (sym same) e) (says_same xs ys same e)
    by_first same (some i) e = one-alone i same ((first-alone-exactly xs ys i).0 e) (says-alone xs ys i same e)

-- ---- No two at once

same-not-alone : (ps : List ℕ) (i : ℕ) → same_at ps ≡ alone_at i → ⊥
same-not-alone ps i h =
    let z : ◌≡◌ {A = ℕ} 0 1 = cc in
    omega arith

same-not-counts : (ps : List ℕ) (m n : ℕ) → same_at ps ≡ counts m n → ⊥
same-not-counts ps m n h =
    let z : ◌≡◌ {A = ℕ} 0 1 = cc in
    omega arith

alone-not-counts : (i m n : ℕ) → alone_at i ≡ counts m n → ⊥
alone-not-counts i m n h =
    let z : ◌≡◌ {A = ℕ} 0 1 = cc in
    omega arith

some_one : (i j : ℕ) → some i ≡ some j → i ≡ j
some_one i j h = cc

alone-one : (i j : ℕ) → alone_at i ≡ alone_at j → i ≡ j
alone-one i j h = cc

same-one : (ps qs : List ℕ) → same_at ps ≡ same_at qs → ps ≡ qs
same-one ps qs h = cc

counts-one : (m n k l : ℕ) → counts m n ≡ counts k l → (m ≡ k) × (n ≡ l)
counts-one m n k l h = (cc, cc)

-- ---- Exactly when

module _ (xs ys : List BatteryString) where
  -- the places are the smallest list
  pub same-places : (ps : List ℕ) → matched_says (matched_of xs ys) ≡ same_at ps → SmallestTo xs ys ps
  same-places ps h = which (case-of xs ys)
    where
      which : Case xs ys → SmallestTo xs ys ps
      which (counts-differ d e) = absurd (same-not-counts ps _ _ (sym h ∙ e))
      which (one-alone i s a e) = absurd (same-not-alone ps i (sym h ∙ e))
      which (all_same each e) =
          let is : partners xs ys ≡ ps = same-one _ _ (sym e ∙ h) in
          rw is at (partners-smallest xs ys each)

  same-order : (ps : List ℕ) → matched_says (matched_of xs ys) ≡ same_at ps → AnotherOrder xs ys
  same-order ps h = which (case-of xs ys)
    where
      which : Case xs ys → AnotherOrder xs ys
      which (counts-differ d e) = absurd (same-not-counts ps _ _ (sym h ∙ e))
      which (one-alone i s a e) = absurd (same-not-alone ps i (sym h ∙ e))
      which (all_same each e) = another-of-permuted xs ys (partnered-permuted xs ys each)

  order_same : AnotherOrder xs ys → (ps : List ℕ) × (matched_says (matched_of xs ys) ≡ same_at ps)
  order_same o = which (case-of xs ys)
    where
      which : Case xs ys → (ps : List ℕ) × (matched_says (matched_of xs ys) ≡ same_at ps)
      which (counts-differ d e) = absurd (d (sym o.as_many))
      which (one-alone i s a e) = absurd (alone-no-order xs ys i a (permuted-of-another xs ys o))
      which (all_same each e) = (partners xs ys, e)

  -- same exactly where there is another order
  pub same-exactly : ((ps : List ℕ) × (matched_says (matched_of xs ys) ≡ same_at ps)) ↔ AnotherOrder xs ys
  same-exactly = (λ found. same-order found.0 found.1, order_same)

  -- the first that is too many of its kind
  pub alone-says-exactly : (i : ℕ) → (matched_says (matched_of xs ys) ≡ alone_at i) ↔ ((length xs ≡ length ys) × LeftAlone xs ys i)
  alone-says-exactly i = (λ h. there h (case-of xs ys), λ both. back both.0 both.1 (case-of xs ys))
    where
      there : matched_says (matched_of xs ys) ≡ alone_at i → Case xs ys → (length xs ≡ length ys) × LeftAlone xs ys i
      there h (counts-differ d e) = absurd (alone-not-counts i _ _ (sym h ∙ e))
      there h (one-alone j s a e) = (s, rw (alone-one j i (sym e ∙ h)) at a)
      there h (all_same each e) = absurd (same-not-alone _ i (sym e ∙ h))

      back : length xs ≡ length ys → LeftAlone xs ys i → Case xs ys → matched_says (matched_of xs ys) ≡ alone_at i
      back s a (counts-differ d e) = absurd (d s)
      back s a (one-alone j t b e) =
          e ∙ ap alone_at (some_one j i (sym ((first-alone-exactly xs ys j).1 b) ∙ (first-alone-exactly xs ys i).1 a))
      back s a (all_same each e) = absurd (alone-no-order xs ys i a (partnered-permuted xs ys each))

  -- then there is no other order
  pub alone-order : (i : ℕ) → matched_says (matched_of xs ys) ≡ alone_at i → AnotherOrder xs ys → ⊥
  alone-order i h o = alone-no-order xs ys i ((alone-says-exactly i).0 h).1 (permuted-of-another xs ys o)

  -- the numbers, where they differ
  pub counts-say-exactly : (m n : ℕ) → (matched_says (matched_of xs ys) ≡ counts m n) ↔ ((length xs ≡ m) × (length ys ≡ n) × (m ≡ n → ⊥))
  counts-say-exactly m n = (λ h. there h (case-of xs ys), λ all. back all.0 all.1 all.2)
    where
      there : matched_says (matched_of xs ys) ≡ counts m n → Case xs ys → (length xs ≡ m) × (length ys ≡ n) × (m ≡ n → ⊥)
      there h (counts-differ d e) =
          let are = counts-one _ _ _ _ (sym e ∙ h) in
          (are.0, are.1, λ same. d (are.0 ∙ same ∙ sym are.1))
      there h (one-alone i s a e) = absurd (alone-not-counts i m n (sym e ∙ h))
      there h (all_same each e) = absurd (same-not-counts _ m n (sym e ∙ h))

      back : length xs ≡ m → length ys ≡ n → (m ≡ n → ⊥) → matched_says (matched_of xs ys) ≡ counts m n
      back first second differ =
          let apart : length xs ≡ length ys → ⊥ = λ same. differ (sym first ∙ same ∙ second) in
          rw (sym first, sym second) (says-counts xs ys apart)
