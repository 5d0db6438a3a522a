-- The list of the search: every set below 2^n, fewer ones first, then the smaller number.
--     Sooner m k            the set m comes before k: fewer ones, or as many and a smaller number
use Rattle.base.proofs.Prelude.{ℕ, suc, ◌^◌, ◌<◌, zero-le, ◌≡◌, refl, sym, ◌∙◌, ◌⊎◌, inl, inr, true, arith, eqb-true, eq-eqb, ones, eqb}
use lib.Count.{ones-le}
use Rattle.base.specs.Count.{up_from}
use Rattle.rules.specs.Search.{sets_of, ordered}
use Rattle.base.proofs.{Lists.All, Order.{Rising, all_keep, each-of-kept, all-flat, each-of-flat, all-up_from, each-of-up_from, rising-keep, rising-within, rising-flat, rising-up_from}}

-- ---- The sets in the search's order

abbrev pub Sooner : ℕ → ℕ → Type 0
Sooner m k = (ones m < ones k) ⊎ ((ones m ≡ ones k) × (m < k))

module _ (n : ℕ) where
  -- the sets with k ones are those below 2^n that have k
  all-sets_of : (P : ℕ → Type 0) (k : ℕ) → ((m : ℕ) → m < 2 ^ n → ones m ≡ k → P m) → All P (sets_of n k)
  unfolding sets_of
  all-sets_of P k f =
      all_keep P (λ m. eqb (ones m) k) (up_from 0 (2 ^ n))
      (all-up_from (λ m. eqb (ones m) k ≡ true → P m) 0 (2 ^ n) (λ m low high t. f m (omega arith) (eqb-true (ones m) k t)))

  each-of-sets_of : (P : ℕ → Type 0) (k : ℕ) → All P (sets_of n k) → (m : ℕ) → m < 2 ^ n → ones m ≡ k → P m
  unfolding sets_of
  each-of-sets_of P k h m below e =
      each-of-up_from (λ i. eqb (ones i) k ≡ true → P i) 0 (2 ^ n) (each-of-kept P (λ i. eqb (ones i) k) (up_from 0 (2 ^ n)) h) m zero-le
      (omega arith) (eq-eqb (ones m) k e)

  -- the sets are those below 2^n
  pub all-sets : (P : ℕ → Type 0) → ((m : ℕ) → m < 2 ^ n → P m) → All P (ordered n)
  unfolding ordered
  all-sets P f =
      all-flat P (sets_of n) (up_from 0 (suc n))
      (all-up_from (λ k. All P (sets_of n k)) 0 (suc n) (λ k low high. all-sets_of P k (λ m below e. f m below)))

  pub each-of-sets : (P : ℕ → Type 0) → All P (ordered n) → (m : ℕ) → m < 2 ^ n → P m
  unfolding ordered
  each-of-sets P h m below =
      each-of-sets_of P (ones m)
      (each-of-up_from (λ k. All P (sets_of n k)) 0 (suc n) (each-of-flat P (sets_of n) (up_from 0 (suc n)) h) (ones m) zero-le
      (omega (arith, ones-le n m below)))
      m below refl

  -- they stand in order
  pub sets-rising : Rising Sooner (ordered n)
  unfolding ordered
  sets-rising = rising-flat ◌<◌ Sooner (sets_of n) row next (up_from 0 (suc n)) (rising-up_from 0 (suc n))
    where
      as_many : (k : ℕ) → All (λ m. ones m ≡ k) (sets_of n k)
      as_many k = all-sets_of (λ m. ones m ≡ k) k (λ m below e. e)

      row : (k : ℕ) → Rising Sooner (sets_of n k)
      row k =
          rising-within (λ m. ones m ≡ k) ◌<◌ Sooner (λ m i e f h. inr (e ∙ sym f, h)) (sets_of n k) (as_many k)
          (unfold sets_of in rising-keep ◌<◌ (λ m. eqb (ones m) k) (up_from 0 (2 ^ n)) (rising-up_from 0 (2 ^ n)))

      next : (k i : ℕ) → k < i → All (λ m. All (Sooner m) (sets_of n i)) (sets_of n k)
      next k i h =
          all-sets_of (λ m. All (Sooner m) (sets_of n i)) k (λ m below e.
          all-sets_of (Sooner m) i (λ j under f. inl (omega arith)))
