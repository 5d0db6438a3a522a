-- The search as a walk meets its sets: for each count of ones, over all numbers below 2^n, past those with another count.
--     sets_from n k m        the sets of n places with k ones, from the number m on
--     set_rows n k           the sets of n places with k ones or more, in the search's order
-- The walk cites walk-row, walk-other, walk-fails, walk-found, walk-row-end and walk_end.
use Rattle.base.proofs.Prelude.{ℕ, suc, ◌+◌, ◌-◌, ◌^◌, ◌≤◌, ◌<◌, ◌≡◌, ap, ◌∙◌, true, false, List, [], ◌∷◌, ◌++◌, arith, add-one, eq-eqb, ne_eqb, ones, eqb}
use Rattle.std.specs.Prelude.{Some, None}
use mathlib.Core.List.{flat_map}
use Rattle.rules.specs.declared.Plan.{Plan}
use Rattle.rules.specs.Search.{assigned, set_passes, sets_of, ordered, first_passing, search_of}
use Rattle.base.specs.Count.{up_from, keep}
use Rattle.base.proofs.{Order.{keep-yes, keep-no}, FirstOf.{first_of-here, first_of-later, first_of-end}}

unfoldable pub sets_from : ℕ → ℕ → ℕ → List ℕ
sets_from n k m = keep (λ i. eqb (ones i) k) (up_from m (2 ^ n - m))

unfoldable pub set_rows : ℕ → ℕ → List ℕ
set_rows n k = flat_map (sets_of n) (up_from k (suc n - k))

-- ---- Rows

pub search_of-rows : (p : Plan) → search_of p ≡ first_passing p (set_rows p.n 0)
unfolding search_of ordered set_rows
search_of-rows p =
    let whole : suc p.n - 0 ≡ suc p.n = omega arith in
    rw whole

sets_from-all : (n k : ℕ) → sets_from n k 0 ≡ sets_of n k
unfolding sets_from sets_of
sets_from-all n k =
    let whole : 2 ^ n - 0 ≡ 2 ^ n = omega arith in
    rw whole

set_rows-step : (n k : ℕ) → k ≤ n → set_rows n k ≡ sets_from n k 0 ++ set_rows n (k + 1)
unfolding set_rows up_from flat_map
set_rows-step n k h =
    let left : suc n - k ≡ suc (suc n - suc k) = omega arith in
    rw (sets_from-all n k, add-one, left)

set_rows-end : (n k : ℕ) → n < k → set_rows n k ≡ []
unfolding set_rows up_from flat_map
set_rows-end n k h =
    let left : suc n - k ≡ 0 = omega arith in
    rw left

-- one number on in a row
numbers-step : (n m : ℕ) → m < 2 ^ n → up_from m (2 ^ n - m) ≡ m ∷ up_from (m + 1) (2 ^ n - (m + 1))
unfolding up_from
numbers-step n m h =
    let left : 2 ^ n - m ≡ suc (2 ^ n - suc m) = omega arith in
    rw (add-one, left)

sets_from-set : (n k m : ℕ) → m < 2 ^ n → ones m ≡ k → sets_from n k m ≡ m ∷ sets_from n k (m + 1)
unfolding sets_from
sets_from-set n k m h e =
    ap (keep (λ i. eqb (ones i) k)) (numbers-step n m h)
    ∙ keep-yes (λ i. eqb (ones i) k) m (up_from (m + 1) (2 ^ n - (m + 1))) (eq-eqb (ones m) k e)

sets_from-other : (n k m : ℕ) → m < 2 ^ n → (ones m ≡ k → ⊥) → sets_from n k m ≡ sets_from n k (m + 1)
unfolding sets_from
sets_from-other n k m h e =
    ap (keep (λ i. eqb (ones i) k)) (numbers-step n m h)
    ∙ keep-no (λ i. eqb (ones i) k) m (up_from (m + 1) (2 ^ n - (m + 1))) (ne_eqb (ones m) k e)

sets_from-end : (n k m : ℕ) → 2 ^ n ≤ m → sets_from n k m ≡ []
unfolding sets_from up_from keep
sets_from-end n k m h =
    let left : 2 ^ n - m ≡ 0 = omega arith in
    rw left

-- ---- The walk: sets with k ones from the number m on, and then the sets ms

module _ (p : Plan) (n k m : ℕ) where
  -- into a row
  pub walk-row : k ≤ n → first_passing p (set_rows n k) ≡ first_passing p (sets_from n k 0 ++ set_rows n (k + 1))
  walk-row h = ap (first_passing p) (set_rows-step n k h)

  -- another count of ones
  pub walk-other :
      (ms : List ℕ) → m < 2 ^ n → (ones m ≡ k → ⊥)
      → first_passing p (sets_from n k m ++ ms) ≡ first_passing p (sets_from n k (m + 1) ++ ms)
  walk-other ms h e = ap (λ row. first_passing p (row ++ ms)) (sets_from-other n k m h e)

  pub walk-fails :
      (ms : List ℕ) → m < 2 ^ n → ones m ≡ k → set_passes p m ≡ false
      → first_passing p (sets_from n k m ++ ms) ≡ first_passing p (sets_from n k (m + 1) ++ ms)
  walk-fails ms h e fails =
      ap (λ row. first_passing p (row ++ ms)) (sets_from-set n k m h e) ∙ ap assigned
      (first_of-later (set_passes p) m (sets_from n k (m + 1) ++ ms) fails)

  pub walk-found :
      (ms : List ℕ) → m < 2 ^ n → ones m ≡ k → set_passes p m ≡ true → first_passing p (sets_from n k m ++ ms) ≡ Some m
  walk-found ms h e passes =
      ap (λ row. first_passing p (row ++ ms)) (sets_from-set n k m h e) ∙ ap assigned
      (first_of-here (set_passes p) m (sets_from n k (m + 1) ++ ms) passes)

  pub walk-row-end : (ms : List ℕ) → 2 ^ n ≤ m → first_passing p (sets_from n k m ++ ms) ≡ first_passing p ms
  walk-row-end ms h = ap (λ row. first_passing p (row ++ ms)) (sets_from-end n k m h)

  pub walk_end : n < k → first_passing p (set_rows n k) ≡ None
  walk_end h = ap (first_passing p) (set_rows-end n k h) ∙ ap assigned (first_of-end (set_passes p))
