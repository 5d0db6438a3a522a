-- The search's order by number: how many sets there are, and which is the k-th, as a walk over all numbers meets them.
--     sets_left n k m        the sets with k ones from the number m on, and then those with more, in the search's order
use Rattle.base.proofs.Prelude.{ℕ, zero, suc, ◌+◌, ◌-◌, ◌^◌, ◌≤◌, ◌<◌, ◌≡◌, refl, sym, ap, ◌∙◌, Bool, cond, List, [], ◌∷◌, ◌++◌, arith, add-one, eq-eqb, ne_eqb, eqb-true, eqb-false, fun_ext, ones, eqb, length, length-append, get_or}
use mathlib.Core.List.{flat_map}
use lib.Count.{ones-le}
use Rattle.base.specs.Count.{up_from, keep, count_of, sum_of, All}
use Rattle.base.proofs.{Lists.by_bool, Order.all-up_from}
use Rattle.rules.specs.Search.{sets_of, ordered}

-- ---- How many

length-flat : {A B : Type 0} (f : A → List B) (xs : List A) → length (flat_map f xs) ≡ sum_of (λ x. length (f x)) xs
unfolding flat_map sum_of
length-flat f [] = refl
length-flat f (x ∷ xs) = length-append (f x) (flat_map f xs) ∙ ap (λ k. length (f x) + k) (length-flat f xs)

length-keep : {A : Type 0} (f : A → Bool) (xs : List A) → length (keep f xs) ≡ count_of f xs
unfolding keep count_of
length-keep f [] = refl
length-keep f (x ∷ xs) = by_bool (f x) (λ t. rw t (omega (arith, length-keep f xs))) (λ e. rw e (omega (arith, length-keep f xs)))

sum_of-add : (f g : ℕ → ℕ) (xs : List ℕ) → sum_of (λ k. f k + g k) xs ≡ sum_of f xs + sum_of g xs
unfolding sum_of
sum_of-add f g [] = refl
sum_of-add f g (x ∷ xs) = omega (arith, sum_of-add f g xs)

-- of numbers in a row a number is one, or none
one_none : (a k n : ℕ) → a < k → sum_of (λ i. cond (eqb a i) 1 0) (up_from k n) ≡ 0
unfolding sum_of up_from
one_none a k zero h = refl
one_none a k (suc n) h =
    let other : a ≡ k → ⊥ = λ e. omega arith in
    let later = one_none a (suc k) n (omega arith) in
    rw (ne_eqb a k other) (omega (arith, later))

one_of : (a k n : ℕ) → k ≤ a → a < k + n → sum_of (λ i. cond (eqb a i) 1 0) (up_from k n) ≡ 1
unfolding sum_of up_from
one_of a k zero low high = absurd (omega arith)
one_of a k (suc n) low high =
    by_bool (eqb a k)
    (λ t. let same = eqb-true a k t in
    rw t (omega (arith, one_none a (suc k) n (omega arith))))
    (λ f. let other = eqb-false a k f in
    rw f (omega (arith, one_of a (suc k) n (omega arith) (omega arith))))

sum-none : (ks : List ℕ) → sum_of (λ (k : ℕ). 0) ks ≡ 0
unfolding sum_of
sum-none [] = refl
sum-none (k ∷ ks) = omega (arith, sum-none ks)

-- each number has one count of ones
each-counted : (n : ℕ) (ms : List ℕ) → All (λ m. ones m ≤ n) ms
    → sum_of (λ k. count_of (λ m. eqb (ones m) k) ms) (up_from 0 (suc n)) ≡ length ms
unfolding count_of
each-counted n [] h = sum-none (up_from 0 (suc n))
each-counted n (m ∷ ms) h =
    sum_of-add (λ k. cond (eqb (ones m) k) 1 0) (λ k. count_of (λ i. eqb (ones i) k) ms) (up_from 0 (suc n))
    ∙ omega (arith, one_of (ones m) 0 (suc n) (omega arith) (omega (arith, h.0)), each-counted n ms h.1)

up_from-many : (k n : ℕ) → length (up_from k n) ≡ n
unfolding up_from
up_from-many k zero = refl
up_from-many k (suc n) = ap suc (up_from-many (suc k) n)

-- 2^n sets of n places
pub sets-many : (n : ℕ) → length (ordered n) ≡ 2 ^ n
unfolding ordered sets_of
sets-many n =
    let numbers = up_from 0 (2 ^ n) in
    let few = all-up_from (λ m. ones m ≤ n) 0 (2 ^ n) (λ m low high. ones-le n m (omega arith)) in
    length-flat (λ k. keep (λ m. eqb (ones m) k) numbers) (up_from 0 (suc n))
    ∙ ap (λ f. sum_of f (up_from 0 (suc n))) (fun_ext (λ k. length-keep (λ m. eqb (ones m) k) numbers))
    ∙ each-counted n numbers few
    ∙ up_from-many 0 (2 ^ n)

-- ---- Which is the k-th

unfoldable pub sets_left : ℕ → ℕ → ℕ → List ℕ
sets_left n k m = keep (λ i. eqb (ones i) k) (up_from m (2 ^ n - m)) ++ flat_map (sets_of n) (up_from (suc k) (n - k))

pub from_first : (n : ℕ) → ordered n ≡ sets_left n 0 0
unfolding ordered sets_left sets_of up_from flat_map
from_first n =
    let numbers : 2 ^ n - 0 ≡ 2 ^ n = omega arith in
    let rows : n - 0 ≡ n = omega arith in
    rw (numbers, rows)

-- the end of a row is the start of the next
pub row-over : (n k m : ℕ) → 2 ^ n ≤ m → k < n → sets_left n k m ≡ sets_left n (k + 1) 0
unfolding sets_left sets_of up_from flat_map keep
row-over n k m past more =
    let none : 2 ^ n - m ≡ 0 = omega arith in
    let rows : n - k ≡ suc (n - suc k) = omega arith in
    let numbers : 2 ^ n - 0 ≡ 2 ^ n = omega arith in
    rw (none, rows, add-one k, numbers)

-- nothing is left behind the last row
pub row_done : (n k m : ℕ) → 2 ^ n ≤ m → n ≤ k → sets_left n k m ≡ []
unfolding sets_left up_from flat_map keep
row_done n k m past last =
    let none : 2 ^ n - m ≡ 0 = omega arith in
    let rows : n - k ≡ 0 = omega arith in
    rw (none, rows)

module _ (n k m : ℕ) (below : m < 2 ^ n) where
  number_in : ones m ≡ k → sets_left n k m ≡ m ∷ sets_left n k (m + 1)
  unfolding sets_left up_from keep
  number_in is =
      let more : 2 ^ n - m ≡ suc (2 ^ n - suc m) = omega arith in
      rw (more, add-one m, eq-eqb (ones m) k is)

  number-out : (ones m ≡ k → ⊥) → sets_left n k m ≡ sets_left n k (m + 1)
  unfolding sets_left up_from keep
  number-out is =
      let more : 2 ^ n - m ≡ suc (2 ^ n - suc m) = omega arith in
      rw (more, add-one m, ne_eqb (ones m) k is)

-- so many sets are to go, from the number m on, until the one that is looked for
pub record SetsAhead (n wanted k m left : ℕ) : Type 0 where
  pub there : get_or (sets_left n k m) left 0 ≡ wanted

pub ahead_start : (n left : ℕ) → SetsAhead n (get_or (ordered n) left 0) 0 0 left
ahead_start n left = record { there = ap (λ ms. get_or ms left 0) (sym (from_first n)) }

module _ {n wanted k m left : ℕ} (a : SetsAhead n wanted k m left) where
  -- the number is a set of another row
  pub ahead-out : m < 2 ^ n → (ones m ≡ k → ⊥) → SetsAhead n wanted k (m + 1) left
  ahead-out below out = record { there = ap (λ ms. get_or ms left 0) (sym (number-out n k m below out)) ∙ a.there }

  -- it is the one that is looked for
  pub ahead-found : m < 2 ^ n → ones m ≡ k → left ≡ 0 → m ≡ wanted
  ahead-found below is first =
      sym (ap (λ ms. get_or ms left 0) (number_in n k m below is) ∙ ap (λ i. get_or (m ∷ sets_left n k (m + 1)) i 0) first) ∙ a.there

  -- it is one of those before
  pub ahead-in : m < 2 ^ n → ones m ≡ k → (left ≡ 0 → ⊥) → SetsAhead n wanted k (m + 1) (left - 1)
  ahead-in below is more =
      let next : left ≡ suc (left - 1) = omega arith in
      record {
        there = sym (ap (λ ms. get_or ms left 0) (number_in n k m below is) ∙ ap (λ i. get_or (m ∷ sets_left n k (m + 1)) i 0) next)
            ∙ a.there;
      }

  -- the row is over, or the last one is
  pub ahead-row : 2 ^ n ≤ m → k < n → SetsAhead n wanted (k + 1) 0 left
  ahead-row past more = record { there = ap (λ ms. get_or ms left 0) (sym (row-over n k m past more)) ∙ a.there }

  pub sets-ahead-end : 2 ^ n ≤ m → n ≤ k → 0 ≡ wanted
  sets-ahead-end past last = ap (λ ms. get_or ms left 0) (sym (row_done n k m past last)) ∙ a.there
