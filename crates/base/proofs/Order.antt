-- Laws of lists that are made by `up_from`, `map`, `flat_map` and `keep`: what all their elements have, and that they rise.
--     Rising R xs           each of xs is R-before every later one
-- A search for the first of a rising list that passes a test finds the least that passes.
use Rattle.base.proofs.Prelude.{ℕ, zero, suc, ◌+◌, ◌≤◌, ◌<◌, ◌≡◌, refl, sym, ap, ◌∙◌, Bool, true, false, List, [], ◌∷◌, ◌++◌, map, arith, ℕ_discrete, le_refl, take}
use mathlib.Core.List.{flat_map}
use Rattle.base.specs.Count.{sum_of, up_from, keep}
use Rattle.base.proofs.Lists.{All, all_map, by_bool, true-not-false}

-- ---- All

module _ {ℓ} {A : Type ℓ} where
  pub all_both : (P Q R : A → Type 0) → ((x : A) → P x → Q x → R x) → (xs : List A) → All P xs → All Q xs → All R xs
  all_both P Q R f [] h k = tt
  all_both P Q R f (x ∷ xs) h k = (f x h.0 k.0, all_both P Q R f xs h.1 k.1)

  pub all_of : (P : A → Type 0) → ((x : A) → P x) → (xs : List A) → All P xs
  all_of P f [] = tt
  all_of P f (x ∷ xs) = (f x, all_of P f xs)

  pub all_append : (P : A → Type 0) (xs ys : List A) → All P xs → All P ys → All P (xs ++ ys)
  all_append P [] ys h k = k
  all_append P (x ∷ xs) ys h k = (h.0, all_append P xs ys h.1 k)

  all_left : (P : A → Type 0) (xs ys : List A) → All P (xs ++ ys) → All P xs
  all_left P [] ys h = tt
  all_left P (x ∷ xs) ys h = (h.0, all_left P xs ys h.1)

  all_right : (P : A → Type 0) (xs ys : List A) → All P (xs ++ ys) → All P ys
  all_right P [] ys h = h
  all_right P (x ∷ xs) ys h = all_right P xs ys h.1

  pub sum_of-zero : (f : A → ℕ) (xs : List A) → All (λ x. f x ≡ 0) xs → sum_of f xs ≡ 0
  unfolding sum_of
  sum_of-zero f [] h = refl
  sum_of-zero f (x ∷ xs) h =
      let first = h.0 in
      let rest = sum_of-zero f xs h.1 in
      omega arith

  -- ---- keep

  pub keep-yes : (f : A → Bool) (x : A) (xs : List A) → f x ≡ true → keep f (x ∷ xs) ≡ x ∷ keep f xs
  unfolding keep
  keep-yes f x xs t = rw t

  pub keep-no : (f : A → Bool) (x : A) (xs : List A) → f x ≡ false → keep f (x ∷ xs) ≡ keep f xs
  unfolding keep
  keep-no f x xs e = rw e

  pub keep_append : (f : A → Bool) (xs ys : List A) → keep f (xs ++ ys) ≡ keep f xs ++ keep f ys
  unfolding keep
  keep_append f [] ys = refl
  keep_append f (x ∷ xs) ys =
      let rest = keep_append f xs ys in
      by_bool (f x) (λ t. rw t (ap (λ zs. x ∷ zs) rest)) (λ e. rw e rest)

  pub all_keep : (P : A → Type 0) (f : A → Bool) (xs : List A) → All (λ x. f x ≡ true → P x) xs → All P (keep f xs)
  unfolding keep
  all_keep P f [] h = tt
  all_keep P f (x ∷ xs) h = by_bool (f x) (λ t. rw t (h.0 t, all_keep P f xs h.1)) (λ e. rw e (all_keep P f xs h.1))

  pub each-of-kept : (P : A → Type 0) (f : A → Bool) (xs : List A) → All P (keep f xs) → All (λ x. f x ≡ true → P x) xs
  unfolding keep
  each-of-kept P f [] h = tt
  each-of-kept P f (x ∷ xs) h =
      by_bool (f x)
      (λ t. let k = rw t at h in ((λ u. k.0), each-of-kept P f xs k.1))
      (λ e. ((λ u. absurd (true-not-false (sym u ∙ e))), each-of-kept P f xs (rw e at h)))

-- ---- map and flat_map

module _ {ℓ κ} {A : Type ℓ} {B : Type κ} where
  pub all-mapped : (P : B → Type 0) (f : A → B) (xs : List A) → All (λ x. P (f x)) xs → All P (map f xs)
  all-mapped P f [] h = tt
  all-mapped P f (x ∷ xs) h = (h.0, all-mapped P f xs h.1)

  pub take-map : (f : A → B) (n : ℕ) (xs : List A) → take n (map f xs) ≡ map f (take n xs)
  take-map f zero xs = refl
  take-map f (suc n) [] = refl
  take-map f (suc n) (x ∷ xs) = ap (λ ys. f x ∷ ys) (take-map f n xs)

  pub each-of-mapped : (P : B → Type 0) (f : A → B) (xs : List A) → All P (map f xs) → All (λ x. P (f x)) xs
  each-of-mapped P f [] h = tt
  each-of-mapped P f (x ∷ xs) h = (h.0, each-of-mapped P f xs h.1)

  pub all-flat : (P : B → Type 0) (f : A → List B) (xs : List A) → All (λ x. All P (f x)) xs → All P (flat_map f xs)
  unfolding flat_map
  all-flat P f [] h = tt
  all-flat P f (x ∷ xs) h = all_append P (f x) (flat_map f xs) h.0 (all-flat P f xs h.1)

  pub each-of-flat : (P : B → Type 0) (f : A → List B) (xs : List A) → All P (flat_map f xs) → All (λ x. All P (f x)) xs
  unfolding flat_map
  each-of-flat P f [] h = tt
  each-of-flat P f (x ∷ xs) h = (all_left P (f x) (flat_map f xs) h, each-of-flat P f xs (all_right P (f x) (flat_map f xs) h))

-- ---- up_from

pub up_from-cons : (k n : ℕ) → up_from k (suc n) ≡ k ∷ up_from (suc k) n
unfolding up_from
up_from-cons k n = refl

pub all-up_from : (P : ℕ → Type 0) (k n : ℕ) → ((i : ℕ) → k ≤ i → i < k + n → P i) → All P (up_from k n)
unfolding up_from
all-up_from P k zero f = tt
all-up_from P k (suc n) f = (f k (le_refl k) (omega arith), all-up_from P (suc k) n (λ i h m. f i (omega arith) (omega arith)))

pub each-of-up_from : (P : ℕ → Type 0) (k n : ℕ) → All P (up_from k n) → (i : ℕ) → k ≤ i → i < k + n → P i
unfolding up_from
each-of-up_from P k zero h i low high = absurd (omega arith)
each-of-up_from P k (suc n) h i low high =
    elim (ℕ_discrete k i) [ yes same ↦ rw same at h.0 | no other ↦ each-of-up_from P (suc k) n h.1 i (omega arith) (omega arith) ]

-- ---- Rising

module _ {ℓ} {A : Type ℓ} where
  abbrev pub Rising : (A → A → Type 0) → List A → Type 0
  Rising R [] = Unit {0}
  Rising R (x ∷ xs) = All (R x) xs × Rising R xs

  pub rising-append :
      (R : A → A → Type 0) (xs ys : List A) → Rising R xs → Rising R ys → All (λ x. All (R x) ys) xs → Rising R (xs ++ ys)
  rising-append R [] ys h k c = k
  rising-append R (x ∷ xs) ys h k c = (all_append (R x) xs ys h.0 c.0, rising-append R xs ys h.1 k c.1)

  pub rising-keep : (R : A → A → Type 0) (f : A → Bool) (xs : List A) → Rising R xs → Rising R (keep f xs)
  unfolding keep
  rising-keep R f [] h = tt
  rising-keep R f (x ∷ xs) h =
      let rest = rising-keep R f xs h.1 in
      let after = all_keep (R x) f xs (all_map (R x) (λ y. f y ≡ true → R x y) (λ y r t. r) xs h.0) in
      by_bool (f x) (λ t. rw t (after, rest)) (λ e. rw e rest)

  pub rising-map : (R S : A → A → Type 0) → ((x y : A) → R x y → S x y) → (xs : List A) → Rising R xs → Rising S xs
  rising-map R S f [] h = tt
  rising-map R S f (x ∷ xs) h = (all_map (R x) (S x) (f x) xs h.0, rising-map R S f xs h.1)

  -- the same where all of xs have P
  pub rising-within :
      (P : A → Type 0) (R S : A → A → Type 0) → ((x y : A) → P x → P y → R x y → S x y)
      → (xs : List A) → All P xs → Rising R xs → Rising S xs
  rising-within P R S f [] all h = tt
  rising-within P R S f (x ∷ xs) all h =
      (all_both P (R x) (S x) (λ y b r. f x y all.0 b r) xs all.1 h.0, rising-within P R S f xs all.1 h.1)

module _ {ℓ κ} {A : Type ℓ} {B : Type κ} where
  pub rising-mapped : (R : B → B → Type 0) (f : A → B) (xs : List A) → Rising (λ x y. R (f x) (f y)) xs → Rising R (map f xs)
  rising-mapped R f [] h = tt
  rising-mapped R f (x ∷ xs) h = (all-mapped (R (f x)) f xs h.0, rising-mapped R f xs h.1)

  -- rows that rise, each before all later ones, make a list that rises
  pub rising-flat :
      (S : A → A → Type 0) (R : B → B → Type 0) (f : A → List B)
      → ((x : A) → Rising R (f x))
      → ((x y : A) → S x y → All (λ a. All (R a) (f y)) (f x))
      → (xs : List A) → Rising S xs → Rising R (flat_map f xs)
  unfolding flat_map
  rising-flat S R f row next [] h = tt
  rising-flat S R f row next (x ∷ xs) h =
      rising-append R (f x) (flat_map f xs) (row x) (rising-flat S R f row next xs h.1) (beyond xs h.0)
    where
      beyond : (ys : List A) → All (S x) ys → All (λ a. All (R a) (flat_map f ys)) (f x)
      beyond [] k = all_of (λ a. All (R a) []) (λ a. tt) (f x)
      beyond (y ∷ ys) k =
          all_both (λ a. All (R a) (f y)) (λ a. All (R a) (flat_map f ys)) (λ a. All (R a) (f y ++ flat_map f ys))
          (λ a. all_append (R a) (f y) (flat_map f ys)) (f x) (next x y k.0) (beyond ys k.1)

pub rising-up_from : (k n : ℕ) → Rising ◌<◌ (up_from k n)
unfolding up_from
rising-up_from k zero = tt
rising-up_from k (suc n) = (all-up_from (◌<◌ k) (suc k) n (λ i h m. h), rising-up_from (suc k) n)
