-- Laws of tests, sums and extremes over a list.
--     Some P xs             one of xs, at a place that is given, has P
use Rattle.base.proofs.Prelude.{ℕ, zero, suc, ◌+◌, ◌≤◌, ◌<◌, min, max, zero-le, ◌≡◌, refl, sym, ◌∙◌, Bool, true, false, ◌&&◌, List, [], ◌∷◌, arith, dec_le, not-suc-le-zero, le_of_suc-le-suc, le_refl, length, get_or, take, set}
use Rattle.base.specs.Count.{sum_of, largest, smallest, smallest_with, every, any}
pub use Rattle.base.specs.Count.{All}

-- ---- Tests

-- what follows from a test and from its failing, follows
pub by_bool {κ} : {B : Type κ} (b : Bool) → (b ≡ true → B) → (b ≡ false → B) → B
by_bool true t f = t refl
by_bool false t f = f refl

pub true-not-false : true ≡ false → ⊥
true-not-false h =
    let z : ◌≡◌ {A = ℕ} 0 1 = cc in
    omega arith

pub and_left : (a b : Bool) → (a && b) ≡ true → a ≡ true
and_left true b h = refl
and_left false b h = h

pub and_right : (a b : Bool) → (a && b) ≡ true → b ≡ true
and_right true b h = h
and_right false b h = cc

pub and_both : (a b : Bool) → a ≡ true → b ≡ true → (a && b) ≡ true
and_both true b h k = k
and_both false b h k = h

-- ---- All and Some

module _ {ℓ} {A : Type ℓ} where
  pub all-at : (P : A → Type 0) (xs : List A) (z : A) → All P xs → (i : ℕ) → i < length xs → P (get_or xs i z)
  all-at P [] z h i k = absurd (not-suc-le-zero k)
  all-at P (x ∷ xs) z h zero k = h.0
  all-at P (x ∷ xs) z h (suc i) k = all-at P xs z h.1 i (le_of_suc-le-suc k)

  pub all-by : (P : A → Type 0) (xs : List A) (z : A) → ((i : ℕ) → i < length xs → P (get_or xs i z)) → All P xs
  all-by P [] z f = tt
  all-by P (x ∷ xs) z f = (f zero (omega arith), all-by P xs z (λ i k. f (suc i) (omega arith)))

  pub all_map : (P Q : A → Type 0) → ((x : A) → P x → Q x) → (xs : List A) → All P xs → All Q xs
  all_map P Q f [] h = tt
  all_map P Q f (x ∷ xs) h = (f x h.0, all_map P Q f xs h.1)

  pub all_set : (P : A → Type 0) (xs : List A) (i : ℕ) (x : A) → All P xs → P x → All P (set xs i x)
  all_set P [] i x h k = tt
  all_set P (y ∷ xs) zero x h k = (k, h.1)
  all_set P (y ∷ xs) (suc i) x h k = (h.0, all_set P xs i x h.1 k)

  -- at any place, if what stands outside the list has it too
  pub all_get_d : (P : A → Type 0) (xs : List A) (i : ℕ) (z : A) → All P xs → P z → P (get_or xs i z)
  all_get_d P [] i z h k = k
  all_get_d P (y ∷ xs) zero z h k = h.0
  all_get_d P (y ∷ xs) (suc i) z h k = all_get_d P xs i z h.1 k

  abbrev pub Some : (A → Type 0) → List A → A → Type 0
  Some P xs z = (i : ℕ) × (i < length xs) × P (get_or xs i z)

  -- ---- every and any

  pub every-of-all : (f : A → Bool) (xs : List A) → All (λ x. f x ≡ true) xs → every f xs ≡ true
  unfolding every
  every-of-all f [] all = refl
  every-of-all f (x ∷ xs) (here, rest) = rw here (every-of-all f xs rest)

  pub all-of-every : (f : A → Bool) (xs : List A) → every f xs ≡ true → All (λ x. f x ≡ true) xs
  unfolding every
  all-of-every f [] h = tt
  all-of-every f (x ∷ xs) h = by_bool (f x) (λ t. (t, all-of-every f xs (rw t at h))) (λ e. absurd (true-not-false (sym h ∙ rw e)))

  -- one that passes is enough
  pub any_at : (f : A → Bool) (xs : List A) (z : A) (i : ℕ) → i < length xs → f (get_or xs i z) ≡ true → any f xs ≡ true
  unfolding any
  any_at f [] z i h t = absurd (not-suc-le-zero h)
  any_at f (x ∷ xs) z zero h t = rw t
  any_at f (x ∷ xs) z (suc i) h t = by_bool (f x) (λ u. rw u) (λ e. rw e (any_at f xs z i (le_of_suc-le-suc h) t))

  -- where not any passes, every one fails
  pub any_none : (f : A → Bool) (xs : List A) → any f xs ≡ false → All (λ x. f x ≡ false) xs
  unfolding any
  any_none f [] h = tt
  any_none f (x ∷ xs) h = by_bool (f x) (λ t. absurd (true-not-false (sym (rw t) ∙ h))) (λ e. (e, any_none f xs (rw e at h)))

  -- ---- sum_of

  pub sum_of-le : (f g : A → ℕ) (xs : List A) → All (λ x. f x ≤ g x) xs → sum_of f xs ≤ sum_of g xs
  unfolding sum_of
  sum_of-le f g [] h = le_refl 0
  sum_of-le f g (x ∷ xs) h =
      let rest = sum_of-le f g xs h.1 in
      let first = h.0 in
      omega arith

  pub sum_of-eq : (f g : A → ℕ) (xs : List A) → All (λ x. f x ≡ g x) xs → sum_of f xs ≡ sum_of g xs
  unfolding sum_of
  sum_of-eq f g [] h = refl
  sum_of-eq f g (x ∷ xs) h =
      let rest = sum_of-eq f g xs h.1 in
      let first = h.0 in
      omega arith

  pub sum_of-add : (f g : A → ℕ) (xs : List A) → sum_of (λ x. f x + g x) xs ≡ sum_of f xs + sum_of g xs
  unfolding sum_of
  sum_of-add f g [] = refl
  sum_of-add f g (x ∷ xs) =
      let rest = sum_of-add f g xs in
      omega arith

  -- no smaller anywhere, and larger where a test that holds somewhere holds
  pub sum_of-less : (f g : A → ℕ) (t : A → Bool) (xs : List A) → All (λ x. f x ≤ g x) xs → All (λ x. t x ≡ true → f x < g x) xs
      → any t xs ≡ true → sum_of f xs < sum_of g xs
  unfolding sum_of any
  sum_of-less f g t [] h k some = absurd (true-not-false (sym some))
  sum_of-less f g t (x ∷ xs) h k some =
      by_bool (t x)
      (λ here.
      let first = k.0 here in
      omega (arith, sum_of-le f g xs h.1))
      (λ away.
      let first = h.0 in
      omega (arith, sum_of-less f g t xs h.1 k.1 (rw away at some)))

  pub sum_of-take-suc : (f : A → ℕ) (xs : List A) (z : A) (i : ℕ) → i < length xs
      → sum_of f (take (suc i) xs) ≡ sum_of f (take i xs) + f (get_or xs i z)
  unfolding sum_of
  sum_of-take-suc f [] z i h = absurd (not-suc-le-zero h)
  sum_of-take-suc f (x ∷ xs) z zero h = omega arith
  sum_of-take-suc f (x ∷ xs) z (suc i) h =
      let rest = sum_of-take-suc f xs z i (le_of_suc-le-suc h) in
      omega arith

  pub sum_of-take-le : (f : A → ℕ) (xs : List A) (i j : ℕ) → i ≤ j → sum_of f (take i xs) ≤ sum_of f (take j xs)
  unfolding sum_of
  sum_of-take-le f [] zero j h = zero-le
  sum_of-take-le f [] (suc i) zero h = absurd (not-suc-le-zero h)
  sum_of-take-le f [] (suc i) (suc j) h = zero-le
  sum_of-take-le f (x ∷ xs) zero j h = zero-le
  sum_of-take-le f (x ∷ xs) (suc i) zero h = absurd (not-suc-le-zero h)
  sum_of-take-le f (x ∷ xs) (suc i) (suc j) h =
      let rest = sum_of-take-le f xs i j (le_of_suc-le-suc h) in
      omega arith

  -- ---- largest

  pub largest-ge : (f : A → ℕ) (xs : List A) → All (λ x. f x ≤ largest f xs) xs
  unfolding largest
  largest-ge f [] = tt
  largest-ge f (x ∷ xs) = (
    omega arith,
    all_map (λ y. f y ≤ largest f xs) (λ y. f y ≤ max (f x) (largest f xs)) (λ y h. omega arith) xs (largest-ge f xs),
  )

  pub largest-le : (f : A → ℕ) (m : ℕ) (xs : List A) → All (λ x. f x ≤ m) xs → largest f xs ≤ m
  unfolding largest
  largest-le f m [] h = zero-le
  largest-le f m (x ∷ xs) h =
      let rest = largest-le f m xs h.1 in
      let first = h.0 in
      omega arith

  pub largest-mono : (f g : A → ℕ) (xs : List A) → All (λ x. f x ≤ g x) xs → largest f xs ≤ largest g xs
  unfolding largest
  largest-mono f g [] h = zero-le
  largest-mono f g (x ∷ xs) h =
      let rest = largest-mono f g xs h.1 in
      let first = h.0 in
      omega arith

  -- a largest above a bound is reached somewhere
  pub largest-some : (f : A → ℕ) (m : ℕ) (xs : List A) (z : A) → m < largest f xs → Some (λ x. m < f x) xs z
  unfolding largest
  largest-some f m [] z h = absurd (not-suc-le-zero h)
  largest-some f m (x ∷ xs) z h =
      elim (dec_le (suc m) (f x)) [ yes here ↦ (zero, omega arith, here) | no away ↦ later (largest-some f m xs z (omega arith)) ]
    where
      later : Some (λ y. m < f y) xs z → Some (λ y. m < f y) (x ∷ xs) z
      later s = (suc s.0, omega (arith, s.1), s.2)

  -- ---- smallest

  pub smallest_with-le : (f : A → ℕ) (m : ℕ) (xs : List A) → smallest_with f m xs ≤ m
  unfolding smallest_with
  smallest_with-le f m [] = le_refl m
  smallest_with-le f m (x ∷ xs) =
      let rest = smallest_with-le f m xs in
      omega arith

  pub smallest_with-all : (f : A → ℕ) (m : ℕ) (xs : List A) → All (λ x. smallest_with f m xs ≤ f x) xs
  unfolding smallest_with
  smallest_with-all f m [] = tt
  smallest_with-all f m (x ∷ xs) = (
    omega arith,
    all_map (λ y. smallest_with f m xs ≤ f y) (λ y. min (f x) (smallest_with f m xs) ≤ f y) (λ y h. omega arith) xs
        (smallest_with-all f m xs),
  )

  -- a smallest is above what all are above, and where it is below m it is reached somewhere
  pub smallest_with-above : (f : A → ℕ) (m k : ℕ) (xs : List A) → k < m → All (λ x. k < f x) xs → k < smallest_with f m xs
  unfolding smallest_with
  smallest_with-above f m k [] h all = h
  smallest_with-above f m k (x ∷ xs) h all =
      let rest = smallest_with-above f m k xs h all.1 in
      let first = all.0 in
      omega arith

  pub smallest_with-some : (f : A → ℕ) (m : ℕ) (xs : List A) (z : A) → smallest_with f m xs < m
      → Some (λ x. f x ≡ smallest_with f m xs) xs z
  unfolding smallest_with
  smallest_with-some f m [] z h = absurd (omega arith)
  smallest_with-some f m (x ∷ xs) z h =
      elim (dec_le (f x) (smallest_with f m xs)) [
        | yes here ↦ (zero, omega arith, omega arith)
        | no away ↦
            let same : smallest_with f m xs ≡ min (f x) (smallest_with f m xs) = omega arith in
            let there = smallest_with-some f m xs z (omega arith) in
            (suc there.0, omega (arith, there.1), there.2 ∙ same)
      ]

  pub smallest-above : (f : A → ℕ) (k : ℕ) (xs : List A) → 0 < length xs → All (λ x. k < f x) xs → k < smallest f xs
  unfolding smallest
  smallest-above f k [] h all = absurd (not-suc-le-zero h)
  smallest-above f k (x ∷ xs) h all = smallest_with-above f (f x) k xs all.0 all.1

  pub smallest-le : (f : A → ℕ) (xs : List A) → All (λ x. smallest f xs ≤ f x) xs
  unfolding smallest
  smallest-le f [] = tt
  smallest-le f (x ∷ xs) = (smallest_with-le f (f x) xs, smallest_with-all f (f x) xs)
