-- Sums over the places 0 to n − 1 of a function of the place: what the account of a run needs of them.
use Rattle.base.proofs.Prelude.{ℕ, zero, suc, ◌+◌, ◌*◌, ◌≤◌, ◌<◌, ◌≡◌, refl, sym, Bool, cond, List, [], ◌∷◌, arith, dec_le, ℕ_discrete, le_refl, add-mul, zero-mul, one-mul, length, get_or}
use Rattle.base.specs.Count.{sum_of}
use Rattle.base.proofs.Lists.{by_bool}

unfoldable pub sum_to : ℕ → (ℕ → ℕ) → ℕ
sum_to zero f = 0
sum_to (suc n) f = sum_to n f + f n

pub sum_to-le : (n : ℕ) (f g : ℕ → ℕ) → ((j : ℕ) → j < n → f j ≤ g j) → sum_to n f ≤ sum_to n g
unfolding sum_to
sum_to-le zero f g h = le_refl 0
sum_to-le (suc n) f g h =
    let rest = sum_to-le n f g (λ j k. h j (omega arith)) in
    let last = h n (omega arith) in
    omega arith

-- one place strictly less
pub sum_to-less : (n : ℕ) (f g : ℕ → ℕ) (i : ℕ) → i < n → ((j : ℕ) → j < n → f j ≤ g j) → f i < g i → sum_to n f < sum_to n g
unfolding sum_to
sum_to-less zero f g i k h m = absurd (omega arith)
sum_to-less (suc n) f g i k h m =
    elim (ℕ_discrete i n) [
      | yes same ↦
          let rest = sum_to-le n f g (λ j e. h j (omega arith)) in
          let last : f n < g n = rw same at m in
          omega arith
      | no other ↦
          let rest = sum_to-less n f g i (omega arith) (λ j e. h j (omega arith)) m in
          let last = h n (omega arith) in
          omega arith
    ]

pub sum_to-add : (n : ℕ) (f g : ℕ → ℕ) → sum_to n (λ j. f j + g j) ≡ sum_to n f + sum_to n g
unfolding sum_to
sum_to-add zero f g = refl
sum_to-add (suc n) f g =
    let rest = sum_to-add n f g in
    omega arith

-- counts that grow, each place weighed by e
pub sum_to-grown : (n : ℕ) (k m e : ℕ → ℕ) → sum_to n (λ j. (k j + m j) * e j) ≡ sum_to n (λ j. k j * e j) + sum_to n (λ j. m j * e j)
unfolding sum_to
sum_to-grown zero k m e = refl
sum_to-grown (suc n) k m e =
    let rest = sum_to-grown n k m e in
    let last = add-mul (k n) (m n) (e n) in
    omega arith

-- a sum above 0 has a place above 0
pub sum_to-some : (n : ℕ) (f : ℕ → ℕ) → 1 ≤ sum_to n f → (i : ℕ) × (i < n) × (1 ≤ f i)
unfolding sum_to
sum_to-some zero f h = absurd (omega arith)
sum_to-some (suc n) f h =
    elim (dec_le 1 (f n)) [
      | yes here ↦ (n, omega arith, here)
      | no away ↦
          let rest = sum_to-some n f (omega arith) in
          (rest.0, omega (arith, rest.1), rest.2)
    ]

pub sum_to-none : (n : ℕ) (f : ℕ → ℕ) → ((j : ℕ) → j < n → f j ≡ 0) → sum_to n f ≡ 0
unfolding sum_to
sum_to-none zero f h = refl
sum_to-none (suc n) f h =
    let rest = sum_to-none n f (λ j k. h j (omega arith)) in
    let last = h n (omega arith) in
    omega arith

pub sum_to-part : (n : ℕ) (f : ℕ → ℕ) (i : ℕ) → i < n → f i ≤ sum_to n f
unfolding sum_to
sum_to-part zero f i k = absurd (omega arith)
sum_to-part (suc n) f i k =
    elim (ℕ_discrete i n) [
      | yes same ↦ rw same (omega arith)
      | no other ↦
          let rest = sum_to-part n f i (omega arith) in
          omega arith
    ]

pub sum_to-eq : (n : ℕ) (f g : ℕ → ℕ) → ((j : ℕ) → j < n → f j ≡ g j) → sum_to n f ≡ sum_to n g
unfolding sum_to
sum_to-eq zero f g h = refl
sum_to-eq (suc n) f g h =
    let rest = sum_to-eq n f g (λ j k. h j (omega arith)) in
    let last = h n (omega arith) in
    omega arith

-- those that pass, each weighed by c
pub sum_to-weigh : (n c : ℕ) (ok : ℕ → Bool) → sum_to n (λ j. cond (ok j) c 0) ≡ sum_to n (λ j. cond (ok j) 1 0) * c
unfolding sum_to
sum_to-weigh zero c ok = sym (zero-mul c)
sum_to-weigh (suc n) c ok =
    let rest = sum_to-weigh n c ok in
    let before = sum_to n (λ j. cond (ok j) 1 0) in
    by_bool (ok n)
    (λ t. rw t (omega (arith, add-mul before 1 c, one-mul c)))
    (λ e. rw e (omega (arith, add-mul before 0 c, zero-mul c)))

-- the first m, and n more
pub sum_to-split : (m n : ℕ) (f : ℕ → ℕ) → sum_to (m + n) f ≡ sum_to m f + sum_to n (λ j. f (m + j))
unfolding sum_to
sum_to-split m zero f =
    let whole : m + 0 ≡ m = omega arith in
    rw whole (omega arith)
sum_to-split m (suc n) f =
    let rest = sum_to-split m n f in
    let whole : m + suc n ≡ suc (m + n) = omega arith in
    rw whole (omega arith)

-- the first place apart
pub sum_to-first : (n : ℕ) (f : ℕ → ℕ) → sum_to (suc n) f ≡ f 0 + sum_to n (λ j. f (suc j))
unfolding sum_to
sum_to-first zero f = omega arith
sum_to-first (suc n) f =
    let rest = sum_to-first n f in
    omega arith

-- place by place below a function of the element there, the sum is below the sum over the list
pub sum_to-sum_of {ℓ} : {A : Type ℓ} (f : ℕ → ℕ) (g : A → ℕ) (xs : List A) (z : A) → ((j : ℕ) → j < length xs → f j ≤ g (get_or xs j z))
    → sum_to (length xs) f ≤ sum_of g xs
unfolding sum_to sum_of
sum_to-sum_of f g [] z h = le_refl 0
sum_to-sum_of f g (x ∷ xs) z h =
    let rest = sum_to-sum_of (λ j. f (suc j)) g xs z (λ j k. h (suc j) (omega arith)) in
    let head = h 0 (omega arith) in
    let split = sum_to-first (length xs) f in
    omega arith

-- place by place below a function of the place, the sum over the list is below the sum over the places
pub sum_of-sum_to {ℓ} : {A : Type ℓ} (f : ℕ → ℕ) (g : A → ℕ) (xs : List A) (z : A) → ((j : ℕ) → j < length xs → g (get_or xs j z) ≤ f j)
    → sum_of g xs ≤ sum_to (length xs) f
unfolding sum_to sum_of
sum_of-sum_to f g [] z h = le_refl 0
sum_of-sum_to f g (x ∷ xs) z h =
    let rest = sum_of-sum_to (λ j. f (suc j)) g xs z (λ j k. h (suc j) (omega arith)) in
    let head = h 0 (omega arith) in
    let split = sum_to-first (length xs) f in
    omega arith
