-- Hexadecimal digits: the value of one, and how many stand ahead in a text.
use Rattle.base.proofs.Prelude.{ℕ, ◌+◌, ◌-◌, ◌≤◌, ◌<◌, ◌≡◌, refl, true, false, List, [], ◌∷◌, arith, le_refl, ltb-true, length, take, get_or, get_or-take, length-take-le}
use Rattle.std.specs.Prelude.{not, position, unwrap_or}
use Rattle.std.specs.List.{position_from}
use Rattle.std.proofs.lemmas.Iterator.Adapters.{position_from-zero}
use Rattle.faults.specs.Checks.{in_bounds}
use Rattle.faults.proofs.Checks.{in_bounds-high, in_bounds-yes, in_bounds-not}
use Rattle.base.specs.Count.{every}
use Rattle.base.proofs.Lists.{by_bool, all-at, all-of-every}
use Rattle.rules.specs.Text.{digit_of}
use Rattle.reading.specs.inner.Positions.{is_digit, digits_ahead}

-- ---- One digit

pub digit_of-number : (b : ℕ) → 48 ≤ b → b ≤ 57 → digit_of b ≡ b - 48
unfolding digit_of
digit_of-number b h k = rw (in_bounds-yes 48 b 57 h k)

pub digit_of-letter : (b : ℕ) → 97 ≤ b → b ≤ 102 → digit_of b ≡ b - 87
unfolding digit_of
digit_of-letter b h k = rw (in_bounds-not 48 b 57 (λ low high. omega arith), in_bounds-yes 97 b 102 h k)

pub digit_of-other : (b : ℕ) → (48 ≤ b → b ≤ 57 → ⊥) → (97 ≤ b → b ≤ 102 → ⊥) → digit_of b ≡ 16
unfolding digit_of
digit_of-other b number letter = rw (in_bounds-not 48 b 57 number, in_bounds-not 97 b 102 letter)

pub digit_of-le : (b : ℕ) → digit_of b ≤ 16
unfolding digit_of
digit_of-le b =
    by_bool (in_bounds 48 b 57)
    (λ t. rw t (omega (arith, in_bounds-high 48 b 57 t)))
    (λ e. rw e (by_bool (in_bounds 97 b 102) (λ t. rw t (omega (arith, in_bounds-high 97 b 102 t))) (λ f. rw f (le_refl 16))))

pub newline-no-digit : is_digit 0x0a ≡ false
unfolding digit_of
newline-no-digit = refl

-- ---- Digits ahead

pub digits_ahead-fits : (xs : List ℕ) → digits_ahead xs ≤ length xs
unfolding digits_ahead
digits_ahead-fits [] = omega arith
digits_ahead-fits (b ∷ bs) =
    let rest = digits_ahead-fits bs in
    by_bool (is_digit b) (λ t. rw t (omega arith)) (λ e. rw e (omega arith))

pub digits_ahead-every : (xs : List ℕ) → every is_digit (take (digits_ahead xs) xs) ≡ true
unfolding digits_ahead every
digits_ahead-every [] = refl
digits_ahead-every (b ∷ bs) = by_bool (is_digit b) (λ t. rw (t, t) (digits_ahead-every bs)) (λ e. rw e)

-- they end at the first byte that is none
ahead_from : (i : ℕ) (xs : List ℕ) (n : ℕ) → n ≡ i + length xs
    → unwrap_or (position_from (λ b. not (is_digit b)) i xs) n ≡ i + digits_ahead xs
unfolding digits_ahead
ahead_from i [] n long = long
ahead_from i (b ∷ bs) n long =
    let later = ahead_from (i + 1) bs n (omega arith) in
    by_bool (is_digit b) (λ t. rw t (omega arith)) (λ e. rw e (omega arith))

pub ahead_position : (xs : List ℕ) → unwrap_or (position (λ b. not (is_digit b)) xs) (length xs) ≡ digits_ahead xs
ahead_position xs = rw (position_from-zero (λ b. not (is_digit b)) xs) (omega (arith, ahead_from 0 xs (length xs) (omega arith)))

pub ahead-digit : (xs : List ℕ) (m : ℕ) → m < digits_ahead xs → digit_of (get_or xs m 0) < 16
ahead-digit xs m h =
    let long : m < length (take (digits_ahead xs) xs) = omega (arith, length-take-le (digits_ahead xs) xs (digits_ahead-fits xs)) in
    let digit = all-at (λ b. is_digit b ≡ true) (take (digits_ahead xs) xs) 0 (all-of-every is_digit _ (digits_ahead-every xs)) m long in
    ltb-true _ 16 (rw (get_or-take (digits_ahead xs) xs m 0 h) at digit)
