-- Divisors of a number.
--     a ∣ b                 a divides b: b is a times some number (the kit's; every number divides 0, and 0 divides no other)
--     divides a b           the same as a test
--     common_divisor a b d   d divides a and b
--     greatest_to f n        the greatest of the numbers 1 to n that passes f, or 0 where none does
--     gcd a b               the greatest common divisor: the greatest number that divides a and b; 0 of 0 and 0, which all numbers divide
use Rattle.std.specs.Prelude.{ℕ, zero, suc, ◌%◌, max, Bool, cond, ◌&&◌, eqb}

abbrev pub divides : ℕ → ℕ → Bool
divides a b = eqb (b % a) 0

abbrev pub common_divisor : ℕ → ℕ → ℕ → Bool
common_divisor a b d = divides d a && divides d b

unfoldable pub greatest_to : (ℕ → Bool) → ℕ → ℕ
greatest_to f zero = zero
greatest_to f (suc n) =
    let lower = greatest_to f n in
    cond (f (suc n)) (suc n) lower

unfoldable pub gcd : ℕ → ℕ → ℕ
gcd a b = greatest_to (common_divisor a b) (max a b)
