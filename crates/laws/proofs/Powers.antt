-- The number of permission sets, 2 ^ n for up to ten strings, fits the code's word.
use Rattle.base.proofs.Prelude.{ℕ, ◌*◌, ◌%◌, ◌^◌, ◌≤◌, ◌<◌, ◌≡◌, ap, ◌∙◌, arith, one-mul, mod-eq_of_lt}
use lib.Pow.{pow_mono}

pub sets-small : (n : ℕ) → n ≤ 10 → 2 ^ n ≤ 1024
sets-small n h = pow_mono h

pub shift-is-sets : (n : ℕ) → n ≤ 10 → 1 * 2 ^ n % 2 ^ 32 ≡ 2 ^ n
shift-is-sets n h =
    let small : 2 ^ n < 2 ^ 32 = omega (arith, sets-small n h) in
    ap (λ k. k % 2 ^ 32) (one-mul (2 ^ n)) ∙ mod-eq_of_lt small
