-- Common multiples.
--     lcm a b                   the least common multiple of a and b: their product over the greatest common divisor; 0 where one is 0
--     lcm_of f xs                the least common multiple of f over xs; 1 of none
--     CommonMultiple f xs k     every f of xs divides k
-- That lcm divides every common multiple is `lcm-dvd`, and `lcm_of-dvd` for a list (proofs/Multiples.antt).
use Rattle.std.specs.Prelude.{ℕ, ◌*◌, ◌/◌, List, [], ◌∷◌}
use Rattle.std.specs.Int.{◌∣◌}
use Rattle.base.specs.Divisors.{gcd}

unfoldable pub lcm : ℕ → ℕ → ℕ
lcm a b = a * b / gcd a b

module _ {ℓ} {A : Type ℓ} where
  unfoldable pub lcm_of : (A → ℕ) → List A → ℕ
  lcm_of f [] = 1
  lcm_of f (x ∷ xs) = lcm (f x) (lcm_of f xs)

  abbrev pub CommonMultiple : (A → ℕ) → List A → ℕ → Type 0
  CommonMultiple f [] k = Unit {0}
  CommonMultiple f (x ∷ xs) k = (f x ∣ k) × CommonMultiple f xs k
