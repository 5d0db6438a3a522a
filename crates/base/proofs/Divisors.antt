-- Laws of divisors: the greatest common divisor is a multiple of every other, and Euclid's step keeps it. What the kit has of `∣` is cited
-- from there (native.Mathlib.Nat, `dvd-..`).
--     GreatestDivisor a b g     g divides a and b, and every number that divides both divides g
use Prim.Native.Nat.{ℕ, zero, suc, ◌*◌, ◌/◌, ◌%◌, ◌≤◌, ◌<◌, ◌∣◌, max}
use mathlib.{Core.Path.{◌≡◌, subst}, Core.Logic.{◌↔◌, inl, inr}, Core.Bool.{true, and-eq-true_iff}}
use native.{Mathlib.Omega.arith, Mathlib.Nat.{le_refl, le_antisymm, eq-zero-or-pos, zero-mul, mod-lt, mul-div_cancel', dvd_refl, dvd-zero, dvd_antisymm, le_of_dvd, pos_of_dvd_of_pos, dvd_iff_mod-eq-zero, dvd-mod_iff, dvd-mul_right, mul-dvd-mul_left, dvd_of_mul-dvd-mul_left}}
use borrow.Author.Tests.{eqb-true, eq-eqb}
use Rattle.base.specs.Divisors.{divides, common_divisor, greatest_to, gcd}
use Rattle.base.proofs.Greatest.{greatest_to-passes, greatest_to-most}

-- ---- The tests

pub divides-is : (a b : ℕ) → (divides a b ≡ true) ↔ (a ∣ b)
divides-is a b = (λ t. (dvd_iff_mod-eq-zero a).1 (eqb-true (b % a) 0 t), λ h. eq-eqb (b % a) 0 ((dvd_iff_mod-eq-zero a).0 h))

common_divisor-is : (a b d : ℕ) → (common_divisor a b d ≡ true) ↔ ((d ∣ a) × (d ∣ b))
common_divisor-is a b d =
    let both = and-eq-true_iff (divides d a) (divides d b) in (
      λ t. ((divides-is d a).0 (both.0 t).0, (divides-is d b).0 (both.0 t).1),
      λ h. both.1 ((divides-is d a).1 h.0, (divides-is d b).1 h.1),
    )

-- ---- Euclid's way

pub record GreatestDivisor (a b g : ℕ) : Type 0 where
  pub left : g ∣ a
  pub right : g ∣ b
  pub all : (d : ℕ) → d ∣ a → d ∣ b → d ∣ g

greatest-unique : {a b g k : ℕ} → GreatestDivisor a b g → GreatestDivisor a b k → g ≡ k
greatest-unique g k = dvd_antisymm (k.all _ g.left g.right) (g.all _ k.left k.right)

greatest-zero : (a : ℕ) → GreatestDivisor a 0 a
greatest-zero a = record { left = dvd_refl a; right = dvd-zero a; all = λ d h k. h }

-- what divides b and the rest of a by b divides a, and the other way round
greatest-rest : {a b g : ℕ} → GreatestDivisor b (a % b) g → GreatestDivisor a b g
greatest-rest g =
    record {
      left = (dvd-mod_iff _ g.left).0 g.right;
      right = g.left;
      all = λ d h k. g.all d k ((dvd-mod_iff d k).1 h);
    }

euclid : (n a b : ℕ) → b ≤ n → (g : ℕ) × GreatestDivisor a b g
euclid zero a b h =
    let none : b ≡ 0 = omega arith in
    rw none (a, greatest-zero a)
euclid (suc n) a b h =
    elim (eq-zero-or-pos b) [
      | inl none ↦ rw none (a, greatest-zero a)
      | inr some ↦
          let rest = euclid n b (a % b) (omega (arith, mod-lt a some)) in
          (rest.0, greatest-rest rest.1)
    ]

-- ---- The greatest common divisor

-- a common divisor of two numbers that are not both 0 is 1 to the larger of them
common-within : (a b d : ℕ) → zero < max a b → d ∣ a → d ∣ b → (zero < d) × (d ≤ max a b)
common-within a b d some h k =
    elim (eq-zero-or-pos a) [
      | inl none ↦
          let more : zero < b = omega arith in
          (pos_of_dvd_of_pos k more, omega (arith, le_of_dvd more k))
      | inr more ↦ (pos_of_dvd_of_pos h more, omega (arith, le_of_dvd more h))
    ]

-- the greatest in the order of divisors is the greatest number
gcd-found : (a b g : ℕ) → zero < max a b → GreatestDivisor a b g → g ≡ gcd a b
unfolding gcd
gcd-found a b g some is =
    let bounds = common-within a b g some is.left is.right in
    let common = common_divisor-is a b in
    let up : g ≤ gcd a b = greatest_to-most (common_divisor a b) (max a b) g bounds.1 ((common g).1 (is.left, is.right)) in
    let passes = (common (gcd a b)).0 (greatest_to-passes (common_divisor a b) (max a b) (omega (arith, bounds.0))) in
    le_antisymm up (le_of_dvd bounds.0 (is.all (gcd a b) passes.0 passes.1))

gcd-greatest : (a b : ℕ) → GreatestDivisor a b (gcd a b)
unfolding gcd greatest_to
gcd-greatest a b =
    elim (eq-zero-or-pos (max a b)) [
      | inl none ↦
          let left : a ≡ 0 = omega arith in
          let right : b ≡ 0 = omega arith in
          rw (left, right) (greatest-zero 0)
      | inr some ↦
          let g = euclid b a b (le_refl b) in
          subst (GreatestDivisor a b) (gcd-found a b g.0 some g.1) g.1
    ]

module _ (a b : ℕ) where
  pub gcd-dvd-left : gcd a b ∣ a
  gcd-dvd-left = (gcd-greatest a b).left

  pub gcd-dvd-right : gcd a b ∣ b
  gcd-dvd-right = (gcd-greatest a b).right

  pub dvd-gcd : (d : ℕ) → d ∣ a → d ∣ b → d ∣ gcd a b
  dvd-gcd = (gcd-greatest a b).all

  pub gcd-pos : zero < a → zero < gcd a b
  gcd-pos h = pos_of_dvd_of_pos gcd-dvd-left h

  -- Euclid's step
  pub gcd-rec : gcd b (a % b) ≡ gcd a b
  gcd-rec = greatest-unique (greatest-rest (gcd-greatest b (a % b))) (gcd-greatest a b)

-- and its end
pub gcd-zero-right : (a : ℕ) → gcd a 0 ≡ a
gcd-zero-right a = greatest-unique (gcd-greatest a 0) (greatest-zero a)

pub gcd-mul-left : (k a b : ℕ) → gcd (k * a) (k * b) ≡ k * gcd a b
gcd-mul-left k a b =
    let left = mul-dvd-mul_left _ k (gcd-dvd-left a b) in
    let right = mul-dvd-mul_left _ k (gcd-dvd-right a b) in
    dvd_antisymm down (dvd-gcd (k * a) (k * b) (k * gcd a b) left right)
  where
    all : ℕ
    all = gcd (k * a) (k * b)

    down : gcd (k * a) (k * b) ∣ k * gcd a b
    down =
        elim (eq-zero-or-pos k) [
          | inl none ↦ rw (none, zero-mul (gcd a b)) (dvd-zero _)
          | inr some ↦
              let part = all / k in
              let whole : k * part ≡ all = mul-div_cancel' k (dvd-gcd (k * a) (k * b) k (dvd-mul_right k a) (dvd-mul_right k b)) in
              let left : part ∣ a = dvd_of_mul-dvd-mul_left part some (rw whole (gcd-dvd-left (k * a) (k * b))) in
              let right : part ∣ b = dvd_of_mul-dvd-mul_left part some (rw whole (gcd-dvd-right (k * a) (k * b))) in
              subst (λ g. g ∣ k * gcd a b) whole (mul-dvd-mul_left part k (dvd-gcd a b part left right))
        ]
