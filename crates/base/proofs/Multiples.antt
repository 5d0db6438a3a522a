-- Laws of common multiples: the least one divides every other, of two numbers and of a list, and with a longer list it only grows.
use Prim.Native.Nat.{ℕ, zero, suc, ◌*◌, ◌/◌, ◌≤◌, ◌<◌, ◌∣◌}
use mathlib.{Core.Path.{◌≡◌, sym, ap, ◌∙◌}, Core.Logic.{◌↔◌, inl, inr}, Core.List.{List, [], ◌∷◌}}
use native.{Mathlib.Omega.arith, Mathlib.Nat.{not-suc-le-zero, le_of_suc-le-suc, eq-zero-or-pos, mul-zero, mul_comm, mul-pos, zero-div, mul-div_assoc, mul-div_cancel', dvd_refl, dvd-zero, eq-zero_of_zero-dvd, one-dvd, dvd_trans, dvd_antisymm, le_of_dvd, pos_of_dvd_of_pos, dvd-mul_left, dvd-mul_right, dvd-mul_right_of_dvd, mul-dvd-mul_left, mul-dvd-mul_right, dvd_of_mul-dvd-mul_left}}
use lib.ListN.{length, take, get_or}
use Rattle.base.specs.{Divisors.gcd, Multiples.{lcm, lcm_of, CommonMultiple}}
use Rattle.base.proofs.Divisors.{gcd-dvd-left, gcd-dvd-right, dvd-gcd, gcd-mul-left}

-- a number outside 1 to bound has no multiple there
dvd-past : (m bound k : ℕ) → (zero < m → m ≤ bound → ⊥) → zero < k → k ≤ bound → m ∣ k → ⊥
dvd-past m bound k out low high h = out (pos_of_dvd_of_pos h low) (omega (arith, le_of_dvd low h))

-- ---- Of two numbers

module _ (a b : ℕ) where
  pub gcd-mul-lcm : gcd a b * lcm a b ≡ a * b
  unfolding lcm
  gcd-mul-lcm = mul-div_cancel' (gcd a b) (dvd-mul_right_of_dvd (gcd a b) (gcd-dvd-left a b) b)

  -- the same, divided before it is multiplied
  pub lcm-div-mul : a / gcd a b * b ≡ lcm a b
  unfolding lcm
  lcm-div-mul =
      mul_comm (a / gcd a b) b ∙ sym (mul-div_assoc (gcd a b) b (gcd-dvd-left a b)) ∙ ap (λ m. m / gcd a b) (mul_comm b a)

  dvd-lcm-left : a ∣ lcm a b
  unfolding lcm
  dvd-lcm-left = rw (mul-div_assoc (gcd a b) a (gcd-dvd-right a b)) (dvd-mul_right a (b / gcd a b))

  dvd-lcm-right : b ∣ lcm a b
  dvd-lcm-right = rw (sym lcm-div-mul) (dvd-mul_left b (a / gcd a b))

  -- k times both have k times their greatest common divisor, and the product of both divides k times each
  lcm-dvd : (k : ℕ) → a ∣ k → b ∣ k → lcm a b ∣ k
  lcm-dvd k h m =
      elim (eq-zero-or-pos (gcd a b)) [
        | inl none ↦
            let left : a ≡ 0 = eq-zero_of_zero-dvd (rw none at (gcd-dvd-left a b)) in
            let nothing : k ≡ 0 = eq-zero_of_zero-dvd (rw left at h) in
            rw nothing (dvd-zero (lcm a b))
        | inr some ↦
            let left : a * b ∣ k * a = rw (mul_comm k a) (mul-dvd-mul_left b a m) in
            let right : a * b ∣ k * b = mul-dvd-mul_right a h b in
            dvd_of_mul-dvd-mul_left (lcm a b) some
            (rw (gcd-mul-lcm, mul_comm (gcd a b) k, sym (gcd-mul-left k a b)) (dvd-gcd (k * a) (k * b) (a * b) left right))
      ]

  pub lcm-dvd-iff : (k : ℕ) → (lcm a b ∣ k) ↔ ((a ∣ k) × (b ∣ k))
  lcm-dvd-iff k = (λ h. (dvd_trans a dvd-lcm-left h, dvd_trans b dvd-lcm-right h), λ h. lcm-dvd k h.0 h.1)

  pub lcm-pos : zero < a → zero < b → zero < lcm a b
  lcm-pos h k =
      elim (eq-zero-or-pos (lcm a b)) [
        | inl none ↦ absurd (omega (arith, mul-pos h k, gcd-mul-lcm, ap (λ m. gcd a b * m) none, mul-zero (gcd a b)))
        | inr some ↦ some
      ]

  pub lcm-zero-right : b ≡ 0 → lcm a b ≡ 0
  unfolding lcm
  lcm-zero-right none = rw (none, mul-zero a) (zero-div _)

  -- a step past the bound never comes back: where the least common multiple is not 1 to bound, no number there is a multiple of both
  pub lcm-past : (bound k : ℕ) → (zero < lcm a b → lcm a b ≤ bound → ⊥) → zero < k → k ≤ bound → a ∣ k → b ∣ k → ⊥
  lcm-past bound k out low high h m = dvd-past (lcm a b) bound k out low high (lcm-dvd k h m)

lcm-comm : (a b : ℕ) → lcm a b ≡ lcm b a
lcm-comm a b = dvd_antisymm (swapped a b) (swapped b a)
  where
    swapped : (a b : ℕ) → lcm a b ∣ lcm b a
    swapped a b = lcm-dvd a b (lcm b a) (dvd-lcm-right b a) (dvd-lcm-left b a)

lcm-assoc : (a b c : ℕ) → lcm (lcm a b) c ≡ lcm a (lcm b c)
lcm-assoc a b c =
    let to_left = (lcm-dvd-iff (lcm a b) c (lcm (lcm a b) c)).0 (dvd_refl _) in
    let ab = (lcm-dvd-iff a b (lcm (lcm a b) c)).0 to_left.0 in
    let to_right = (lcm-dvd-iff a (lcm b c) (lcm a (lcm b c))).0 (dvd_refl _) in
    let bc = (lcm-dvd-iff b c (lcm a (lcm b c))).0 to_right.1 in
    dvd_antisymm
    (lcm-dvd (lcm a b) c _ (lcm-dvd a b _ to_right.0 bc.0) bc.1)
    (lcm-dvd a (lcm b c) _ ab.0 (lcm-dvd b c _ ab.1 to_left.1))

-- ---- Of a list

module _ {ℓ} {A : Type ℓ} (f : A → ℕ) where
  pub lcm_of-dvd-iff : (xs : List A) (k : ℕ) → (lcm_of f xs ∣ k) ↔ CommonMultiple f xs k
  unfolding lcm_of
  lcm_of-dvd-iff [] k = (λ h. tt, λ h. one-dvd k)
  lcm_of-dvd-iff (x ∷ xs) k =
      let first = lcm-dvd-iff (f x) (lcm_of f xs) k in
      let rest = lcm_of-dvd-iff xs k in
      (λ h. ((first.0 h).0, rest.0 (first.0 h).1), λ h. first.1 (h.0, rest.1 h.1))

  -- step by step: one more joins those before it
  pub lcm_of-take : (xs : List A) (z : A) (i : ℕ) → i < length xs → lcm_of f (take (suc i) xs)
      ≡ lcm (lcm_of f (take i xs)) (f (get_or xs i z))
  unfolding lcm_of
  lcm_of-take [] z i h = absurd (not-suc-le-zero h)
  lcm_of-take (x ∷ xs) z zero h = lcm-comm (f x) 1
  lcm_of-take (x ∷ xs) z (suc i) h =
      ap (lcm (f x)) (lcm_of-take xs z i (le_of_suc-le-suc h)) ∙ sym (lcm-assoc (f x) (lcm_of f (take i xs)) (f (get_or xs i z)))

  lcm_of-take-dvd : (xs : List A) (i : ℕ) → lcm_of f (take i xs) ∣ lcm_of f xs
  unfolding lcm_of
  lcm_of-take-dvd [] zero = dvd_refl 1
  lcm_of-take-dvd [] (suc i) = dvd_refl 1
  lcm_of-take-dvd (x ∷ xs) zero = one-dvd _
  lcm_of-take-dvd (x ∷ xs) (suc i) =
      lcm-dvd (f x) (lcm_of f (take i xs)) _ (dvd-lcm-left (f x) (lcm_of f xs))
      (dvd_trans _ (lcm_of-take-dvd xs i) (dvd-lcm-right (f x) (lcm_of f xs)))

  -- nor with more in the list: where the first i are past the bound, no number from 1 to bound is a common multiple of all
  pub lcm_of-past : (xs : List A) (i bound k : ℕ) → (zero < lcm_of f (take i xs) → lcm_of f (take i xs) ≤ bound → ⊥)
      → zero < k → k ≤ bound → CommonMultiple f xs k → ⊥
  lcm_of-past xs i bound k out low high h =
      dvd-past (lcm_of f (take i xs)) bound k out low high (dvd_trans _ (lcm_of-take-dvd xs i) ((lcm_of-dvd-iff xs k).1 h))
