-- Digits in any base of 2 or more, one at a time: the last digit is the remainder by the base, and those before it are the quotient's. A
-- number below a power of the base has at most so many digits, its digits say it, and digits are those of the number that they say: without
-- leading zeros (digits_of), and in a given number of places (places_of).
use Rattle.base.proofs.Prelude.{ℕ, zero, suc, ◌+◌, ◌-◌, ◌*◌, ◌/◌, ◌%◌, ◌^◌, ◌≤◌, ◌<◌, ◌≡◌, refl, sym, ap, ◌∙◌, List, [], ◌∷◌, ◌++◌, map, append_assoc, append-nil, arith, dec_le, not-suc-le-zero, div-lt_iff_lt-mul, div-add-mod', mod-lt, mul-le-mul_right, pow-suc, one-mul, lt-ltb, le-ltb, length, length-append, get_or}
use native.Mathlib.Nat.{div-lt_self, pow-zero}
use lib.Arith.{digits_div, digits_mod}
use Rattle.base.specs.{Count.All, Digits.{digits_in, digits_of, places_of, number_on, value_of, figure, worth}}
use Rattle.base.proofs.Order.{all_append}

pub number_on-append : (base n : ℕ) (ds es : List ℕ) → number_on base n (ds ++ es) ≡ number_on base (number_on base n ds) es
unfolding number_on
number_on-append base n [] es = refl
number_on-append base n (d ∷ ds) es = number_on-append base (n * base + d) ds es

pub number_on-last : (base n : ℕ) (ds : List ℕ) (d : ℕ) → number_on base n (ds ++ (d ∷ [])) ≡ number_on base n ds * base + d
unfolding number_on
number_on-last base n ds d = number_on-append base n ds (d ∷ [])

pub places-length : (base k n : ℕ) → length (places_of base k n) ≡ k
unfolding places_of
places-length base zero n = refl
places-length base (suc k) n =
    let front = places-length base k (n / base) in
    omega (arith, length-append (places_of base k (n / base)) (n % base ∷ []))

-- a decimal digit is that of its character
pub figures-worth : (ds : List ℕ) → map worth (map figure ds) ≡ ds
figures-worth [] = refl
figures-worth (d ∷ ds) =
    let same : (0x30 + d) - 0x30 ≡ d = omega arith in
    rw (same, figures-worth ds)

-- and a character from 0 to 9 that of its digit
pub worth-figures : (text : List ℕ) → All (λ b. 0x30 ≤ b) text → map figure (map worth text) ≡ text
worth-figures [] h = refl
worth-figures (b ∷ text) h =
    let first = h.0 in
    let same : 0x30 + (b - 0x30) ≡ b = omega arith in
    rw (same, worth-figures text h.1)

-- the first of a text that has one is the first of what it stands ahead of
first-ahead : (xs ys : List ℕ) → 1 ≤ length xs → get_or (xs ++ ys) 0 0 ≡ get_or xs 0 0
first-ahead [] ys h = absurd (not-suc-le-zero h)
first-ahead (x ∷ xs) ys h = refl

module _ (base : ℕ) (two : 2 ≤ base) where
  -- more room than there are digits changes nothing
  digits_in-same : (k j n : ℕ) → n < k → n < j → digits_in base k n ≡ digits_in base j n
  unfolding digits_in
  digits_in-same zero j n h g = absurd (not-suc-le-zero h)
  digits_in-same (suc k) zero n h g = absurd (not-suc-le-zero g)
  digits_in-same (suc k) (suc j) n h g =
      elim (dec_le base n) [
        | yes many ↦
            let less : n / base < n = div-lt_self (omega arith) (omega arith) in
            rw (le-ltb n base many) (ap (λ high. high ++ (n % base ∷ [])) (digits_in-same k j (n / base) (omega arith) (omega arith)))
        | no few ↦ rw (lt-ltb n base (omega arith))
      ]

  pub digits-one : (n : ℕ) → n < base → digits_of base n ≡ n ∷ []
  unfolding digits_of digits_in
  digits-one n h = rw (lt-ltb n base h)

  pub digits_last : (n : ℕ) → base ≤ n → digits_of base n ≡ digits_of base (n / base) ++ (n % base ∷ [])
  unfolding digits_of digits_in
  digits_last n many =
      let less : n / base < n = div-lt_self (omega arith) (omega arith) in
      rw (le-ltb n base many)
      (ap (λ high. high ++ (n % base ∷ [])) (digits_in-same n (suc (n / base)) (n / base) (omega arith) (omega arith)))

  -- the quotient takes a place less
  digits-quotient : (k n : ℕ) → n < base ^ suc k → n / base < base ^ k
  digits-quotient k n h =
      let some : zero < base = omega arith in
      (div-lt_iff_lt-mul some).1 (rw (pow-suc base k) at h)

  -- and is not 0 where there are two digits or more
  quotient-some : (n : ℕ) → base ≤ n → 1 ≤ n / base
  quotient-some n many =
      elim (dec_le 1 (n / base)) [
        | yes some ↦ some
        | no none ↦
            let zero_high : n / base * base ≡ 0 = ap (λ q. q * base) {x = n / base} {y = 0} (omega arith) ∙ omega arith in
            absurd (omega (arith, div-add-mod' n base, mod-lt n {m = base} (omega arith)))
      ]

  -- one place holds what is below the base
  places-one : (n : ℕ) → n < base ^ 1 → n < base
  places-one n h =
      let one : base ^ 1 ≡ base = pow-suc base 0 ∙ rw (pow-zero base) (one-mul base) in
      omega arith

  -- a number of two digits or more takes two places or more
  pub digits-room : (at n : ℕ) → n < base ^ at → base ≤ n → (2 ≤ at) × (n / base < base ^ (at - 1))
  digits-room zero n h many = absurd (omega (arith, pow-zero base))
  digits-room (suc zero) n h many = absurd (omega (arith, places-one n h))
  digits-room (suc (suc k)) n h many =
      let less : suc (suc k) - 1 ≡ suc k = omega arith in
      (omega arith, rw less (digits-quotient (suc k) n h))

  pub digits-short : (k n : ℕ) → n < base ^ suc k → length (digits_of base n) ≤ suc k
  digits-short zero n h = omega (arith, ap length (digits-one n (places-one n h)))
  digits-short (suc k) n h =
      elim (dec_le base n) [
        | yes many ↦
            let front = digits-short k (n / base) (digits-quotient (suc k) n h) in
            omega (arith, ap length (digits_last n many), length-append (digits_of base (n / base)) (n % base ∷ []))
        | no few ↦ omega (arith, ap length (digits-one n (omega arith)))
      ]

  -- the digits of a number say it
  said : (k n : ℕ) → n < k → value_of base (digits_of base n) ≡ n
  unfolding number_on
  said zero n h = absurd (not-suc-le-zero h)
  said (suc k) n h =
      elim (dec_le base n) [
        | yes many ↦
            let less : n / base < n = div-lt_self (omega arith) (omega arith) in
            ap (value_of base) (digits_last n many)
            ∙ number_on-last base 0 (digits_of base (n / base)) (n % base)
            ∙ ap (λ q. q * base + n % base) (said k (n / base) (omega arith))
            ∙ div-add-mod' n base
        | no few ↦
            let first : 0 * base + n ≡ n = omega arith in
            ap (value_of base) (digits-one n (omega arith)) ∙ first
      ]

  pub digits-back : (n : ℕ) → value_of base (digits_of base n) ≡ n
  digits-back n = said (suc n) n (omega arith)

  -- ---- Every digit is below the base

  digits-below-in : (k n : ℕ) → n < k → All (λ d. d < base) (digits_of base n)
  digits-below-in zero n h = absurd (not-suc-le-zero h)
  digits-below-in (suc k) n h =
      elim (dec_le base n) [
        | yes many ↦
            let less : n / base < n = div-lt_self (omega arith) (omega arith) in
            rw (digits_last n many)
            (all_append (λ d. d < base) (digits_of base (n / base)) (n % base ∷ []) (digits-below-in k (n / base) (omega arith))
            (mod-lt n (omega arith), tt))
        | no few ↦ rw (digits-one n (omega arith)) (omega arith, tt)
      ]

  pub digits-below : (n : ℕ) → All (λ d. d < base) (digits_of base n)
  digits-below n = digits-below-in (suc n) n (omega arith)

  pub places-below : (k n : ℕ) → All (λ d. d < base) (places_of base k n)
  unfolding places_of
  places-below zero n = tt
  places-below (suc k) n =
      all_append (λ d. d < base) (places_of base k (n / base)) (n % base ∷ []) (places-below k (n / base)) (mod-lt n (omega arith), tt)

  -- ---- There is a digit, and the first is no zero but of 0

  pub digits-some : (n : ℕ) → 1 ≤ length (digits_of base n)
  digits-some n =
      elim (dec_le base n) [
        | yes many ↦ omega (arith, ap length (digits_last n many), length-append (digits_of base (n / base)) (n % base ∷ []))
        | no few ↦ omega (arith, ap length (digits-one n (omega arith)))
      ]

  digits-lead-in : (k n : ℕ) → n < k → 1 ≤ n → 1 ≤ get_or (digits_of base n) 0 0
  digits-lead-in zero n h some = absurd (not-suc-le-zero h)
  digits-lead-in (suc k) n h some =
      elim (dec_le base n) [
        | yes many ↦
            let less : n / base < n = div-lt_self (omega arith) (omega arith) in
            let positive : 1 ≤ n / base = quotient-some n many in
            let first = first-ahead (digits_of base (n / base)) (n % base ∷ []) (digits-some (n / base)) in
            rw (digits_last n many, first) (digits-lead-in k (n / base) (omega arith) positive)
        | no few ↦ rw (digits-one n (omega arith)) some
      ]

  pub digits-lead : (n : ℕ) → 1 ≤ n → 1 ≤ get_or (digits_of base n) 0 0
  digits-lead n some = digits-lead-in (suc n) n (omega arith) some

  -- ---- Digits are those of the number that they say

  -- digits behind those of a number that is not 0
  digits-on : (v : ℕ) (ds : List ℕ) → 1 ≤ v → All (λ d. d < base) ds → digits_of base (number_on base v ds) ≡ digits_of base v ++ ds
  unfolding number_on
  digits-on v [] some h = sym (append-nil (digits_of base v))
  digits-on v (d ∷ ds) some h =
      let whole : 1 * base ≤ v * base = mul-le-mul_right base some in
      let many : base ≤ v * base + d = omega (arith, one-mul base) in
      let last : digits_of base (v * base + d) ≡ digits_of base v ++ (d ∷ []) = digits_last (v * base + d) many
      ∙ rw (digits_div v h.0, digits_mod v h.0) in
      digits-on (v * base + d) ds (omega arith) h.1 ∙ rw last (append_assoc (digits_of base v) (d ∷ []) ds)

  pub digits-written : (d : ℕ) (ds : List ℕ) → 1 ≤ d → d < base → All (λ e. e < base) ds → digits_of base (value_of base (d ∷ ds)) ≡ d ∷ ds
  unfolding number_on
  digits-written d ds some small h =
      let first : 0 * base + d ≡ d = omega arith in
      rw first (digits-on d ds some h ∙ ap (λ front. front ++ ds) (digits-one d small))

  -- ---- In a given number of places

  pub places-said : (k n : ℕ) → n < base ^ k → value_of base (places_of base k n) ≡ n
  unfolding places_of number_on
  places-said zero n h = omega (arith, pow-zero base)
  places-said (suc k) n h =
      number_on-last base 0 (places_of base k (n / base)) (n % base)
      ∙ ap (λ q. q * base + n % base) (places-said k (n / base) (digits-quotient k n h))
      ∙ div-add-mod' n base

  places-next : (k v d : ℕ) (ds : List ℕ) → d < base → places_of base (suc k) (v * base + d) ++ ds ≡ places_of base k v ++ d ∷ ds
  unfolding places_of
  places-next k v d ds small = rw (digits_div v small, digits_mod v small) (append_assoc (places_of base k v) (d ∷ []) ds)

  places-on : (k v : ℕ) (ds : List ℕ) → All (λ d. d < base) ds
      → places_of base (k + length ds) (number_on base v ds) ≡ places_of base k v ++ ds
  unfolding number_on
  places-on k v [] h =
      let none : k + 0 ≡ k = omega arith in
      rw none (sym (append-nil (places_of base k v)))
  places-on k v (d ∷ ds) h =
      let more : k + suc (length ds) ≡ suc k + length ds = omega arith in
      rw more (places-on (suc k) (v * base + d) ds h.1 ∙ places-next k v d ds h.0)

  pub places-written : (k : ℕ) (ds : List ℕ) → All (λ d. d < base) ds → length ds ≡ k → places_of base k (value_of base ds) ≡ ds
  unfolding places_of
  places-written k ds h e =
      let size : k ≡ 0 + length ds = omega arith in
      ap (λ n. places_of base n (value_of base ds)) size ∙ places-on 0 0 ds h
