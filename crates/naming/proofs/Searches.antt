-- Searches from above and from below.
use Rattle.base.proofs.Prelude.{ℕ, zero, suc, ◌+◌, ◌-◌, ◌≤◌, ◌<◌, ◌≡◌, refl, ap, ◌∙◌, Bool, true, false, List, arith, leb, le-leb, lt-leb, length, get_or}
use Rattle.base.specs.{Count.least_from, Divisors.greatest_to}
use Rattle.rules.specs.Text.{digit_of}
use Rattle.naming.specs.Malformed.{other_at}

module _ (f : ℕ → Bool) where
  pub greatest-here : (n : ℕ) → 1 ≤ n → f n ≡ true → greatest_to f n ≡ n
  unfolding greatest_to
  greatest-here zero low t = absurd (omega arith)
  greatest-here (suc n) low t = rw t

  pub greatest-lower : (n : ℕ) → 1 ≤ n → f n ≡ false → greatest_to f n ≡ greatest_to f (n - 1)
  unfolding greatest_to
  greatest-lower zero low e = absurd (omega arith)
  greatest-lower (suc n) low e =
      let less : suc n - 1 ≡ n = omega arith in
      rw (e, less)

  pub greatest-none : (n : ℕ) → ((k : ℕ) → k ≤ n → f k ≡ false) → greatest_to f n ≡ 0
  unfolding greatest_to
  greatest-none zero never = refl
  greatest-none (suc n) never = rw (never (suc n) (omega arith)) (greatest-none n (λ k h. never k (omega arith)))

  pub least-here : (k n : ℕ) → 1 ≤ n → f k ≡ true → least_from f k n ≡ k
  unfolding least_from
  least-here k zero low t = absurd (omega arith)
  least-here k (suc n) low t = rw t

  pub least-later : (k n : ℕ) → 1 ≤ n → f k ≡ false → least_from f k n ≡ least_from f (k + 1) (n - 1)
  unfolding least_from
  least-later k zero low e = absurd (omega arith)
  least-later k (suc n) low e =
      let less : suc n - 1 ≡ n = omega arith in
      let next : suc k ≡ k + 1 = omega arith in
      rw (e, less, next)

  pub least-none : (k : ℕ) → least_from f k 0 ≡ k
  unfolding least_from
  least-none k = refl

-- ---- The first character that is no digit, from one on

abbrev no_digit_at : List ℕ → ℕ → Bool
no_digit_at bytes i = leb 16 (digit_of (get_or bytes i 0))

abbrev pub other_from : List ℕ → ℕ → ℕ
other_from bytes i = least_from (no_digit_at bytes) i (length bytes - i)

module _ (bytes : List ℕ) (i : ℕ) where
  pub no-digit-here : i < length bytes → 16 ≤ digit_of (get_or bytes i 0) → other_from bytes i ≡ i
  no-digit-here h k = least-here (no_digit_at bytes) i (length bytes - i) (omega arith) (le-leb 16 (digit_of (get_or bytes i 0)) k)

  pub other-next : i < length bytes → digit_of (get_or bytes i 0) < 16 → other_from bytes i ≡ other_from bytes (i + 1)
  other-next h k =
      let less : length bytes - i - 1 ≡ length bytes - (i + 1) = omega arith in
      least-later (no_digit_at bytes) i (length bytes - i) (omega arith) (lt-leb 16 (digit_of (get_or bytes i 0)) k)
      ∙ ap (least_from (no_digit_at bytes) (i + 1)) less

  pub other-end : length bytes ≤ i → other_from bytes i ≡ i
  other-end h =
      let less : length bytes - i ≡ 0 = omega arith in
      ap (least_from (no_digit_at bytes) i) less ∙ least-none (no_digit_at bytes) i

pub other-whole : (bytes : List ℕ) → other_from bytes 0 ≡ other_at bytes
unfolding other_at
other-whole bytes =
    let all : length bytes - 0 ≡ length bytes = omega arith in
    ap (least_from (no_digit_at bytes) 0) all
