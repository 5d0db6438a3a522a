-- The decimal digits of a number, one at a time: the last is the remainder by 10, and those before it are the quotient's.
use Rattle.base.proofs.Prelude.{ℕ, suc, ◌+◌, ◌/◌, ◌%◌, ◌^◌, ◌≤◌, ◌<◌, ◌≡◌, sym, ap, ◌∙◌, List, [], ◌∷◌, ◌++◌, map, map-append, append_assoc, arith, length, length-map, length-append, mod-eq_of_lt}
use Rattle.base.specs.Digits.{digits_of}
use Rattle.base.proofs.Digits.{digits-one, digits_last, digits-short}
use Rattle.rules.specs.Lines.{decimal}

-- the character of a digit
abbrev char : ℕ → ℕ
char d = 0x30 + d

pub decimal_digit : (n : ℕ) → n < 10 → decimal n ≡ (0x30 + n) ∷ []
unfolding decimal
decimal_digit n h = ap (map char) (digits-one 10 (omega arith) n h)

pub decimal-last : (n : ℕ) → 10 ≤ n → decimal n ≡ decimal (n / 10) ++ ((0x30 + n % 10) ∷ [])
unfolding decimal
decimal-last n h = ap (map char) (digits_last 10 (omega arith) n h) ∙ map-append char (digits_of 10 (n / 10)) (n % 10 ∷ [])

pub decimal-short : (k n : ℕ) → n < 10 ^ suc k → length (decimal n) ≤ suc k
unfolding decimal
decimal-short k n h = omega (arith, length-map (digits_of 10 n) char, digits-short 10 (omega arith) k n h)

-- a u32 has at most 10 digits, a u64 at most 20
pub decimal-32 : (n : ℕ) → n < 2 ^ 32 → length (decimal n) ≤ 10
decimal-32 n h = decimal-short 9 n (omega arith)

pub decimal-64 : (n : ℕ) → n < 2 ^ 64 → length (decimal n) ≤ 20
decimal-64 n h = decimal-short 19 n (omega arith)

-- ---- The last digit behind the others

pub digit-length : (n : ℕ) → n < 10 → length (decimal n) ≡ 1
digit-length n h = ap length (decimal_digit n h)

pub last-length : (n : ℕ) → 10 ≤ n → length (decimal n) ≡ length (decimal (n / 10)) + 1
last-length n h = ap length (decimal-last n h) ∙ length-append (decimal (n / 10)) ((0x30 + n % 10) ∷ [])

-- a text with the digits of a number behind it, of which the last is put there by itself
pub digit-behind : (text : List ℕ) (n : ℕ) → n < 10 → text ++ ((0x30 + n % 10) ∷ []) ≡ text ++ decimal n
digit-behind text n h =
    let one : n % 10 ≡ n = mod-eq_of_lt h in
    ap (λ ds. text ++ ds) (ap (λ d. (0x30 + d) ∷ []) one ∙ sym (decimal_digit n h))

pub last-behind : (text front : List ℕ) (n : ℕ) → 10 ≤ n → front ≡ text ++ decimal (n / 10)
    → front ++ ((0x30 + n % 10) ∷ []) ≡ text ++ decimal n
last-behind text front n h e =
    ap (λ ds. ds ++ ((0x30 + n % 10) ∷ [])) e ∙ append_assoc text (decimal (n / 10)) ((0x30 + n % 10) ∷ [])
    ∙ ap (λ ds. text ++ ds) (sym (decimal-last n h))
