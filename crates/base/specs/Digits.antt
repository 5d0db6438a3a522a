-- Numbers as digits in a base, the highest first. A digit is a number below the base: the decimal characters stand here, others where they
-- are written.
--     digits_in base k n     the digits of n, of which there are at most k
--     digits_of base n       the digits of n, without leading zeros; 0 is one digit
--     places_of base k n     the last k digits of n, leading zeros among them
--     value_of base ds       the number that digits say
--     figure d, worth b     the character of a decimal digit, and the digit of a character: 0 to 9 are the bytes 30 to 39
--     decimal_in text        the number that decimal characters say
use Rattle.std.specs.Prelude.{ℕ, zero, suc, ◌+◌, ◌-◌, ◌*◌, ◌/◌, ◌%◌, cond, List, [], ◌∷◌, ◌++◌, map, ltb}

unfoldable pub digits_in : ℕ → ℕ → ℕ → List ℕ
digits_in base zero n = []
digits_in base (suc k) n =
    let high = digits_in base k (n / base) in
    cond (ltb n base) (n ∷ []) (high ++ (n % base ∷ []))

-- n has at most n digits, and one more where it is 0
unfoldable pub digits_of : ℕ → ℕ → List ℕ
digits_of base n = digits_in base (suc n) n

unfoldable pub places_of : ℕ → ℕ → ℕ → List ℕ
places_of base zero n = []
places_of base (suc k) n = places_of base k (n / base) ++ (n % base ∷ [])

-- n is what the digits before say
unfoldable pub number_on : ℕ → ℕ → List ℕ → ℕ
number_on base n [] = n
number_on base n (d ∷ ds) = number_on base (n * base + d) ds

abbrev pub value_of : ℕ → List ℕ → ℕ
value_of base ds = number_on base 0 ds

-- ---- Decimal characters

abbrev pub figure : ℕ → ℕ
figure d = 0x30 + d

abbrev pub worth : ℕ → ℕ
worth b = b - 0x30

-- n is what the characters before say
abbrev pub decimal_on : ℕ → List ℕ → ℕ
decimal_on n text = number_on 10 n (map worth text)

abbrev pub decimal_in : List ℕ → ℕ
decimal_in text = decimal_on 0 text
