-- Years and months (ISO 8601, the Gregorian calendar).
--     leap_year y            y is a leap year: 4 divides it, and 100 does not or 400 does
--     year_length y          the days of a year
--     month_lengths y        the days of its twelve months, January first
--     month_length y m       the days of month m, 1 to 12; nothing is meant at another m
use Rattle.std.specs.Prelude.{ℕ, ◌-◌, ◌%◌, Bool, not, cond, ◌&&◌, ◌||◌, List, [], ◌∷◌, eqb, get_or}

unfoldable pub leap_year : ℕ → Bool
leap_year y = eqb (y % 4) 0 && (not (eqb (y % 100) 0) || eqb (y % 400) 0)

unfoldable pub year_length : ℕ → ℕ
year_length y = cond (leap_year y) 366 365

-- with f days in February
unfoldable pub months_with : ℕ → List ℕ
months_with f = 31 ∷ f ∷ 31 ∷ 30 ∷ 31 ∷ 30 ∷ 31 ∷ 31 ∷ 30 ∷ 31 ∷ 30 ∷ 31 ∷ []

unfoldable pub month_lengths : ℕ → List ℕ
month_lengths y = months_with (cond (leap_year y) 29 28)

unfoldable pub month_length : ℕ → ℕ → ℕ
month_length y m = get_or (month_lengths y) (m - 1) 0
