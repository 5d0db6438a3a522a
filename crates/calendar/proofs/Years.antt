-- Laws of years. The days before a year have a closed form, proved by steps of one year.
--     up n k                k / n, rounded up
--     year_start k           the day number of 1 January of year 2000 + k
--     Kind y                which of 400, 100 and 4 divide y, and whether it is a leap year
--     year_guess day         the year of a day, counted from 2000, by the mean length of a year: the right one or the one after it
use Rattle.base.proofs.Prelude.{ℕ, zero, suc, ◌+◌, ◌-◌, ◌*◌, ◌/◌, ◌%◌, ◌≤◌, ◌<◌, ◌≡◌, refl, sym, ◌∙◌, ap, true, false, arith, div-add-mod', mod-lt, eqb, eqb-true, eqb-false}
use native.Mathlib.Nat.{add-div_right, div-eq_of_lt-le}
use Rattle.base.proofs.Lists.{by_bool}
use Rattle.base.specs.Count.{sum_of, up_from}
use Rattle.calendar.specs.{Years.{leap_year, year_length}, Numbers.days_before_year}

-- ---- Rounding up

unfoldable pub up : ℕ → ℕ → ℕ
up n k = (k + (n - 1)) / n

module _ (n k : ℕ) (some : 1 ≤ n) where
  up-most : up n k * n ≤ k + (n - 1)
  unfolding up
  up-most = omega (arith, div-add-mod' (k + (n - 1)) n)

  up_least : k ≤ up n k * n
  unfolding up
  up_least = omega (arith, div-add-mod' (k + (n - 1)) n, mod-lt (k + (n - 1)) some)

  up_suc : up n (suc k) ≡ k / n + 1
  unfolding up
  up_suc =
      let same : suc k + (n - 1) ≡ k + n = omega arith in
      ap (λ m. m / n) same ∙ add-div_right k some

  up-whole : k % n ≡ 0 → up n (suc k) ≡ up n k + 1
  unfolding up
  up-whole whole =
      let parts = div-add-mod' k n in
      let here : (k + (n - 1)) / n ≡ k / n = div-eq_of_lt-le n (omega arith) (omega arith) in
      up_suc ∙ ap (λ m. m + 1) (sym here)

  up-part : (k % n ≡ 0 → ⊥) → up n (suc k) ≡ up n k
  unfolding up
  up-part part =
      let parts = div-add-mod' k n in
      let rest = mod-lt k some in
      let here : (k + (n - 1)) / n ≡ k / n + 1 = div-eq_of_lt-le n (omega arith) (omega arith) in
      up_suc ∙ sym here

-- ---- Leap years

year_length-leap : (y : ℕ) → leap_year y ≡ true → year_length y ≡ 366
unfolding year_length
year_length-leap y h = rw h

year_length-common : (y : ℕ) → leap_year y ≡ false → year_length y ≡ 365
unfolding year_length
year_length-common y h = rw h

pub data Kind (y : ℕ) : Type 0 where
  by-400 : y % 400 ≡ 0 → leap_year y ≡ true → Kind y
  by-100 : y % 100 ≡ 0 → (y % 400 ≡ 0 → ⊥) → leap_year y ≡ false → Kind y
  by_4 : y % 4 ≡ 0 → (y % 100 ≡ 0 → ⊥) → leap_year y ≡ true → Kind y
  by-none : (y % 4 ≡ 0 → ⊥) → leap_year y ≡ false → Kind y

kind_of : (y : ℕ) → Kind y
unfolding leap_year
kind_of y =
    by_bool (eqb (y % 4) 0)
    (λ f. by_bool (eqb (y % 100) 0)
    (λ h. by_bool (eqb (y % 400) 0)
    (λ q. by-400 (eqb-true (y % 400) 0 q) (rw (f, h, q)))
    (λ q. by-100 (eqb-true (y % 100) 0 h) (eqb-false (y % 400) 0 q) (rw (f, h, q))))
    (λ h. by_4 (eqb-true (y % 4) 0 f) (eqb-false (y % 100) 0 h) (rw (f, h))))
    (λ f. by-none (eqb-false (y % 4) 0 f) (rw f))

-- ---- The days before a year

unfoldable pub year_start : ℕ → ℕ
year_start k = 365 * k + up 4 k + up 400 k - up 100 k

pub year_start-next : (k : ℕ) → year_start (suc k) ≡ year_start k + year_length (2000 + k)
unfolding year_start
year_start-next k = step (kind_of (2000 + k))
  where
    few : up 100 k ≤ k
    few = omega (arith, up-most 100 k (omega arith))

    step : Kind (2000 + k) → year_start (suc k) ≡ year_start k + year_length (2000 + k)
    step (by-400 q e) =
        let four = up-whole 4 k (omega arith) (omega arith) in
        let hundred = up-whole 100 k (omega arith) (omega arith) in
        let fourth = up-whole 400 k (omega arith) (omega arith) in
        omega (arith, year_length-leap (2000 + k) e, few)
    step (by-100 h q e) =
        let four = up-whole 4 k (omega arith) (omega arith) in
        let hundred = up-whole 100 k (omega arith) (omega arith) in
        let fourth = up-part 400 k (omega arith) (omega arith) in
        omega (arith, year_length-common (2000 + k) e, few)
    step (by_4 f h e) =
        let four = up-whole 4 k (omega arith) (omega arith) in
        let hundred = up-part 100 k (omega arith) (omega arith) in
        let fourth = up-part 400 k (omega arith) (omega arith) in
        omega (arith, year_length-leap (2000 + k) e, few)
    step (by-none f e) =
        let four = up-part 4 k (omega arith) (omega arith) in
        let hundred = up-part 100 k (omega arith) (omega arith) in
        let fourth = up-part 400 k (omega arith) (omega arith) in
        omega (arith, year_length-common (2000 + k) e, few)

-- the lengths of n years from year 2000 + j on
year_lengths : (j n : ℕ) → year_start j + sum_of year_length (up_from (2000 + j) n) ≡ year_start (j + n)
unfolding sum_of up_from
year_lengths j zero =
    let same : j + 0 ≡ j = omega arith in
    omega (arith, ap year_start same)
year_lengths j (suc n) =
    let same : suc j + n ≡ j + suc n = omega arith in
    let next : 2000 + suc j ≡ suc (2000 + j) = omega arith in
    omega (arith, year_lengths (suc j) n, year_start-next j, ap year_start same, ap (λ y. sum_of year_length (up_from y n)) next)

year_start-zero : year_start 0 ≡ 0
unfolding year_start up
year_start-zero = refl

pub days_before_year-closed : (y : ℕ) → days_before_year y ≡ year_start (y - 2000)
unfolding days_before_year
days_before_year-closed y =
    let same : 0 + (y - 2000) ≡ y - 2000 = omega arith in
    omega (arith, year_lengths 0 (y - 2000), year_start-zero, ap year_start same)

pub year_start-mono : (j n : ℕ) → year_start j ≤ year_start (j + n)
year_start-mono j n = omega (arith, year_lengths j n)

pub days_before_year-at : (k : ℕ) → days_before_year (2000 + k) ≡ year_start k
days_before_year-at k =
    let same : 2000 + k - 2000 ≡ k = omega arith in
    days_before_year-closed (2000 + k) ∙ ap year_start same

-- ---- Years are 146,097 / 400 days long, within two days

pub year_start-low : (k : ℕ) → 146097 * k ≤ 400 * year_start k + 396
unfolding year_start
year_start-low k =
    omega (arith, up_least 4 k (omega arith), up-most 100 k (omega arith), up_least 400 k (omega arith))

pub year_start-high : (k : ℕ) → 400 * year_start k ≤ 146097 * k + 699
unfolding year_start
year_start-high k =
    omega (arith, up-most 4 k (omega arith), up_least 100 k (omega arith), up-most 400 k (omega arith))

abbrev pub year_guess : ℕ → ℕ
year_guess day = (400 * day + 396) / 146097

pub guess-not-before : (day : ℕ) → day < year_start (suc (year_guess day))
guess-not-before day = omega (arith, year_start-low (suc (year_guess day)))

pub guess-least : (day : ℕ) → day < year_start (year_guess day) → 1 ≤ year_guess day
guess-least day h = some (year_guess day) h
  where
    some : (g : ℕ) → day < year_start g → 1 ≤ g
    some zero k = absurd (omega (arith, year_start-zero))
    some (suc g) k = omega arith

pub guess-one-after : (day : ℕ) → 1 ≤ year_guess day → year_start (year_guess day - 1) ≤ day
guess-one-after day some = omega (arith, year_start-high (year_guess day - 1))
