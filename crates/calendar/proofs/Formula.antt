-- The months by arithmetic. If February had 30 days, month m would start after (367 m - 362) / 12 days of the year.
--     full_start m           the days before month m, with 30 days in February
--     odd_days m             the days of a month other than February over 30: 1 or 0
use Rattle.base.proofs.Prelude.{ℕ, ◌+◌, ◌-◌, ◌*◌, ◌/◌, ◌%◌, ◌≤◌, ◌<◌, ◌≡◌, arith, take, get_or}
use Rattle.base.specs.Count.{sum_of, up_from}
use Rattle.base.proofs.Order.{each-of-up_from}
use Rattle.calendar.specs.{Years.months_with, inner.Places.InMonth}

abbrev pub full_start : ℕ → ℕ
full_start m = (367 * m - 362) / 12

abbrev pub odd_days : ℕ → ℕ
odd_days m = (m + m / 8) % 2

-- January and February start as they would
pub start-early : (f m : ℕ) → 1 ≤ m → m ≤ 2 → sum_of (λ n. n) (take (m - 1) (months_with f)) ≡ full_start m
unfolding up_from months_with sum_of
start-early f m low high =
    each-of-up_from (λ m. sum_of (λ n. n) (take (m - 1) (months_with f)) ≡ full_start m) 1 2 (omega arith) m low (omega arith)

-- later months start as many days earlier as February lacks
pub start-late : (f m : ℕ) → f ≤ 30 → 3 ≤ m → m ≤ 12 → sum_of (λ n. n) (take (m - 1) (months_with f)) + (30 - f) ≡ full_start m
unfolding up_from months_with sum_of
start-late f m few low high =
    each-of-up_from (λ m. sum_of (λ n. n) (take (m - 1) (months_with f)) + (30 - f) ≡ full_start m) 3 10 (omega arith) m low (omega arith)

pub month-lengths : (f m : ℕ) → 1 ≤ m → m ≤ 12 → (m ≡ 2 → ⊥) → get_or (months_with f) (m - 1) 0 ≡ 30 + odd_days m
unfolding up_from months_with
month-lengths f m low high =
    each-of-up_from (λ m. (m ≡ 2 → ⊥) → get_or (months_with f) (m - 1) 0 ≡ 30 + odd_days m) 1 12 (omega arith) m low (omega arith)

-- ---- The month of a day of the year

-- with 30 days in February
full-starts : (m : ℕ) → 1 ≤ m → m ≤ 12 → sum_of (λ n. n) (take (m - 1) (months_with 30)) ≡ full_start m
unfolding up_from months_with sum_of
full-starts m low high =
    each-of-up_from (λ m. sum_of (λ n. n) (take (m - 1) (months_with 30)) ≡ full_start m) 1 12 (omega arith) m low (omega arith)

full-lengths : (m : ℕ) → 1 ≤ m → m ≤ 12 → full_start m + get_or (months_with 30) (m - 1) 0 ≡ full_start (m + 1)
unfolding up_from months_with
full-lengths m low high =
    each-of-up_from (λ m. full_start m + get_or (months_with 30) (m - 1) 0 ≡ full_start (m + 1)) 1 12 (omega arith) m low (omega arith)

pub full-month : (day : ℕ) → day ≤ 366 → InMonth 30 day ((12 * day + 373) / 367) (day - full_start ((12 * day + 373) / 367))
full-month day h =
    let m = (12 * day + 373) / 367 in
    let low : 1 ≤ m = omega arith in
    let high : m ≤ 12 = omega arith in
    let after : full_start m ≤ day = omega arith in
    let before : day < full_start (m + 1) = omega arith in
    record {
      adds = omega (arith, full-starts m low high);
      within = omega (arith, full-starts m low high, full-lengths m low high);
      january = low;
      december = high;
    }

module _ (f day m rest : ℕ) (few : f ≤ 30) where
  -- up to February's last day nothing is put in
  pub month-early : day < 31 + f → InMonth 30 day m rest → InMonth f day m rest
  unfolding up_from months_with sum_of
  month-early early x =
      let first : m ≤ 2 = omega (arith, full-starts m x.january x.december) in
      let both =
      each-of-up_from
      (λ m. sum_of (λ n. n) (take (m - 1) (months_with 30)) + rest ≡ day → rest < get_or (months_with 30) (m - 1) 0
      → (sum_of (λ n. n) (take (m - 1) (months_with f)) + rest ≡ day) × (rest < get_or (months_with f) (m - 1) 0))
      1 2 (omega arith) m x.january (omega arith) x.adds x.within in
      record { adds = both.0; within = both.1; january = x.january; december = x.december }

  -- from 1 March on, what February lacks is put in
  pub month-late : 31 + f ≤ day → InMonth 30 (day + (30 - f)) m rest → InMonth f day m rest
  month-late late x =
      let start = full-starts m x.january x.december in
      let next = full-lengths m x.january x.december in
      let third : 3 ≤ m = omega arith in
      let size = month-lengths f m x.january x.december (omega arith) in
      let full = month-lengths 30 m x.january x.december (omega arith) in
      record {
        adds = omega (arith, start-late f m few third x.december);
        within = omega arith;
        january = x.january;
        december = x.december;
      }

-- a month is never longer than in a leap year
pub month-longest : (f m : ℕ) → f ≤ 29 → 1 ≤ m → m ≤ 12 → get_or (months_with f) (m - 1) 0 ≤ get_or (months_with 29) (m - 1) 0
unfolding up_from months_with
month-longest f m few low high =
    each-of-up_from (λ m. get_or (months_with f) (m - 1) 0 ≤ get_or (months_with 29) (m - 1) 0) 1 12 (omega arith) m low (omega arith)
