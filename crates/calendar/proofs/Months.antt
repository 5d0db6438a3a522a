-- Laws of months: a month starts where the one before it ends, and the twelve fill the year.
use Rattle.base.proofs.Prelude.{ℕ, suc, ◌+◌, ◌-◌, ◌≤◌, ◌≡◌, refl, ap, ◌∙◌, Bool, true, false, cond, arith, length, take}
use Rattle.base.specs.Count.{sum_of}
use Rattle.base.proofs.Lists.{All, all-at, by_bool, sum_of-take-suc, sum_of-take-le}
use Rattle.calendar.specs.{Years.{leap_year, year_length, months_with, month_lengths, month_length}, Numbers.days_before_month}

month_lengths-twelve : (y : ℕ) → length (month_lengths y) ≡ 12
unfolding month_lengths months_with
month_lengths-twelve y = refl

month_lengths-leap : (y : ℕ) (leap : Bool) → leap_year y ≡ leap → month_lengths y ≡ months_with (cond leap 29 28)
unfolding month_lengths
month_lengths-leap y leap h = rw h

pub days_before_month-first : (y : ℕ) → days_before_month y 1 ≡ 0
unfolding days_before_month sum_of
days_before_month-first y = refl

pub days_before_month-next : (y m : ℕ) → 1 ≤ m → m ≤ 12 → days_before_month y (m + 1) ≡ days_before_month y m + month_length y m
unfolding days_before_month month_length
days_before_month-next y m low high =
    let place : m + 1 - 1 ≡ suc (m - 1) = omega arith in
    ap (λ j. sum_of (λ n. n) (take j (month_lengths y))) place
    ∙ sum_of-take-suc (λ n. n) (month_lengths y) 0 (m - 1) (omega (arith, month_lengths-twelve y))

pub days_before_month-le : (y m n : ℕ) → m ≤ n → days_before_month y m ≤ days_before_month y n
unfolding days_before_month
days_before_month-le y m n h = sum_of-take-le (λ k. k) (month_lengths y) (m - 1) (n - 1) (omega arith)

pub days_before_month-all : (y : ℕ) → days_before_month y 13 ≡ year_length y
unfolding days_before_month year_length months_with sum_of
days_before_month-all y =
    by_bool (leap_year y)
    (λ t. rw (month_lengths-leap y true t, t))
    (λ e. rw (month_lengths-leap y false e, e))

Fair : ℕ → Type 0
Fair n = (28 ≤ n) × (n ≤ 31)

fair : (leap : Bool) → All Fair (months_with (cond leap 29 28))
unfolding months_with Fair
fair true = omega arith
fair false = omega arith

pub month_length-bounds : (y m : ℕ) → 1 ≤ m → m ≤ 12 → (28 ≤ month_length y m) × (month_length y m ≤ 31)
unfolding month_length month_lengths Fair
month_length-bounds y m low high =
    all-at Fair (month_lengths y) 0 (fair (leap_year y)) (m - 1) (omega (arith, month_lengths-twelve y))
