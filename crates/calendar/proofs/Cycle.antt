-- The calendar repeats: after 146,097 days, 400 years, every date comes again on its weekday.
use Rattle.base.proofs.Prelude.{ℕ, zero, suc, ◌+◌, ◌-◌, ◌%◌, ◌≡◌, refl, sym, ap, ◌∙◌, true, cond, arith, ltb, get_or}
use Rattle.base.specs.Count.{sum_of, up_from}
use Rattle.base.proofs.Lists.{by_bool}
use Rattle.calendar.specs.{declared.Date.Date, declared.Weekday.TheVariants.Saturday, Years.{leap_year, year_length, months_with, month_lengths, month_length}, Dates.{date, epoch, date_exists, date_after}, Numbers.{days_before_year, days_before_month, day_number, date_of, last_day}, Weekdays.{week, weekday_of}}
use Rattle.calendar.proofs.{Order.same-date, BothWays.date_of-day_number}

-- the same day 400 years later
abbrev pub ages : Date → Date
ages d = date (d.year + 400) d.month d.day

leap_year-again : (y : ℕ) → leap_year (y + 400) ≡ leap_year y
unfolding leap_year
leap_year-again y =
    let four : (y + 400) % 4 ≡ y % 4 = omega arith in
    let hundred : (y + 400) % 100 ≡ y % 100 = omega arith in
    let fourth : (y + 400) % 400 ≡ y % 400 = omega arith in
    rw (four, hundred, fourth)

month_length-again : (y m : ℕ) → month_length (y + 400) m ≡ month_length y m
unfolding month_length month_lengths
month_length-again y m = ap (λ leap. get_or (months_with (cond leap 29 28)) (m - 1) 0) (leap_year-again y)

date_after-again : (d : Date) → date_after (ages d) ≡ ages (date_after d)
unfolding date_after
date_after-again d =
    rw (month_length-again d.year d.month)
    (by_bool (ltb d.day (month_length d.year d.month))
    (λ t. rw t)
    (λ f. rw f
    (by_bool (ltb d.month 12) (λ t. rw t) (λ g. rw g (same-date _ _ (omega arith) refl refl)))))

date_of-next : (k : ℕ) → date_of (suc k) ≡ date_after (date_of k)
unfolding date_of
date_of-next k = refl

pub first-sheet : date_of 0 ≡ epoch
unfolding date_of
first-sheet = refl

-- the last sheet, and the one after it
last-there : date_exists (date 2399 12 31) ≡ true
unfolding date_exists month_length month_lengths months_with leap_year
last-there = refl

last-number : day_number (date 2399 12 31) ≡ last_day
unfolding day_number days_before_year days_before_month year_length month_lengths months_with leap_year sum_of up_from
last-number = refl

last-after : date_after (date 2399 12 31) ≡ date 2400 1 1
unfolding date_after month_length month_lengths months_with leap_year
last-after = refl

pub last-sheet : date_of last_day ≡ date 2399 12 31
last-sheet = ap date_of (sym last-number) ∙ date_of-day_number (date 2399 12 31) last-there

new-year-2400 : date_of (suc last_day) ≡ date 2400 1 1
new-year-2400 = date_of-next last_day ∙ ap date_after last-sheet ∙ last-after

pub calendar-repeats : (k : ℕ) → date_of (k + 146097) ≡ ages (date_of k)
calendar-repeats zero = new-year-2400 ∙ ap ages (sym first-sheet)
calendar-repeats (suc k) =
    let next : suc k + 146097 ≡ suc (k + 146097) = omega arith in
    ap date_of next
    ∙ date_of-next (k + 146097)
    ∙ ap date_after (calendar-repeats k)
    ∙ date_after-again (date_of k)
    ∙ ap ages (sym (date_of-next k))

-- 146,097 days are 20,871 weeks
pub weekdays-repeat : (k : ℕ) → weekday_of (k + 146097) ≡ weekday_of k
unfolding weekday_of
weekdays-repeat k =
    let whole : (k + 146097) % 7 ≡ k % 7 = omega arith in
    ap (λ n. get_or week n Saturday) whole
