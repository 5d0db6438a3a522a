-- Both ways agree on every day and every date: the sheets of the calendar, counted from the first, are its dates in their order, each once.
use Rattle.base.proofs.Prelude.{ℕ, zero, suc, ◌+◌, ◌≤◌, ◌<◌, ◌≡◌, refl, ap, ◌∙◌, true, ◌↔◌, arith, dec_le, lt-ltb, le-ltb}
use Rattle.calendar.specs.{declared.Date.Date, Years.{month_length, months_with, month_lengths, leap_year}, Dates.{date, epoch, date_exists, earlier, date_after}, Numbers.{days_before_year, days_before_month, day_number, date_of, last_day}}
use Rattle.calendar.proofs.{Months.{month_length-bounds, days_before_month-first, days_before_month-next, days_before_month-all}, Existing.{Existing, existing, exists, days_before_year-next, days_before_year-2000, days_before_year-2400, day_number-january, day_number-last}, Order.{Compared, sooner, same, later, comes-before-or-after, before-number, earlier-of-before, before-of-earlier}}

-- ---- The next sheet

-- why the next sheet is what it is
data Sheet (d : Date) : Type 0 where
  next-day : d.day < month_length d.year d.month → date_after d ≡ date d.year d.month (d.day + 1) → Sheet d
  next-month : d.day ≡ month_length d.year d.month → d.month < 12 → date_after d ≡ date d.year (d.month + 1) 1 → Sheet d
  next-year : d.day ≡ month_length d.year d.month → d.month ≡ 12 → date_after d ≡ date (d.year + 1) 1 1 → Sheet d

sheet : (d : Date) → Existing d → Sheet d
unfolding date_after
sheet d x =
    let last = x.last in
    let december = x.december in
    let size = month_length d.year d.month in
    elim (dec_le size d.day) [
      | no within ↦ next-day (omega arith) (rw (lt-ltb d.day size (omega arith)))
      | yes over ↦ elim (dec_le 12 d.month) [
        | no month ↦ next-month (omega arith) (omega arith) (rw (le-ltb d.day size over, lt-ltb d.month 12 (omega arith)))
        | yes month ↦ next-year (omega arith) (omega arith) (rw (le-ltb d.day size over, le-ltb d.month 12 month))
      ]
    ]

day_number-after : (d : Date) → Existing d → day_number (date_after d) ≡ suc (day_number d)
unfolding day_number
day_number-after d x = counted (sheet d x)
  where
    counted : Sheet d → day_number (date_after d) ≡ suc (day_number d)
    counted (next-day within e) =
        let first = x.first in
        ap day_number e ∙ omega arith
    counted (next-month over month e) =
        let first = x.first in
        ap day_number e ∙ omega (arith, days_before_month-next d.year d.month x.january x.december)
    counted (next-year over month e) =
        let first = x.first in
        let whole = days_before_month-all d.year in
        let part = days_before_month-next d.year d.month x.january x.december in
        let place : d.month + 1 ≡ 13 = omega arith in
        let end = ap (days_before_month d.year) place in
        ap day_number e ∙ omega (arith, days_before_year-next d.year x.from-2000, days_before_month-first (d.year + 1))

-- ---- No sheet is missing

date_after-existing : (d : Date) → Existing d → day_number d < last_day → Existing (date_after d)
date_after-existing d x before-end = made (sheet d x)
  where
    made : Sheet d → Existing (date_after d)
    made (next-day within e) = rw e (record {
      from-2000 = x.from-2000;
      to-2399 = x.to-2399;
      january = x.january;
      december = x.december;
      first = omega arith;
      last = omega arith;
    })
    made (next-month over month e) = rw e (record {
      from-2000 = x.from-2000;
      to-2399 = x.to-2399;
      january = omega arith;
      december = omega arith;
      first = omega arith;
      last = omega (arith, month_length-bounds d.year (d.month + 1) (omega arith) (omega arith));
    })
    made (next-year over month e) = rw e (record {
      from-2000 = omega (arith, x.from-2000);
      to-2399 = elim (dec_le (d.year + 1) 2399) [ yes h ↦ h | no h ↦ absurd (end h) ];
      january = omega arith;
      december = omega arith;
      first = omega arith;
      last = omega (arith, month_length-bounds (d.year + 1) 1 (omega arith) (omega arith));
    })
      where
        end : (d.year + 1 ≤ 2399 → ⊥) → ⊥
        end h =
            let high = x.to-2399 in
            let final : d.year + 1 ≡ 2400 = omega arith in
            omega (
              arith,
              day_number-after d x,
              ap day_number e,
              day_number-january (d.year + 1),
              ap days_before_year final,
              days_before_year-2400,
            )

epoch-exists : date_exists epoch ≡ true
unfolding date_exists month_length month_lengths months_with leap_year
epoch-exists = refl

date_of-both : (k : ℕ) → k ≤ last_day → Existing (date_of k) × (day_number (date_of k) ≡ k)
unfolding date_of
date_of-both zero h = (existing epoch epoch-exists, day_number-january 2000 ∙ days_before_year-2000)
date_of-both (suc k) h =
    let before = date_of-both k (omega arith) in
    (date_after-existing (date_of k) before.0 (omega arith), day_number-after (date_of k) before.0 ∙ ap suc before.1)

-- ---- Both ways

-- every day has a date of the calendar ..
pub date_of-exists : (k : ℕ) → k ≤ last_day → date_exists (date_of k) ≡ true
date_of-exists k h = exists (date_of k) (date_of-both k h).0

-- .. whose number it is
pub day_number-date_of : (k : ℕ) → k ≤ last_day → day_number (date_of k) ≡ k
day_number-date_of k h = (date_of-both k h).1

-- every date has a day of the calendar
pub day_number-in-range : (d : Date) → date_exists d ≡ true → day_number d ≤ last_day
day_number-in-range d h = day_number-last d (existing d h)

-- the order of dates is the order of their numbers
pub order-kept : (d e : Date) → date_exists d ≡ true → date_exists e ≡ true → (earlier d e ≡ true) ↔ (day_number d < day_number e)
order-kept d e h g = ((λ t. before-number d e x z (before-of-earlier d e t)), (λ less. by_order less (comes-before-or-after d e)))
  where
    x : Existing d
    x = existing d h

    z : Existing e
    z = existing e g

    by_order : day_number d < day_number e → Compared d e → earlier d e ≡ true
    by_order less (sooner b) = earlier-of-before d e b
    by_order less (same p) = absurd (omega (arith, ap day_number p))
    by_order less (later b) = absurd (omega (arith, before-number e d z x b))

-- no two dates have one number
pub day_number-one : (d e : Date) → date_exists d ≡ true → date_exists e ≡ true → day_number d ≡ day_number e → d ≡ e
day_number-one d e h g p = by_order (comes-before-or-after d e)
  where
    by_order : Compared d e → d ≡ e
    by_order (sooner b) = absurd (omega (arith, before-number d e (existing d h) (existing e g) b))
    by_order (same q) = q
    by_order (later b) = absurd (omega (arith, before-number e d (existing e g) (existing d h) b))

-- every date is the date of its number
pub date_of-day_number : (d : Date) → date_exists d ≡ true → date_of (day_number d) ≡ d
date_of-day_number d h =
    let k = day_number d in
    let within = day_number-in-range d h in
    day_number-one (date_of k) d (date_of-exists k within) h (day_number-date_of k within)
