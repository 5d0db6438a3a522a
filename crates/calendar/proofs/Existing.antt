-- What it is for a date to exist, as facts on numbers; and where its day number lies.
--     Existing d            the bounds of d's year, month and day
use Rattle.base.proofs.Prelude.{ℕ, suc, ◌+◌, ◌-◌, ◌≤◌, ◌<◌, ◌≡◌, refl, ap, true, ◌&&◌, arith}
use Rattle.base.proofs.Lists.{and_left, and_right, and_both}
use Rattle.faults.specs.Checks.{in_bounds}
use Rattle.faults.proofs.Checks.{in_bounds-low, in_bounds-high, in_bounds-yes}
use Rattle.calendar.specs.{declared.Date.Date, Years.{year_length, month_length}, Dates.{date, date_exists}, Numbers.{days_before_year, days_before_month, day_number, last_day}}
use Rattle.calendar.proofs.{Years.{up, year_start, year_start-next, year_start-mono, days_before_year-closed}, Months.{days_before_month-first, days_before_month-next, days_before_month-le, days_before_month-all}}

pub record Existing (d : Date) : Type 0 where
  pub from-2000 : 2000 ≤ d.year
  pub to-2399 : d.year ≤ 2399
  pub january : 1 ≤ d.month
  pub december : d.month ≤ 12
  pub first : 1 ≤ d.day
  pub last : d.day ≤ month_length d.year d.month

pub existing : (d : Date) → date_exists d ≡ true → Existing d
unfolding date_exists
existing d h =
    let y = in_bounds 2000 d.year 2399 in
    let m = in_bounds 1 d.month 12 in
    let day = in_bounds 1 d.day (month_length d.year d.month) in
    let ym = and_left (y && m) day h in
    let in_year = and_left y m ym in
    let in_month = and_right y m ym in
    let in_day = and_right (y && m) day h in
    record {
      from-2000 = in_bounds-low 2000 d.year 2399 in_year;
      to-2399 = in_bounds-high 2000 d.year 2399 in_year;
      january = in_bounds-low 1 d.month 12 in_month;
      december = in_bounds-high 1 d.month 12 in_month;
      first = in_bounds-low 1 d.day (month_length d.year d.month) in_day;
      last = in_bounds-high 1 d.day (month_length d.year d.month) in_day;
    }

pub exists : (d : Date) → Existing d → date_exists d ≡ true
unfolding date_exists
exists d x =
    and_both _ _
    (and_both _ _ (in_bounds-yes 2000 d.year 2399 x.from-2000 x.to-2399) (in_bounds-yes 1 d.month 12 x.january x.december))
    (in_bounds-yes 1 d.day (month_length d.year d.month) x.first x.last)

-- ---- Where a day number lies

pub days_before_year-next : (y : ℕ) → 2000 ≤ y → days_before_year (y + 1) ≡ days_before_year y + year_length y
days_before_year-next y low =
    let k = y - 2000 in
    let after : y + 1 - 2000 ≡ suc k = omega arith in
    let here : 2000 + k ≡ y = omega arith in
    omega (arith, days_before_year-closed (y + 1), days_before_year-closed y, ap year_start after, year_start-next k, ap year_length here)

pub days_before_year-le : (y z : ℕ) → y ≤ z → days_before_year y ≤ days_before_year z
days_before_year-le y z h =
    let far : y - 2000 + (z - 2000 - (y - 2000)) ≡ z - 2000 = omega arith in
    omega (
      arith,
      days_before_year-closed y,
      days_before_year-closed z,
      year_start-mono (y - 2000) (z - 2000 - (y - 2000)),
      ap year_start far,
    )

pub days_before_year-2000 : days_before_year 2000 ≡ 0
unfolding year_start up
days_before_year-2000 = days_before_year-closed 2000

pub days_before_year-2400 : days_before_year 2400 ≡ last_day + 1
unfolding year_start up
days_before_year-2400 = days_before_year-closed 2400

-- day numbers with all three parts apart
pub day_number-parts : (y m d : ℕ) → day_number (date y m d) ≡ days_before_year y + days_before_month y m + (d - 1)
unfolding day_number
day_number-parts y m d = refl

pub day_number-january : (y : ℕ) → day_number (date y 1 1) ≡ days_before_year y
day_number-january y = omega (arith, day_number-parts y 1 1, days_before_month-first y)

module _ (d : Date) (x : Existing d) where
  -- within its month
  pub day_number-from-month : days_before_year d.year + days_before_month d.year d.month ≤ day_number d
  unfolding day_number
  day_number-from-month = omega arith

  pub day_number-to-month : day_number d < days_before_year d.year + days_before_month d.year (d.month + 1)
  unfolding day_number
  day_number-to-month =
      let next = days_before_month-next d.year d.month x.january x.december in
      omega arith

  -- within its year
  pub day_number-from-year : days_before_year d.year ≤ day_number d
  day_number-from-year = omega (arith, day_number-from-month)

  pub day_number-to-year : day_number d < days_before_year (d.year + 1)
  day_number-to-year =
      let whole = days_before_month-le d.year (d.month + 1) 13 (omega arith) in
      omega (arith, day_number-to-month, days_before_month-all d.year, days_before_year-next d.year x.from-2000)

  pub day_number-last : day_number d ≤ last_day
  day_number-last = omega (arith, day_number-to-year, days_before_year-le (d.year + 1) 2400 (omega arith), days_before_year-2400)
