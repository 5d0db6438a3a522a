-- The days before the year, before the month and before the day, added up.
use Rattle.base.proofs.Prelude.{ℕ, ◌+◌, ◌-◌, ◌≡◌, ap, ◌∙◌, true, cond, arith, take}
use Rattle.base.specs.Count.{sum_of}
use Rattle.calendar.specs.{declared.Date.Date, Years.{leap_year, months_with, month_lengths}, Dates.date_exists, Numbers.{days_before_year, days_before_month, day_number}}
use Rattle.calendar.proofs.Existing.{existing, day_number-last}
use Rattle.calendar.proofs.number_of.Goals as goal

pub overflow_sub-d : goal.overflow_sub-d
overflow_sub-d c = (existing c.args.d c.requires).from-2000

pub year_start-requires : goal.year_start-requires
year_start-requires c = omega (arith, (existing c.args.d c.requires).to-2399)

pub month_start-requires-clause-le_month : goal.month_start-requires-clause-le_month
month_start-requires-clause-le_month c =
    let there = existing c.args.d c.requires in
    (there.january, there.december)

-- the three parts
counted : (d : Date) (y m f : ℕ) → date_exists d ≡ true → y ≡ days_before_year (2000 + (d.year - 2000))
    → f ≡ cond (leap_year d.year) 29 28 → m ≡ sum_of (λ n. n) (take (d.month - 1) (months_with f)) → y + m + (d.day - 1) ≡ day_number d
unfolding day_number days_before_month month_lengths
counted d y m f h years february months =
    let from = (existing d h).from-2000 in
    let same : 2000 + (d.year - 2000) ≡ d.year = omega arith in
    let year = years ∙ ap days_before_year same in
    let month = months ∙ ap (λ f. sum_of (λ n. n) (take (d.month - 1) (months_with f))) february in
    omega (arith, year, month)

pub overflow_add-result : goal.overflow_add-result
overflow_add-result c =
    let d = c.args.d in
    omega (
      arith,
      counted d _ _ _ c.requires c.year_start.ensures.exact c.february.ensures.exact c.month_start.ensures.exact,
      day_number-last d (existing d c.requires),
    )

pub overflow_sub-result : goal.overflow_sub-result
overflow_sub-result c = (existing c.args.d c.requires).first

pub overflow_add-result-2 : goal.overflow_add-result-2
overflow_add-result-2 c =
    let d = c.args.d in
    omega (
      arith,
      counted d _ _ _ c.requires c.year_start.ensures.exact c.february.ensures.exact c.month_start.ensures.exact,
      day_number-last d (existing d c.requires),
    )

pub returns : goal.returns
returns c = record {
  exact = counted c.args.d _ _ _ c.requires c.year_start.ensures.exact c.february.ensures.exact c.month_start.ensures.exact;
}
