-- The day lies in its year and in its month.
use Rattle.base.proofs.Prelude.{◌+◌, arith}
use Rattle.calendar.proofs.Places.{february_of-year, placed-date}
use Rattle.calendar.proofs.date_of.Goals as goal

pub in_month-in_month-requires-clause-day_bound : goal.in_month-in_month-requires-clause-day_bound
in_month-in_month-requires-clause-day_bound c =
    let placed = c.in_year-in_year.ensures.placed in
    omega (arith, placed.within, february_of-year (2000 + c.in_year-in_year.result.whole))

pub returns : goal.returns
returns c =
    let year = c.in_year-in_year.ensures.placed in
    record { exact = placed-date _ _ _ _ _ year (rw c.february.ensures.exact at c.in_month-in_month.ensures.placed) }
