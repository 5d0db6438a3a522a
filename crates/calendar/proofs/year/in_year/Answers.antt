-- The guess is the year or the one after it, as years have their mean length within two days.
use Rattle.base.proofs.Prelude.{ℕ, suc, ◌+◌, ◌-◌, ◌≤◌, ◌<◌, ◌≡◌, ap, arith}
use Rattle.calendar.specs.Numbers.{days_before_year}
use Rattle.calendar.proofs.Years.{year_start, year_start-next, days_before_year-at, year_guess, guess-not-before, guess-least, guess-one-after}
use Rattle.calendar.proofs.year.in_year.Goals as goal

pub returns-then-first-day : goal.returns-then-first-day
returns-then-first-day c =
    let day = c.args.day in
    let g = year_guess day in
    let here = days_before_year-at g in
    record {
      placed = record { adds = omega arith; within = omega (arith, guess-not-before day, year_start-next g); last = omega arith };
    }

some : (day : ℕ) → day < days_before_year (2000 + year_guess day) → 1 ≤ year_guess day
some day before = guess-least day (omega (arith, days_before_year-at (year_guess day)))

pub overflow_sub-whole : goal.overflow_sub-whole
overflow_sub-whole c = some c.args.day (omega arith)

pub overflow_sub-result-else-first-day : goal.overflow_sub-result-else-first-day
overflow_sub-result-else-first-day c =
    let day = c.args.day in
    omega (arith, guess-one-after day (some day (omega arith)), days_before_year-at (year_guess day - 1))

pub returns-else-first-day : goal.returns-else-first-day
returns-else-first-day c =
    let day = c.args.day in
    let g = year_guess day in
    let least = some day (omega arith) in
    let same : suc (g - 1) ≡ g = omega arith in
    let here = days_before_year-at (g - 1) in
    let next = days_before_year-at g in
    let after = guess-one-after day least in
    record {
      placed = record {
        adds = omega arith;
        within = omega (arith, year_start-next (g - 1), ap year_start same);
        last = omega arith;
      };
    }
