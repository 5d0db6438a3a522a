-- What the code's run says of a list that misses.
--     SaysMiss r d          the run's answer r is a miss, on day d or earlier
use Rattle.std.specs.Prelude.{ℕ, ◌≤◌, ◌≡◌}
use Rattle.rules.specs.declared.Outcome.{Outcome}
use Rattle.faults.specs.declared.Refusal.{Refusal}
use Rattle.std.specs.Prelude.{Ok, Result}
use Rattle.days.specs.Days.{day}
use Rattle.rules.specs.declared.Outcome.TheVariants.{Miss}

pub record SaysMiss (r : Result Outcome Refusal) (d : ℕ) : Type 0 where
  pub t : ℕ
  pub place : ℕ
  pub soon : t ≤ d
  pub is : r ≡ Ok (Miss (day t) place)
