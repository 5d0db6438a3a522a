-- What a text shows that is written for another.
--     ShowsMiss text new    reading `new` gives the plan of `text`, with N raised to n or as it was, and releases over which its run
--                           misses; so the desk's verdict and search are those of `text`, and its third line is a miss
use Rattle.std.specs.Prelude.{ℕ, ◌≤◌, ◌≡◌, List}
use Rattle.faults.specs.Checks.{Lawful}
use Rattle.std.specs.Prelude.{Ok}
use Rattle.rules.specs.Answer.{Answered}
use Rattle.days.specs.declared.Day.{Day}
use Rattle.rules.specs.declared.Outcome.TheVariants.{Miss}
use Rattle.rules.specs.Answer.{answer_of}
use Rattle.rules.specs.Verdict.{verdict_of}
use Rattle.rules.specs.Search.{search_of}
use Rattle.rules.specs.Refusal.{run_answer}
use Rattle.rules.specs.Text.{reading_of}
use Rattle.rules.specs.Plan.{with_run}

pub record ShowsMiss (text new : List ℕ) : Type 0 where
  pub lawful : (reading_of new).checked ≡ Lawful
  pub n : ℕ
  pub longer : (reading_of text).plan.run.0 ≤ n
  pub plan_is : (reading_of new).plan ≡ with_run (reading_of text).plan n
  pub t : Day
  pub place : ℕ
  pub within : t.0 ≤ n
  pub misses : run_answer (reading_of new).plan (reading_of new).releases ≡ Ok (Miss t place)
  pub desk : answer_of new ≡ Answered (verdict_of (reading_of text).plan) (search_of (reading_of text).plan) (Miss t place)
