-- Two plans whose runs over a release list are one, day by day.
--     RunsAlike q p rs      on each day up to the first that is late in the run of p, that day too: the same place is late, or none, and
--                           the bank has done the same on the days before it
use Rattle.std.specs.Prelude.{ℕ, ◌<◌, ◌≡◌, List}
use Rattle.rules.specs.declared.Plan.{Plan}
use Rattle.rules.specs.declared.Release.{Release}
use Rattle.rules.specs.Run.{late_on, history}

pub record RunsAlike (q p : Plan) (rs : List Release) : Type 0 where
  pub late : (t : ℕ) → ((i : ℕ) → i < t → late_on p rs i ≡ 0) → late_on q rs t ≡ late_on p rs t
  pub done : (t : ℕ) → ((i : ℕ) → i < t → late_on p rs i ≡ 0) → history q rs t ≡ history p rs t
