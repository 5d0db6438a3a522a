-- What the engine of the run promises.
--     Ends p rs w           w has how the run ends and how many stints it has
--     Tells p rs list₀ list     a lent list that was list₀ and is list has the numbers of the stints at its front, if it has room for them
use Rattle.std.specs.Prelude.{ℕ, ◌*◌, ◌≤◌, ◌≡◌, List, ◌++◌, length, drop}
use Rattle.rules.specs.declared.Plan.{Plan}
use Rattle.rules.specs.declared.Release.{Release}
use Rattle.rules.specs.Run.{run_of}
use Rattle.rules.specs.Stints.{run_stints, stints_numbers}
use Rattle.run.specs.declared.walk.Walked.{Walked}

pub record Ends (p : Plan) (rs : List Release) (w : Walked) : Type 0 where
  pub outcome : w.outcome ≡ run_of p rs
  pub stints : w.stints ≡ length (run_stints p rs)

abbrev pub Tells : Plan → List Release → List ℕ → List ℕ → Type 0
Tells p rs list₀ list =
    5 * length (run_stints p rs) ≤ length list₀
    → list ≡ stints_numbers (run_stints p rs) ++ drop (length (stints_numbers (run_stints p rs))) list₀
