-- What it means that a list is shown for a plan.
--     Shows p n rs          rs is the code's list of at most 1,000 releases; N is raised to n at most, within the bounds; and with a run of
--                           n days the list is lawful for the plan p and its run misses
--     MissesOverMany p      a list that is lawful for the plan p with a long enough run misses, and it has more than 1,000 releases
use Rattle.std.specs.Prelude.{ℕ, ◌≤◌, ◌<◌, ◌≡◌, List, length}
use Rattle.rules.specs.declared.Plan.{Plan}
use Rattle.rules.specs.declared.Release.{Release}
use Rattle.rules.specs.declared.Releases.{Releases}
use Rattle.rules.specs.Plan.{with_run}
use Rattle.exact.specs.Missing.{interval_end, missing, MissesBy}
use Rattle.tries.specs.Tries.{packed}

pub record Shows (p : Plan) (n : ℕ) (rs : Releases) : Type 0 where
  pub list : List Release
  pub packed_as : rs ≡ packed list
  pub few : length list ≤ 1000
  pub longer : p.run.0 ≤ n
  pub bounded : n ≤ 1000000
  pub misses : MissesBy (with_run p n) list n

pub record MissesOverMany (p : Plan) : Type 0 where
  pub l : ℕ
  pub b : ℕ
  pub q : ℕ
  pub many : 1000 < length (missing p l b q)
  pub misses : MissesBy (with_run p 1000000) (missing p l b q) (interval_end p l b)
