-- What it is for a string, a plan and a release list to be lawful, as facts about their numbers (document 01, "Bounds on a plan"; document
-- 02, W-207 and W-213). The checks find nothing exactly there.
--     LawfulString s        T 1 to 1,000; D 1 to T; J below D; C 1 to D − J; X 0 or 1; a moving cost up to 1,000
--     LawfulPlan p          the bounds on a plan; H is a common multiple of all T, the least, and at most 100,000
--     OnTime p              no string of p has late days (document 02, W-213)
--     PlanString p s        s is lawful, and its moving cost in the plan p is at most 1,000
--     LawfulRun p rs        the plan is lawful, and so is each of at most 1,000 releases
use Rattle.std.specs.Prelude.{ℕ, ◌%◌, ◌≤◌, ◌<◌, ◌≡◌, false}
use Rattle.rules.specs.declared.BatteryString.{BatteryString}
use Rattle.rules.specs.declared.Plan.{Plan}
use Rattle.rules.specs.declared.Releases.{Releases}
use Rattle.rules.specs.Plan.{strings_of, leeway, common_multiple, multiple_of}
use Rattle.rules.specs.Demand.{moving_cost}
use Rattle.rules.specs.Release.{releases_of, first_unlawful}
use Rattle.base.specs.Count.{All}

pub record LawfulString (s : BatteryString) : Type 0 where
  pub t_pos : 1 ≤ s.t.0
  pub t_max : s.t.0 ≤ 1000
  pub d_pos : 1 ≤ s.d.0
  pub d_max : s.d.0 ≤ s.t.0
  pub j_max : s.j.0 < s.d.0
  pub c_pos : 1 ≤ s.c.0
  pub c_max : s.c.0 ≤ leeway s
  pub x_max : s.x ≤ 1
  pub a_max : s.a.0 ≤ 1000

pub record LawfulPlan (p : Plan) : Type 0 where
  pub n_pos : 1 ≤ p.n
  pub n_max : p.n ≤ 10
  pub run_pos : 1 ≤ p.run.0
  pub run_max : p.run.0 ≤ 1000000
  pub each : All LawfulString (strings_of p)
  pub h_pos : 1 ≤ multiple_of p
  pub h_max : multiple_of p ≤ 100000
  pub h_whole : All (λ s. multiple_of p % s.t.0 ≡ 0) (strings_of p)
  pub h_least : (k : ℕ) → 1 ≤ k → k < multiple_of p → common_multiple (strings_of p) k ≡ false

abbrev pub OnTime : Plan → Type 0
OnTime p = All (λ s. s.j.0 ≡ 0) (strings_of p)

pub record PlanString (p : Plan) (s : BatteryString) : Type 0 where
  pub lawful : LawfulString s
  pub cost_max : moving_cost p s ≤ 1000

pub record LawfulRun (p : Plan) (rs : Releases) : Type 0 where
  pub plan : LawfulPlan p
  pub few : rs.count ≤ 1000
  pub none_bad : first_unlawful p (releases_of rs) ≡ 0
