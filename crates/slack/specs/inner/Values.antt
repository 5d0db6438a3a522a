-- The values that are tried, as the code keeps them.
--     HasPlace p i            the plan p, of at most ten strings, has one at place i
--     leaves_multiple x      whether H does not depend on x
--     lawful_with p i x v    whether the plan with v is lawful
--     lawful_values p i x    the lawful ones, the hardest first
--     HoldsValues p i x count list     the first `count` places of `list` hold them
use Rattle.std.specs.Prelude.{ℕ, ◌≤◌, ◌≡◌, Bool, true, false, List, length, take}
use Rattle.faults.specs.Checks.{Checked}
use Rattle.std.specs.Prelude.{Ok, Err}
use Rattle.base.specs.Count.{keep}
use Rattle.rules.specs.declared.Plan.{Plan}
use Rattle.rules.specs.Refusal.{plan_check}
use Rattle.slack.specs.declared.Letter.{Letter}
use Rattle.slack.specs.declared.Letter.TheVariants as letter
use Rattle.slack.specs.Slack.{plan_with, hardest_first}

pub record HasPlace (p : Plan) (i : ℕ) : Type 0 where
  pub low : 1 ≤ i
  pub high : i ≤ p.n
  pub few : p.n ≤ 10
  pub ten : length p.strings ≡ 10

abbrev pub leaves_multiple : Letter → Bool
leaves_multiple letter.C = true
leaves_multiple letter.D = true
leaves_multiple letter.T = false
leaves_multiple letter.A = true
leaves_multiple letter.J = true

abbrev pub finds_nothing : Checked → Bool
finds_nothing (Ok _) = true
finds_nothing (Err e) = false

unfoldable pub lawful_with : Plan → ℕ → Letter → ℕ → Bool
lawful_with p i x v = finds_nothing (plan_check (plan_with p i x v))

unfoldable pub lawful_values : Plan → ℕ → Letter → List ℕ
lawful_values p i x = keep (lawful_with p i x) (hardest_first x)

pub record HoldsValues (p : Plan) (i : ℕ) (x : Letter) (count : ℕ) (list : List ℕ) : Type 0 where
  pub few : count ≤ 1001
  pub room : count ≤ length list
  pub held : take count list ≡ lawful_values p i x
