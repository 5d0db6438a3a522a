-- What a limit says to a planner.
--     Harder x v w          of the number x the value v is harder than w: a larger C, moving cost and J, a smaller D and T
--     gapless x s           whether easing never hurts x of the string s (document 02, W-212 and W-213): of D only where J is 0
--     LawfulWith p i x v    the plan with v for the number x of its string at place i is lawful
--     RuleWith p i x v      and with v it passes: the demand rule holds at every interval
--     IsLimit p i x v       v is the limit: with it the plan is lawful and passes; with no lawful value beyond it does the plan pass; with
--                           every lawful value between it and the easy end the plan passes, of D where J is 0
--     NoLimit p i x         there is none: with no lawful value does the plan pass
use Rattle.std.specs.Prelude.{ℕ, ◌-◌, ◌<◌, ◌≡◌, Bool, true, eqb, get_or}
use Rattle.faults.specs.Checks.{Lawful}
use Rattle.rules.specs.declared.BatteryString.{BatteryString}
use Rattle.rules.specs.declared.Plan.{Plan}
use Rattle.rules.specs.Plan.{no_string}
use Rattle.rules.specs.Demand.{Passes}
use Rattle.rules.specs.Refusal.{plan_check}
use Rattle.slack.specs.declared.Letter.{Letter}
use Rattle.slack.specs.declared.Letter.TheVariants as letter
use Rattle.slack.specs.Slack.{plan_with}

abbrev pub Harder : Letter → ℕ → ℕ → Type 0
Harder letter.C v w = w < v
Harder letter.D v w = v < w
Harder letter.T v w = v < w
Harder letter.A v w = w < v
Harder letter.J v w = w < v

abbrev pub gapless : Letter → BatteryString → Bool
gapless letter.C s = true
gapless letter.D s = eqb s.j.0 0
gapless letter.T s = true
gapless letter.A s = true
gapless letter.J s = true

abbrev pub LawfulWith : Plan → ℕ → Letter → ℕ → Type 0
LawfulWith p i x v = plan_check (plan_with p i x v) ≡ Lawful

abbrev pub RuleWith : Plan → ℕ → Letter → ℕ → Type 0
RuleWith p i x v = Passes (plan_with p i x v)

pub record IsLimit (p : Plan) (i : ℕ) (x : Letter) (v : ℕ) : Type 0 where
  pub lawful : LawfulWith p i x v
  pub passes : RuleWith p i x v
  pub beyond : (w : ℕ) → Harder x w v → LawfulWith p i x w → RuleWith p i x w → ⊥
  pub between : gapless x (get_or p.strings (i - 1) no_string) ≡ true → (w : ℕ) → Harder x v w → LawfulWith p i x w → RuleWith p i x w

abbrev pub NoLimit : Plan → ℕ → Letter → Type 0
NoLimit p i x = (w : ℕ) → LawfulWith p i x w → RuleWith p i x w → ⊥
