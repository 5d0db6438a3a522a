-- What it adds up is the step as it is defined, and a step is at most T days on.
use Rattle.base.proofs.Prelude.{ℕ, ◌+◌, ◌*◌, ◌≡◌, ap, arith}
use Rattle.rules.specs.{declared.BatteryString.BatteryString, Plan.leeway, Demand.jobs}
use Rattle.verdict.specs.inner.Steps.{step_after}
use Rattle.verdict.proofs.Stepping.{step-soon}
use Rattle.verdict.proofs.steps.step_of.Goals as goal

-- the days of the jobs before the step, and D − J days
sum : (s : BatteryString) (l k : ℕ) → k ≡ jobs s l → k * s.t.0 + leeway s ≡ step_after l s
unfolding step_after
sum s l k e = ap (λ n. n * s.t.0 + leeway s) e

pub overflow_mul-result : goal.overflow_mul-result
overflow_mul-result c =
    omega (arith, sum c.args.s c.args.l _ c.jobs_in.ensures, step-soon c.args.s c.requires.lawful_string c.args.l)

pub overflow_add-result : goal.overflow_add-result
overflow_add-result c =
    omega (
      arith,
      sum c.args.s c.args.l _ c.jobs_in.ensures,
      c.leeway_of.ensures,
      step-soon c.args.s c.requires.lawful_string c.args.l,
    )

pub returns : goal.returns
returns c = omega (arith, sum c.args.s c.args.l _ c.jobs_in.ensures, c.leeway_of.ensures)
