-- The next string is lawful, and passed.
use Rattle.base.proofs.Prelude.{ap, arith}
use Rattle.base.specs.Count.{smallest_with}
use Rattle.base.proofs.Lists.{smallest_with-le}
use Rattle.rules.specs.Plan.{strings_of}
use Rattle.verdict.specs.inner.Steps.{step_after}
use Rattle.verdict.proofs.StringSums.{walk-string, smallest-here, smallest-done}
use Rattle.verdict.proofs.ready.ReadyPlan.first_step.Goals as goal

pub loop-s-init : goal.loop-s-init
loop-s-init c =
    let same = ap (smallest_with (step_after c.args.l) c.args.end) c.strings-s-items.ensures in
    let bound = smallest_with-le (step_after c.args.l) c.args.end (strings_of c.args.self.plan) in
    record { all = c.strings-s-items.ensures; within = omega arith; rest = omega (arith, same, bound) }

pub step_of-requires-clause-lawful_string : goal.step_of-requires-clause-lawful_string
step_of-requires-clause-lawful_string c =
    (walk-string c.args.self.plan c.args.self.ready _ c.loop-s.invariant.all _ c.loop-s-test.true).lawful

pub loop-s-preserved : goal.loop-s-preserved
loop-s-preserved c =
    let next = smallest-here _ _ (step_after c.args.l) c.args.end c.loop-s-test.true in
    record { all = c.loop-s.invariant.all; within = omega arith; rest = omega (arith, c.step_of.ensures, next) }

pub returns : goal.returns
returns c = omega (arith, smallest-done _ _ (step_after c.args.l) c.args.end c.loop-s-test.false)
