-- The smaller of the soonest so far and of the soonest that is left is the soonest of all.
use Rattle.base.proofs.Prelude.{◌≤◌, min, ◌≡◌, drop}
use Rattle.base.specs.Count.{smallest_with}
use Rattle.rules.specs.Plan.{strings_of}
use Rattle.verdict.specs.inner.Steps.{step_after}
use Rattle.verdict.proofs.ready.ReadyPlan.first_step.Given as goal

abbrev pub invariant-loop-s : goal.invariant-loop-s
invariant-loop-s l = record {
  all : l.s-items ≡ strings_of l.fn.self.plan;
  within : l.soonest ≤ l.fn.end;
  rest : min l.soonest (smallest_with (step_after l.fn.l) l.fn.end (drop l.s-index l.s-items))
      ≡ smallest_with (step_after l.fn.l) l.fn.end (strings_of l.fn.self.plan);
}
