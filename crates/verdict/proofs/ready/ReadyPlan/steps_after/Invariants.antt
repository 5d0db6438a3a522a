-- Each string's step is put in its place.
use Rattle.base.proofs.Prelude.{ℕ, ◌<◌, ◌≡◌, length, get_or}
use Rattle.rules.specs.Plan.{strings_of, no_string}
use Rattle.verdict.specs.inner.Steps.{step_after}
use Rattle.verdict.proofs.ready.ReadyPlan.steps_after.Given as goal

abbrev pub invariant-loop-i : goal.invariant-loop-i
invariant-loop-i l = record {
  all : l.s-items ≡ strings_of l.fn.self.plan;
  size : length l.next ≡ 10;
  done : (j : ℕ) → j < l.i → get_or l.next j 0 ≡ step_after l.fn.l (get_or l.fn.self.plan.strings j no_string);
}
