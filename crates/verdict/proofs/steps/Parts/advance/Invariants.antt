-- The strings before the turn's are gone on to interval l, and those from it on are not.
use Rattle.base.proofs.Prelude.{ℕ, ◌+◌, ◌-◌, ◌*◌, ◌≤◌, ◌<◌, min, ◌≡◌, length, drop, get_or}
use Rattle.base.specs.Count.{sum_of, smallest_with}
use Rattle.rules.specs.Plan.{strings_of, no_string}
use Rattle.verdict.specs.{inner.Asked.{asked_of, asked_by}, inner.Steps.step_after}
use Rattle.verdict.proofs.steps.Parts.advance.Given as goal

abbrev pub invariant-loop-i : goal.invariant-loop-i
invariant-loop-i l = record {
  upto : l.i ≤ l.fn.self.ready.plan.n;
  size : length l.next ≡ 10;
  passed : (j : ℕ) → j < l.i → get_or l.next j 0 ≡ step_after l.fn.l (get_or l.fn.self.ready.plan.strings j no_string);
  left : (j : ℕ) → l.i ≤ j → j < l.fn.self.ready.plan.n
      → get_or l.next j 0 ≡ step_after (l.fn.l - 1) (get_or l.fn.self.ready.plan.strings j no_string);
  within : l.soonest ≤ l.fn.end;
  few_keepers : l.keepers ≤ 202000000 * l.i;
  few_takers : l.takers ≤ 202000000 * l.i;
  keepers : l.keepers + asked_by l.fn.self.ready.plan 0 (l.fn.l - 1)
      + sum_of (asked_of l.fn.self.ready.plan 0 l.fn.l) (drop l.i (strings_of l.fn.self.ready.plan))
      ≡ asked_by l.fn.self.ready.plan 0 l.fn.l
      + sum_of (asked_of l.fn.self.ready.plan 0 (l.fn.l - 1)) (drop l.i (strings_of l.fn.self.ready.plan));
  takers : l.takers + asked_by l.fn.self.ready.plan 1 (l.fn.l - 1)
      + sum_of (asked_of l.fn.self.ready.plan 1 l.fn.l) (drop l.i (strings_of l.fn.self.ready.plan))
      ≡ asked_by l.fn.self.ready.plan 1 l.fn.l
      + sum_of (asked_of l.fn.self.ready.plan 1 (l.fn.l - 1)) (drop l.i (strings_of l.fn.self.ready.plan));
  soonest : min l.soonest (smallest_with (step_after l.fn.l) l.fn.end (drop l.i (strings_of l.fn.self.ready.plan)))
      ≡ smallest_with (step_after l.fn.l) l.fn.end (strings_of l.fn.self.ready.plan);
}
