-- Each string's part is put in its place.
use Rattle.base.proofs.Prelude.{ℕ, ◌<◌, ◌≡◌, length, get_or}
use Rattle.rules.specs.Plan.{strings_of, no_string}
use Rattle.verdict.specs.inner.Steps.{job_of}
use Rattle.verdict.proofs.ready.ReadyPlan.parts.Given as goal

abbrev pub invariant-loop-i : goal.invariant-loop-i
invariant-loop-i l = record {
  all : l.s-items ≡ strings_of l.fn.self.plan;
  every_size : length l.every ≡ 10;
  keeps_size : length l.keeps ≡ 10;
  takes_size : length l.takes ≡ 10;
  times : (j : ℕ) → j < l.i → get_or l.every j 0 ≡ (get_or l.fn.self.plan.strings j no_string).t.0;
  kept : (j : ℕ) → j < l.i → get_or l.keeps j 0 ≡ job_of l.fn.self.plan 0 (get_or l.fn.self.plan.strings j no_string);
  took : (j : ℕ) → j < l.i → get_or l.takes j 0 ≡ job_of l.fn.self.plan 1 (get_or l.fn.self.plan.strings j no_string);
}
