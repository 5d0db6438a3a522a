-- The smaller of the smallest so far and of the smallest that is left is the smallest of all.
use Rattle.base.proofs.Prelude.{◌≤◌, min, ◌≡◌, drop}
use Rattle.base.specs.Count.{smallest_with}
use Rattle.rules.specs.Plan.{strings_of, leeway, leeway_min}
use Rattle.verdict.proofs.limits.smallest_leeway.Given as goal

abbrev pub invariant-loop-s : goal.invariant-loop-s
invariant-loop-s l = record {
  all : l.s-items ≡ strings_of l.fn.p;
  within : l.least ≤ l.initial.least;
  rest : min l.least (smallest_with leeway l.initial.least (drop l.s-index l.s-items)) ≡ leeway_min l.fn.p;
}
