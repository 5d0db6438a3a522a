-- The larger of the largest so far and of the largest that is left is the largest of all.
use Rattle.base.proofs.Prelude.{max, ◌≡◌, drop}
use Rattle.base.specs.Count.{largest}
use Rattle.rules.specs.Plan.{strings_of, d_max}
use Rattle.verdict.proofs.limits.largest_d.Given as goal

abbrev pub invariant-loop-s : goal.invariant-loop-s
invariant-loop-s l = record {
  all : l.s-items ≡ strings_of l.fn.p;
  rest : max l.most (largest (λ s. s.d.0) (drop l.s-index l.s-items)) ≡ d_max l.fn.p;
}
