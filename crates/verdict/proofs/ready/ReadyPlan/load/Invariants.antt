-- What is added up so far, with the shares of the strings that are left, is the load.
use Rattle.base.proofs.Prelude.{◌+◌, ◌*◌, ◌/◌, ◌≤◌, ◌≡◌, drop}
use Rattle.base.specs.Count.{sum_of}
use Rattle.rules.specs.{Plan.{strings_of, multiple_of}, Demand.{hold_of, load}}
use Rattle.verdict.proofs.ready.ReadyPlan.load.Given as goal

abbrev pub invariant-loop-s : goal.invariant-loop-s
invariant-loop-s l = record {
  all : l.s-items ≡ strings_of l.fn.self.plan;
  few : l.load ≤ 200000000 * l.s-index;
  rest : l.load + sum_of (λ s. hold_of l.fn.self.plan s * (multiple_of l.fn.self.plan / s.t.0)) (drop l.s-index l.s-items)
      ≡ load l.fn.self.plan;
}
