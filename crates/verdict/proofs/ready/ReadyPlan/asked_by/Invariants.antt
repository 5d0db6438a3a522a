-- What is added up so far, with what the strings ask that are left, is the whole.
use Rattle.base.proofs.Prelude.{◌+◌, ◌*◌, ◌≤◌, ◌≡◌, drop}
use Rattle.base.specs.Count.{sum_of}
use Rattle.rules.specs.Plan.{strings_of}
use Rattle.verdict.specs.inner.Asked.{asked_of, asked_by}
use Rattle.verdict.proofs.ready.ReadyPlan.asked_by.Given as goal

abbrev pub invariant-loop-s : goal.invariant-loop-s
invariant-loop-s l = record {
  all : l.s-items ≡ strings_of l.fn.self.plan;
  few : l.asked ≤ 202000000 * l.s-index;
  rest : l.asked + sum_of (asked_of l.fn.self.plan l.fn.x l.fn.w) (drop l.s-index l.s-items) ≡ asked_by l.fn.self.plan l.fn.x l.fn.w;
}
