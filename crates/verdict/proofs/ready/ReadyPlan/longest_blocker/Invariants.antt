-- The larger of the longest so far and of the longest that is left is the longest of all.
use Rattle.base.proofs.Prelude.{max, ◌≡◌, drop}
use Rattle.base.specs.Count.{largest}
use Rattle.rules.specs.{Plan.strings_of, Demand.blocker_hold}
use Rattle.verdict.proofs.ready.ReadyPlan.longest_blocker.Given as goal

abbrev pub invariant-loop-s : goal.invariant-loop-s
invariant-loop-s l = record {
  all : l.s-items ≡ strings_of l.fn.self.plan;
  rest : max l.most (largest (blocker_hold l.fn.self.plan l.fn.l) (drop l.s-index l.s-items))
      ≡ largest (blocker_hold l.fn.self.plan l.fn.l) (strings_of l.fn.self.plan);
}
