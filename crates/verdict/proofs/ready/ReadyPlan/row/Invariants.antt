-- The blocking is one to look at, and what was compared before it finds nothing.
use Rattle.base.proofs.Prelude.{◌+◌, ◌-◌, ◌≤◌, ◌≡◌, true, List, ◌++◌}
use Rattle.rules.specs.Verdict.{Pair}
use Rattle.base.specs.Count.{keep}
use Rattle.demand.proofs.Pairs.{pair, row_from, scan_from}
use Rattle.demand.specs.Quick.{grows}
use Rattle.verdict.proofs.ready.ReadyPlan.row.Given as goal

abbrev pub invariant-loop-b : goal.invariant-loop-b
invariant-loop-b l = record {
  upto : l.b ≤ l.fn.l + 1;
  few : l.pairs ≤ l.fn.before + l.b;
  looked : l.b ≤ l.fn.l → grows l.fn.self.plan (pair l.fn.l l.b) ≡ true;
  rest : (qs : List Pair)
      → scan_from l.fn.self.plan l.pairs (keep (grows l.fn.self.plan) (row_from l.fn.self.plan l.fn.l l.b) ++ qs)
      ≡ scan_from l.fn.self.plan l.fn.before (keep (grows l.fn.self.plan) (row_from l.fn.self.plan l.fn.l 0) ++ qs);
}

abbrev pub decreases-loop-b : goal.decreases-loop-b
decreases-loop-b l = l.fn.l + 1 - l.b
