-- the pairs that are left lead from the one in hand to where all lead
use Rattle.base.proofs.Prelude.{◌+◌, ◌≡◌}
use Rattle.rules.specs.Demand.{block_limit}
use Rattle.why.specs.Stairs.{last_interval}
use Rattle.why.proofs.Tightest.{WhyBest, rows_left, pairs_left}
use Rattle.why.proofs.checked.CheckedPlan.tightest_pair.Given as goal

abbrev pub invariant-loop-l : goal.invariant-loop-l
invariant-loop-l l = record {
  until : l.l-end ≡ last_interval l.self.plan + 1;
  best : WhyBest l.self.plan l.best (rows_left l.self.plan l.l);
}

abbrev pub invariant-loop-b : goal.invariant-loop-b
invariant-loop-b l = record {
  until : l.b-end ≡ block_limit l.self.plan l.l + 1;
  best : WhyBest l.self.plan l.best (pairs_left l.self.plan l.l l.b);
}
