-- What was tried before finds nothing: the first passing set of those that are left is the first of all.
use Rattle.base.proofs.Prelude.{◌+◌, ◌≡◌, ◌++◌}
use Rattle.rules.specs.Search.{first_passing, search_of}
use Rattle.demand.proofs.SetWalk.{sets_from, set_rows}
use Rattle.verdict.proofs.ready.ReadyPlan.first_of_all.Given as goal

abbrev pub invariant-loop-ones : goal.invariant-loop-ones
invariant-loop-ones l = record {
  rest : first_passing l.fn.self.plan (set_rows l.fn.self.plan.n l.ones) ≡ search_of l.fn.self.plan;
}

abbrev pub invariant-loop-set : goal.invariant-loop-set
invariant-loop-set l = record {
  rest : first_passing l.fn.self.plan (sets_from l.fn.self.plan.n l.ones l.set ++ set_rows l.fn.self.plan.n (l.ones + 1))
      ≡ search_of l.fn.self.plan;
}
