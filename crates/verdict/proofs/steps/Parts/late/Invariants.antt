-- What is asked within the interval before is known, at this one a count grows, and the pairs before it are passed.
use Rattle.base.proofs.Prelude.{◌+◌, ◌-◌, ◌*◌, ◌≤◌, ◌<◌, ◌≡◌, true}
use Rattle.base.specs.Count.{keep}
use Rattle.rules.specs.Plan.{multiple_of, d_max}
use Rattle.demand.proofs.Pairs.{pair, rows, scan_from}
use Rattle.demand.specs.Quick.{grows}
use Rattle.verdict.specs.{inner.Asked.asked_by, inner.Steps.Due}
use Rattle.verdict.proofs.steps.Parts.late.Given as goal

abbrev pub invariant-loop-l : goal.invariant-loop-l
invariant-loop-l l = record {
  low : d_max l.fn.self.ready.plan ≤ l.l;
  upto : l.l ≤ l.end;
  short : l.end ≤ 101000;
  few : l.pairs ≤ 1001 * l.l;
  due : Due l.fn.self.ready.plan (l.l - 1) l.next;
  asked : l.demand ≡ asked_by l.fn.self.ready.plan 0 (l.l - 1) + asked_by l.fn.self.ready.plan 1 (l.l - 1);
  looked : l.l < l.end → grows l.fn.self.ready.plan (pair l.l 0) ≡ true;
  rest : scan_from l.fn.self.ready.plan l.pairs (keep (grows l.fn.self.ready.plan) (rows l.fn.self.ready.plan l.l (l.end - l.l)))
      ≡ scan_from l.fn.self.ready.plan l.fn.before
      (keep (grows l.fn.self.ready.plan) (rows l.fn.self.ready.plan (d_max l.fn.self.ready.plan) (multiple_of l.fn.self.ready.plan)));
}

abbrev pub decreases-loop-l : goal.decreases-loop-l
decreases-loop-l l = l.end - l.l
