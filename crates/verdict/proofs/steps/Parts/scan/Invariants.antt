-- What is asked within the interval before is known, and the pairs before this one are passed.
use Rattle.base.proofs.Prelude.{◌+◌, ◌-◌, ◌*◌, ◌≤◌, ◌≡◌, ◌++◌, length}
use Rattle.rules.specs.Verdict.{all_pairs}
use Rattle.demand.proofs.Pairs.{row_from, rows, scan_from}
use Rattle.verdict.specs.{inner.Asked.asked_by, inner.Steps.Due}
use Rattle.verdict.proofs.Rows.{Latest, Row}
use Rattle.verdict.proofs.steps.Parts.scan.Given as goal

abbrev pub invariant-loop-l : goal.invariant-loop-l
invariant-loop-l l = record {
  pos : 1 ≤ l.l;
  upto : l.l ≤ l.end;
  short : l.end ≤ 101000;
  few : l.pairs ≤ 1001 * l.l;
  due : Due l.fn.self.ready.plan (l.l - 1) l.next;
  kept : l.keepers ≡ asked_by l.fn.self.ready.plan 0 (l.l - 1);
  took : l.asked ≡ asked_by l.fn.self.ready.plan 1 (l.l - 1);
  size : length l.takers ≡ 1024;
  latest : Latest l.fn.self.ready.plan l.l l.takers;
  rest : scan_from l.fn.self.ready.plan l.pairs (rows l.fn.self.ready.plan l.l (l.end - l.l))
      ≡ scan_from l.fn.self.ready.plan 0 (all_pairs l.fn.self.ready.plan);
}

abbrev pub invariant-loop-b : goal.invariant-loop-b
invariant-loop-b l = record {
  row : Row l.fn.self.ready.plan l.l l.top l.keepers l.takers;
  upto : l.b ≤ l.top + 1;
  few : l.pairs ≤ 1001 * l.l + l.b;
  rest : scan_from l.fn.self.ready.plan l.pairs
      (row_from l.fn.self.ready.plan l.l l.b ++ rows l.fn.self.ready.plan (l.l + 1) (l.end - (l.l + 1)))
      ≡ scan_from l.fn.self.ready.plan 0 (all_pairs l.fn.self.ready.plan);
}
