-- What is asked within the interval before is known, and the pairs before it are passed.
use Rattle.base.proofs.Prelude.{◌+◌, ◌-◌, ◌*◌, ◌≤◌, ◌≡◌, length}
use Rattle.base.specs.Count.{keep}
use Rattle.rules.specs.Plan.{multiple_of, d_max}
use Rattle.demand.proofs.Pairs.{rows, scan_from}
use Rattle.demand.specs.Quick.{grows, quick_pairs}
use Rattle.verdict.specs.{inner.Asked.asked_by, inner.Steps.{Due, Mark, Looked}}
use Rattle.verdict.proofs.steps.Parts.early.Given as goal

abbrev pub invariant-loop-l : goal.invariant-loop-l
invariant-loop-l l = record {
  pos : 1 ≤ l.l;
  upto : l.l ≤ l.fn.self.ready.last;
  few : l.pairs ≤ 1001 * l.l;
  due : Due l.fn.self.ready.plan (l.l - 1) l.next;
  kept : l.keepers ≡ asked_by l.fn.self.ready.plan 0 (l.l - 1);
  took : l.asked ≡ asked_by l.fn.self.ready.plan 1 (l.l - 1);
  mark : Mark l.fn.self.ready.plan l.l l.mark;
  takers_size : length l.takers ≡ 1024;
  marks_size : length l.marks ≡ 1024;
  looked : Looked l.fn.self.ready.plan l.l l.takers l.marks;
  rest : scan_from l.fn.self.ready.plan l.pairs
      (keep (grows l.fn.self.ready.plan)
      (rows l.fn.self.ready.plan l.l (d_max l.fn.self.ready.plan + multiple_of l.fn.self.ready.plan - l.l)))
      ≡ scan_from l.fn.self.ready.plan 0 (quick_pairs l.fn.self.ready.plan);
}
