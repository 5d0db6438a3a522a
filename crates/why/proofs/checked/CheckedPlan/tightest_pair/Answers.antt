-- each pair takes the place of the one in hand where it leaves less
use Rattle.base.proofs.Prelude.{arith}
use Rattle.verdict.proofs.Blocking.{block_limit-short}
use Rattle.why.proofs.{Stretching.last-small, Tightest.{best-start, best-row, best-row-end, best-end, best-taken, best-kept}, Walking.ready}
use Rattle.why.proofs.checked.CheckedPlan.tightest_pair.Goals as goal
use Rattle.why.proofs.checked.CheckedPlan.tightest_pair.Goals.{then-next-best, else-next-best}

pub overflow_add-l-end : goal.overflow_add-l-end
overflow_add-l-end c =
    let p = c.args.self.now in
    omega (arith, last-small p.plan (ready p).lawful)

pub loop-l-init : goal.loop-l-init
loop-l-init c = record {
  until = omega (arith, c.last_interval-l-end.ensures.exact);
  best = best-start c.args.self.now.plan c.spot-best.result c.spot-best.ensures.exact;
}

pub overflow_add-b-end : goal.overflow_add-b-end
overflow_add-b-end c =
    let p = c.args.self.now in
    omega (arith, block_limit-short p.plan c.loop-l.l (ready p).lawful)

pub loop-b-init : goal.loop-b-init
loop-b-init c = record {
  until = omega (arith, c.limit_at-b-end.ensures.exact);
  best = best-row c.args.self.now.plan c.loop-l.l c.loop-l.invariant.best (omega arith);
}

pub loop-b-preserved : goal.loop-b-preserved
loop-b-preserved c =
    let p = c.args.self.now.plan in
    let l = c.loop-l.l in
    let b = c.loop-b.b in
    let is = c.spot-next.ensures.exact in
    record {
      until = c.loop-b.invariant.until;
      best = elim c.if-next-best.branch [
        | then-next-best w ↦ rw w.best-is (best-taken p l b c.loop-b.invariant.best is (omega arith) w.if-next-best.true)
        | else-next-best w ↦ rw w.best-is (best-kept p l b c.loop-b.invariant.best is (omega arith) w.if-next-best.false)
      ];
    }

pub loop-l-preserved : goal.loop-l-preserved
loop-l-preserved c = record {
  until = c.loop-l.invariant.until;
  best = best-row-end c.args.self.now.plan c.loop-l.l c.loop-b.b c.loop-b.invariant.best (omega arith);
}

pub returns : goal.returns
returns c = record { exact = best-end c.args.self.now.plan c.loop-l.l c.loop-l.invariant.best (omega arith) }
