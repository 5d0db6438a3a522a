-- A walk from one blocking to look at to the next finds what a walk over all of them finds.
use Rattle.base.proofs.Prelude.{◌+◌, ◌-◌, ◌≤◌, ◌<◌, ◌≡◌, sym, ap, ◌∙◌, true, ◌++◌, arith}
use Rattle.days.specs.Days.{days}
use Rattle.rules.specs.{declared.Verdict.TheVariants.Fail, Demand.{block_limit, demand}}
use Rattle.laws.proofs.Demand.{block_limit-interval}
use Rattle.demand.proofs.Pairs.{pair, scan_from}
use Rattle.demand.specs.Quick.{grows}
use Rattle.verdict.specs.inner.Steps.{onward, pairs_of}
use Rattle.verdict.proofs.{KeptRows.kept-skip, Looking.{Next, next-looked, look-good, look-bad, look-end}}
use Rattle.verdict.proofs.ready.ReadyPlan.row.Goals as goal

pub loop-b-init : goal.loop-b-init
loop-b-init c =
    let p = c.args.self.plan in
    let l = c.args.l in
    let known = c.requires.row_known in
    let b = c.next_blocking-b.result in
    let next : Next p l (l + 1) b =
    next-looked p c.args.self.ready.lawful l c.args.more (l + 1) _ b known.pos known.grown (omega arith)
    (known.looked.marked (l + 1) (omega arith)) c.next_blocking-b.ensures in
    let skipped = kept-skip p (grows p) l 0 b (omega arith) (λ e low high. next.passed e (omega arith) high) in
    record {
      upto = next.high;
      few = omega arith;
      looked = next.looked;
      rest = λ qs. ap (λ row. scan_from p c.args.before (row ++ qs)) (sym skipped);
    }

pub demand_at-demand-requires-clause-b_le_l : goal.demand_at-demand-requires-clause-b_le_l
demand_at-demand-requires-clause-b_le_l c = omega (arith, block_limit-interval c.args.self.plan c.args.l)

pub returns-then-l-demand-clause-onward : goal.returns-then-l-demand-clause-onward
unfolding onward
returns-then-l-demand-clause-onward c qs =
    let p = c.args.self.plan in
    let l = c.args.l in
    let loop = c.loop-b in
    let sum = c.demand_at-demand.ensures in
    let allowed : loop.b ≤ block_limit p l = omega arith in
    let bad : l < demand p l loop.b = omega (arith, sum, c.if-l-demand.true) in
    let looked : grows p (pair l loop.b) ≡ true = loop.invariant.looked (omega (arith, block_limit-interval p l)) in
    ap (λ d. Fail (days l) (days loop.b) (days d) (loop.pairs + 1)) sum
    ∙ sym (look-bad p loop.pairs l loop.b qs allowed looked bad)
    ∙ loop.invariant.rest qs

pub returns-then-l-demand-clause-few : goal.returns-then-l-demand-clause-few
unfolding pairs_of
returns-then-l-demand-clause-few c = omega arith

pub overflow_sub-l : goal.overflow_sub-l
overflow_sub-l c = omega (arith, block_limit-interval c.args.self.plan c.args.l)

pub loop-b-smaller : goal.loop-b-smaller
loop-b-smaller c =
    let p = c.args.self.plan in
    let l = c.args.l in
    let known = c.requires.row_known in
    let left = l - c.loop-b.b in
    let inside : c.loop-b.b ≤ l = omega (arith, block_limit-interval p l) in
    let next : Next p l left c.next_blocking-b-in-loop-b.result =
    next-looked p c.args.self.ready.lawful l c.args.more left _ _ known.pos known.grown (omega arith)
    (known.looked.marked left (omega arith)) c.next_blocking-b-in-loop-b.ensures in
    omega (arith, next.low)

pub loop-b-preserved : goal.loop-b-preserved
loop-b-preserved c =
    let p = c.args.self.plan in
    let l = c.args.l in
    let loop = c.loop-b in
    let known = c.requires.row_known in
    let left = l - loop.b in
    let b = c.next_blocking-b-in-loop-b.result in
    let allowed : loop.b ≤ block_limit p l = omega arith in
    let inside : loop.b ≤ l = omega (arith, block_limit-interval p l) in
    let next : Next p l left b =
    next-looked p c.args.self.ready.lawful l c.args.more left _ _ known.pos known.grown (omega arith)
    (known.looked.marked left (omega arith)) c.next_blocking-b-in-loop-b.ensures in
    let low = next.low in
    let good : demand p l loop.b ≤ l = omega (arith, c.demand_at-demand.ensures, c.if-l-demand.false) in
    let skipped = kept-skip p (grows p) l (loop.b + 1) b (omega arith) (λ e under over. next.passed e (omega arith) over) in
    record {
      upto = next.high;
      few = omega arith;
      looked = next.looked;
      rest = λ qs. ap (λ row. scan_from p (loop.pairs + 1) (row ++ qs)) (sym skipped)
          ∙ sym (look-good p loop.pairs l loop.b qs allowed (loop.invariant.looked inside) good)
          ∙ loop.invariant.rest qs;
    }

pub returns-clause-onward : goal.returns-clause-onward
unfolding onward
returns-clause-onward c qs =
    let p = c.args.self.plan in
    let past : block_limit p c.args.l < c.loop-b.b = omega (arith, c.limit-top.ensures, c.loop-b-test.false) in
    sym (look-end p c.loop-b.pairs c.args.l c.loop-b.b qs past) ∙ c.loop-b.invariant.rest qs

pub returns-clause-few : goal.returns-clause-few
unfolding pairs_of
returns-clause-few c = omega arith
