-- What each string asks is small.
use Rattle.base.proofs.Prelude.{ap, arith}
use Rattle.base.specs.Count.{sum_of}
use Rattle.verdict.specs.inner.Asked.{asked_of, asked_by}
use Rattle.verdict.proofs.{Asked.asked_of-le, StringSums.{walk-few, walk-string, sum-here, sum-done}}
use Rattle.verdict.proofs.ready.ReadyPlan.asked_by.Goals as goal

pub loop-s-init : goal.loop-s-init
unfolding asked_by
loop-s-init c = record {
  all = c.strings-s-items.ensures;
  few = omega arith;
  rest = omega (arith, ap (sum_of (asked_of c.args.self.plan c.args.x c.args.w)) c.strings-s-items.ensures);
}

pub share-asked-requires-clause-plan_string : goal.share-asked-requires-clause-plan_string
share-asked-requires-clause-plan_string c = walk-string c.args.self.plan c.args.self.ready _ c.loop-s.invariant.all _ c.loop-s-test.true

pub overflow_add-asked : goal.overflow_add-asked
overflow_add-asked c =
    let p = c.args.self.plan in
    let ready = c.args.self.ready in
    let all = c.loop-s.invariant.all in
    let small = asked_of-le p c.args.x c.args.w _ (walk-string p ready _ all _ c.loop-s-test.true) c.requires in
    omega (arith, c.share-asked.ensures, small, walk-few p ready _ all)

pub loop-s-preserved : goal.loop-s-preserved
loop-s-preserved c =
    let p = c.args.self.plan in
    let f = asked_of p c.args.x c.args.w in
    let all = c.loop-s.invariant.all in
    let small = asked_of-le p c.args.x c.args.w _ (walk-string p c.args.self.ready _ all _ c.loop-s-test.true) c.requires in
    let next = sum-here _ _ f c.loop-s-test.true in
    record { all = all; few = omega (arith, c.share-asked.ensures, small); rest = omega (arith, c.share-asked.ensures, next) }

pub returns : goal.returns
returns c =
    omega (
      arith,
      sum-done _ _ (asked_of c.args.self.plan c.args.x c.args.w) c.loop-s-test.false,
    )
