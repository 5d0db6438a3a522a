-- a release of today joins; the first of a later day, or the end of the list, ends step 2
use Rattle.std.proofs.Common.{sym, arith}
use Rattle.base.proofs.Prelude.{eqb-true, eqb-false}
use Rattle.laws.proofs.ReleaseList.{release-lawful, listed-sorted}
use Rattle.run.proofs.{MayJoin.listed-joins, Events.{joining-more, joined-last, joined-before}}
use Rattle.run.proofs.release.join_today.Goals as goal

pub join-requires-clause-joins : goal.join-requires-clause-joins
join-requires-clause-joins c =
    listed-joins c.args.p _ c.requires.plan c.well_formed.1.0.1.1.1.1.0.1.0.1
    (release-lawful c.args.p c.args.releases.now c.requires.lawful c.loop-next.next c.loop-next-test.true)

pub join-requires-clause-within : goal.join-requires-clause-within
join-requires-clause-within c =
    let listed = release-lawful c.args.p c.args.releases.now c.requires.lawful c.loop-next.next c.loop-next-test.true in
    omega (arith, listed.place_max, c.requires.row)

pub loop-next-preserved : goal.loop-next-preserved
loop-next-preserved c =
    rw c.join.ensures.exact (joining-more c.loop-next-test.true (eqb-true _ _ (sym c.if-eq.ensures)) c.loop-next.invariant)

pub returns-else-eq : goal.returns-else-eq
returns-else-eq c = record {
  exact = joined-before (listed-sorted c.args.p c.args.releases.now c.requires.lawful) c.loop-next-test.true
      (eqb-false _ _ (sym c.if-eq.ensures)) c.loop-next.invariant;
}

pub returns-after-loop-next : goal.returns-after-loop-next
returns-after-loop-next c = record { exact = joined-last c.loop-next-test.false c.loop-next.invariant }
