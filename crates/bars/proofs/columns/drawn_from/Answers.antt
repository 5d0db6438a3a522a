-- The columns of the stints passed, and behind the last the day of the miss.
use Rattle.base.proofs.Prelude.{◌≡◌, ap, ◌++◌, arith}
use mathlib.Core.List.{flat_map}
use Rattle.base.specs.Count.{up_from}
use Rattle.visits.specs.inner.Own.{stints_in}
use Rattle.bars.specs.{Bars.{stint_columns}, inner.Drawing.cols_of}
use Rattle.bars.proofs.Filling.{still-drawn, more-drawn, drawn-as, stint-more}
use Rattle.bars.proofs.columns.drawn_from.Goals as goal

pub loop-i-init : goal.loop-i-init
unfolding up_from flat_map
loop-i-init c = c.none-drawn.ensures.exact

pub with_stint-drawn-requires-clause-up_to_seventy : goal.with_stint-drawn-requires-clause-up_to_seventy
with_stint-drawn-requires-clause-up_to_seventy c = c.loop-i.invariant.fits

pub with_stint-drawn-requires-clause-length_bound : goal.with_stint-drawn-requires-clause-length_bound
with_stint-drawn-requires-clause-length_bound c = rw c.stint_at.ensures.exact (c.requires.stints_end c.loop-i.i (omega arith))

pub loop-i-preserved : goal.loop-i-preserved
loop-i-preserved c =
    let drawn = ap (λ s. cols_of c.loop-i.drawn ++ stint_columns s) c.stint_at.ensures.exact in
    let behind = drawn-as _ _ _ drawn c.with_stint-drawn.ensures.exact in
    stint-more stint_columns c.loop-i.drawn _ c.args.list.now c.loop-i.i c.loop-i.invariant behind

pub with_column-requires-clause-up_to_seventy : goal.with_column-requires-clause-up_to_seventy
with_column-requires-clause-up_to_seventy c = c.loop-i.invariant.fits

pub with_column-requires-clause-days_bound : goal.with_column-requires-clause-days_bound
with_column-requires-clause-days_bound c = omega (arith, rw c.in-Some.is at c.requires.end_bound)

pub returns-in-Some : goal.returns-in-Some
returns-in-Some c =
    let all : c.loop-i.i ≡ c.args.stints = omega arith in
    let stints = drawn-as _ _ _ (ap (λ n. flat_map stint_columns (stints_in c.args.list.now n)) all) c.loop-i.invariant in
    record { exact = rw c.in-Some.is (more-drawn _ _ _ _ stints c.with_column.ensures.exact) }

pub returns-in-None : goal.returns-in-None
returns-in-None c =
    let all : c.loop-i.i ≡ c.args.stints = omega arith in
    let stints = drawn-as _ _ _ (ap (λ n. flat_map stint_columns (stints_in c.args.list.now n)) all) c.loop-i.invariant in
    record { exact = rw c.in-None.is (more-drawn _ _ _ _ stints (still-drawn _ stints.fits)) }
