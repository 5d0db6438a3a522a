-- A day more.
use Rattle.base.proofs.Prelude.{◌≡◌, ap, ◌++◌, map, arith}
use Rattle.base.specs.Count.{up_from}
use Rattle.bars.specs.{Bars.column, inner.Drawing.cols_of}
use Rattle.bars.proofs.Filling.{still-drawn, day-more, drawn-as}
use Rattle.bars.proofs.columns.Drawn.with_days.Goals as goal

pub loop-passed-init : goal.loop-passed-init
unfolding up_from
loop-passed-init c = still-drawn c.args.self c.requires.up_to_seventy

pub with_column-next-requires-clause-up_to_seventy : goal.with_column-next-requires-clause-up_to_seventy
with_column-next-requires-clause-up_to_seventy c = c.loop-passed.invariant.fits

pub loop-passed-preserved : goal.loop-passed-preserved
loop-passed-preserved c =
    day-more c.args.self c.loop-passed.next _ c.args.first c.loop-passed.passed c.loop-passed.invariant c.with_column-next.ensures.exact

pub returns : goal.returns
returns c =
    let all : c.loop-passed.passed ≡ c.args.length = omega arith in
    record {
      exact = drawn-as _ _ _ (ap (λ n. cols_of c.args.self ++ map (λ t. column t 1) (up_from c.args.first n)) all) c.loop-passed.invariant;
    }
