-- Where seventy are drawn nothing comes, else the column behind them.
use Rattle.base.proofs.Prelude.{refl, arith}
use Rattle.bars.specs.{Bars.column, inner.Drawing.ColumnEnds}
use Rattle.bars.proofs.Filling.{all-drawn, column-more}
use Rattle.bars.proofs.columns.Drawn.with_column.Goals as goal

pub returns-then-self-eq70 : goal.returns-then-self-eq70
returns-then-self-eq70 c = record { exact = all-drawn c.args.self c.requires.up_to_seventy _ c.if-self-eq70.true }

pub returns : goal.returns
returns c =
    let few = c.requires.up_to_seventy.few in
    let ends : ColumnEnds (column c.args.first c.args.days) = record { some = c.requires.le_days; ends = c.requires.days_bound } in
    record { exact = column-more c.args.self c.requires.up_to_seventy _ _ (omega (arith, c.if-self-eq70.false)) ends refl refl }
