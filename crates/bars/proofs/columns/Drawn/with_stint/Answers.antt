-- Idle days that share a column, or a column for each day.
use Rattle.base.proofs.Prelude.{sym, ap, ◌++◌, arith}
use Rattle.bars.specs.inner.Drawing.{cols_of}
use Rattle.bars.proofs.Filling.{all-drawn, drawn-as, stint-one, stint-days, long-days}
use Rattle.bars.proofs.columns.Drawn.with_stint.Goals as goal

pub returns-then-self-eq70 : goal.returns-then-self-eq70
returns-then-self-eq70 c = record { exact = all-drawn c.args.self c.requires.up_to_seventy _ c.if-self-eq70.true }

pub with_column-requires-clause-le_days : goal.with_column-requires-clause-le_days
with_column-requires-clause-le_days c = omega (arith, long-days c.args.s (sym c.if-is_long_idle.ensures.exact))

pub returns-then-is_long_idle : goal.returns-then-is_long_idle
returns-then-is_long_idle c =
    record {
      exact = drawn-as _ _ _ (ap (λ cs. cols_of c.args.self ++ cs) (stint-one c.args.s (sym c.if-is_long_idle.ensures.exact)))
          c.with_column.ensures.exact;
    }

pub returns : goal.returns
returns c =
    record {
      exact = drawn-as _ _ _ (ap (λ cs. cols_of c.args.self ++ cs) (stint-days c.args.s (sym c.if-is_long_idle.ensures.exact)))
          c.with_days.ensures.exact;
    }
