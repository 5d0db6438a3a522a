-- The days so far have a column each.
use Rattle.std.proofs.Common.{◌++◌, map}
use Rattle.base.specs.Count.{up_from}
use Rattle.bars.specs.{Bars.column, inner.Drawing.{cols_of, Drawing}}
use Rattle.bars.proofs.columns.Drawn.with_days.Given as goal

abbrev pub invariant-loop-passed : goal.invariant-loop-passed
invariant-loop-passed l = Drawing l.next (cols_of l.fn.self ++ map (λ t. column t 1) (up_from l.first l.passed))
