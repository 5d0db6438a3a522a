-- The stints so far are drawn.
use mathlib.Core.List.{flat_map}
use Rattle.visits.specs.inner.Own.{stints_in}
use Rattle.bars.specs.{Bars.stint_columns, inner.Drawing.Drawing}
use Rattle.bars.proofs.columns.drawn_from.Given as goal

abbrev pub invariant-loop-i : goal.invariant-loop-i
invariant-loop-i l = Drawing l.drawn (flat_map stint_columns (stints_in l.list l.i))
