-- The cells so far are the bars of the columns.
use Rattle.std.proofs.Common.{◌≡◌, length, map, take}
use Rattle.rules.specs.Release.{releases_of}
use Rattle.bars.specs.{declared.Column.Column, Bars.bar_in, inner.Drawing.{uses_told, cols_of}}
use Rattle.bars.proofs.cells.row_cells.Given as goal

abbrev pub invariant-loop-i : goal.invariant-loop-i
invariant-loop-i l = record {
  listed : l.c-items ≡ cols_of l.fn.drawn;
  room : length l.cells ≡ 70;
  same : take l.i l.cells
      ≡ map (λ (c : Column). bar_in l.fn.p (releases_of l.fn.rs) (uses_told l.list l.fn.stints) l.fn.days l.fn.place c.first)
      (take l.i l.c-items);
}
