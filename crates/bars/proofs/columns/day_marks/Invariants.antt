-- The marks so far are those of the columns.
use Rattle.std.proofs.Common.{◌≡◌, length, map, take}
use Rattle.bars.specs.{Bars.day_mark, inner.Drawing.cols_of}
use Rattle.bars.proofs.columns.day_marks.Given as goal

abbrev pub invariant-loop-i : goal.invariant-loop-i
invariant-loop-i l = record {
  listed : l.c-items ≡ cols_of l.fn.drawn;
  room : length l.marks ≡ 70;
  same : take l.i l.marks ≡ map day_mark (take l.i l.c-items);
}
