-- The work counted so far, with that of the days left in the stints left, is all.
use Rattle.std.proofs.Common.{◌+◌, ◌≤◌, ◌≡◌, take}
use Rattle.base.specs.Count.{count_of}
use Rattle.sound.specs.Served.{works_for}
use Rattle.stretch.specs.Stints.{spelled}
use Rattle.bars.specs.inner.Drawing.{uses_told}
use Rattle.bars.proofs.Spelling.{stints_left}
use Rattle.bars.proofs.cells.worked_before.Given as goal

abbrev pub invariant-loop-i : goal.invariant-loop-i
invariant-loop-i l = record {
  small : l.work + l.left ≤ l.fn.t;
  same : l.work + count_of (works_for l.fn.k) (take l.left (spelled (stints_left l.list l.stints l.i)))
      ≡ count_of (works_for l.fn.k) (take l.fn.t (uses_told l.list l.stints));
}
