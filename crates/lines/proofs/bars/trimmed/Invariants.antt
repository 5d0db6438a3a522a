use Rattle.std.proofs.Common.{◌≡◌, ◌≤◌, length}
use Rattle.lines.specs.Bars.{trimmed}
use Rattle.lines.proofs.bars.trimmed.Given as goal

abbrev pub invariant-loop-kept : goal.invariant-loop-kept
invariant-loop-kept l = record {
  same : trimmed l.kept ≡ trimmed l.fn.cells;
  short : length l.kept ≤ length l.fn.cells;
}

abbrev pub decreases-loop-kept : goal.decreases-loop-kept
decreases-loop-kept l = length l.kept
