-- The day lies so many days further in the stints that are left.
use Rattle.std.proofs.Common.{◌≡◌, get_or}
use Rattle.rules.specs.declared.Use.TheVariants.{Idle}
use Rattle.stretch.specs.Stints.{spelled}
use Rattle.bars.specs.inner.Drawing.{uses_told}
use Rattle.bars.proofs.Spelling.{stints_left}
use Rattle.bars.proofs.cells.use_on.Given as goal

abbrev pub invariant-loop-i : goal.invariant-loop-i
invariant-loop-i l = get_or (spelled (stints_left l.list l.stints l.i)) l.left Idle ≡ get_or (uses_told l.list l.stints) l.fn.t Idle
