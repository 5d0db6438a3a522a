-- the first break of the intervals left is the first of all
use Rattle.std.proofs.Common.{◌+◌}
use Rattle.rules.specs.Plan.{multiple_of}
use Rattle.tries.specs.Tries.{breaks_in, is_broken}
use Rattle.tries.proofs.Searching.{Left}
use Rattle.tries.proofs.breaks.sharp_break.Given as goal

abbrev pub invariant-loop-l : goal.invariant-loop-l
invariant-loop-l l = Left (is_broken l.fn.p) (breaks_in l.fn.p) (multiple_of l.fn.p + 999) l.l
