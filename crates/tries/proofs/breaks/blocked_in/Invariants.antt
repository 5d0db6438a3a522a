-- the first break with the blockings left is the first of all
use Rattle.tries.specs.Tries.{longest_block, blocked_breaks, is_broken}
use Rattle.tries.proofs.Searching.{Left}
use Rattle.tries.proofs.breaks.blocked_in.Given as goal

abbrev pub invariant-loop-days : goal.invariant-loop-days
invariant-loop-days l = Left (is_broken l.fn.p) (blocked_breaks l.fn.p l.fn.l) (longest_block l.fn.p l.fn.l) l.days
