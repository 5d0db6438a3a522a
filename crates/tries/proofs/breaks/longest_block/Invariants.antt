-- the longest so far, with that of the strings left, is the longest of all
use Rattle.std.proofs.Common.{◌≡◌}
use Rattle.rules.specs.{Plan.strings_of, Demand.blocker_hold}
use Rattle.tries.proofs.Places.{Most}
use Rattle.tries.proofs.breaks.longest_block.Given as goal

abbrev pub invariant-loop-s : goal.invariant-loop-s
invariant-loop-s l =
    record { counted : l.s-items ≡ strings_of l.fn.p; most : Most (blocker_hold l.fn.p l.l) l.s-items l.s-index l.most }
