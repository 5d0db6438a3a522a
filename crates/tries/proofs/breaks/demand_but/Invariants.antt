-- what is asked so far, with what the strings left ask, is all that is asked
use Rattle.std.proofs.Common.{◌≡◌}
use Rattle.rules.specs.{Plan.strings_of}
use Rattle.std.specs.Prelude.{unwrap_or}
use Rattle.tries.proofs.Demanding.{Summed}
use Rattle.tries.proofs.breaks.demand_but.Given as goal

abbrev pub invariant-loop-i : goal.invariant-loop-i
invariant-loop-i l =
    record { counted : l.s-items ≡ strings_of l.fn.p; summed : Summed l.fn.p l.l l.b (unwrap_or l.left_out 0) l.i l.sum }
