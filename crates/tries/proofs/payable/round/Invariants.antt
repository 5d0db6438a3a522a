-- the strings done, with those left as they will be, are the whole
use Rattle.std.proofs.Common.{◌+◌}
use Rattle.charging.specs.Payable.{chargeable, costs_where}
use Rattle.tries.proofs.Freed.{Changing}
use Rattle.tries.proofs.payable.round.Given as goal

abbrev pub invariant-loop-i : goal.invariant-loop-i
invariant-loop-i l =
    Changing 10 (λ i ss. costs_where (chargeable l.fn.p) (i + 1) ss) l.s-items (costs_where (chargeable l.fn.p) 1 l.fn.p.strings) l.i
