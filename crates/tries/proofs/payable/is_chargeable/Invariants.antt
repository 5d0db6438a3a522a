-- whether one of the strings left can lose the bank is whether one of all can
use Rattle.std.proofs.Common.{◌≡◌, ◌+◌}
use Rattle.rules.specs.Plan.{strings_of}
use Rattle.charging.specs.Payable.{can_lose, chargeable}
use Rattle.tries.proofs.Charging.{TriesAsked}
use Rattle.tries.proofs.payable.is_chargeable.Given as goal

abbrev pub invariant-loop-i : goal.invariant-loop-i
invariant-loop-i l =
    record {
      counted : l.s-items ≡ strings_of l.fn.p;
      asked : TriesAsked (can_lose l.fn.p l.place) l.fn.p.n (l.i + 1) (chargeable l.fn.p l.place);
    }
