-- `slots::choice::chosen_place`: the loop holds the choice among the places passed.
use Rattle.std.proofs.Common.{◌≡◌, ◌≤◌, Bool, unwrap_or, IfSome}
use Rattle.rules.specs.declared.Slot.{Slot}
use Rattle.rules.specs.Run.{chosen}
use Rattle.slots.proofs.choice.chosen_place.Given as goal

abbrev pub invariant-loop-i : goal.invariant-loop-i
invariant-loop-i g l = record {
  so_far : (ok : Slot → Bool) (ahead : Slot → Slot → Bool)
      → ((s : Slot) (b : Bool) → goal.P-post g l.passes s b → b ≡ ok s)
      → ((s r : Slot) (b : Bool) → goal.A-post g l.is_ahead s r b → b ≡ ahead s r)
      → unwrap_or l.best 0 ≡ chosen ok ahead l.slots l.i;
  within : IfSome l.best (λ place. (1 ≤ place) × (place ≤ l.i));
}
