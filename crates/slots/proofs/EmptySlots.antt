-- Slots of which each is that of its string.
use Rattle.base.proofs.Prelude.{ℕ, ◌<◌, ◌≡◌, sym, ◌∙◌, List, map, length, get_or, length-map, get_or-map}
use lib.Seq.{ext_get_or}
use Rattle.rules.specs.{declared.BatteryString.BatteryString, declared.Slot.Slot, Plan.no_string, Run.{empty_slot, no_slot}}

pub each-emptied : (strings : List BatteryString) (slots : List Slot) → length slots ≡ length strings
    → ((j : ℕ) → j < length slots → get_or slots j no_slot ≡ empty_slot (get_or strings j no_string)) → slots ≡ map empty_slot strings
each-emptied strings slots same each =
    ext_get_or no_slot slots (map empty_slot strings) (same ∙ sym (length-map strings empty_slot))
    (λ j h. each j h ∙ sym (get_or-map empty_slot strings j no_string))
