-- Laws for loops over the strings of a plan: the array of ten of which the first n count, one string after the other.
use Rattle.base.proofs.Prelude.{ℕ, suc, ◌+◌, ◌-◌, ◌≤◌, ◌<◌, min, ◌≡◌, sym, ◌∙◌, Bool, not, refl, List, [], ◌∷◌, arith, dec_le, length, take, length-take, get_or-eq_default, take_all}
use Rattle.faults.specs.Checks.{Refused, Lawful, Checked}
use Rattle.rules.specs.{declared.BatteryString.BatteryString, declared.Plan.Plan, Plan.{string_lawful, no_string, string_at}, Refusal.strings_check}
use Rattle.faults.specs.declared.Fault.TheVariants.{OutOfBounds}
use Rattle.base.proofs.Lists.{by_bool}
use Rattle.std.specs.Prelude.{Option, Some, None, position}
use Rattle.std.specs.List.{position_from}
use Rattle.std.proofs.lemmas.Iterator.Adapters.{position_from-zero}

-- of m elements, as many as count are those up to the smaller of k and m
pub take_min {ℓ} : {A : Type ℓ} (k m : ℕ) (xs : List A) → length xs ≡ m → take (min k m) xs ≡ take k xs
take_min k m xs e =
    elim (dec_le k m) [
      | yes few ↦
          let least : min k m ≡ k = omega arith in
          rw least
      | no many ↦
          let least : min k m ≡ m = omega arith in
          rw least (take_all m xs (omega arith) ∙ sym (take_all k xs (omega arith)))
    ]

-- ---- The string at a place

pub string_at-out : (p : Plan) (i : ℕ) → length p.strings < i → string_at p i ≡ no_string
string_at-out p i h =
    let past : length (take p.n p.strings) ≤ i - 1 = omega (arith, length-take p.n p.strings) in
    get_or-eq_default (take p.n p.strings) no_string past

-- ---- strings_check

abbrev pub outside : BatteryString → Bool
outside s = not (string_lawful s)

-- what the check says of the string found, counted from 0
abbrev pub at_place : ℕ → Option ℕ → Checked
at_place k None = Lawful
at_place k (Some i) = Refused OutOfBounds (i + k)

-- the check finds the first string outside its bounds
strings_check-from : (k i : ℕ) (ss : List BatteryString) → strings_check (i + k) ss ≡ at_place k (position_from outside i ss)
unfolding strings_check
strings_check-from k i [] = refl
strings_check-from k i (s ∷ ss) =
    let later = strings_check-from k (i + 1) ss in
    let next : suc (i + k) ≡ i + 1 + k = omega arith in
    by_bool (string_lawful s) (λ t. rw (t, next) later) (λ e. rw e)

pub strings_check-at : (ss : List BatteryString) → strings_check 1 ss ≡ at_place 1 (position outside ss)
strings_check-at ss = rw (position_from-zero outside ss) (strings_check-from 1 0 ss)
