-- What an answer says of the check that it comes from.
use Rattle.base.proofs.Prelude.{◌≡◌, ap}
use Rattle.std.specs.Prelude.{Result, Ok, Err}
use Rattle.faults.specs.{declared.Refusal.Refusal, Checks.{Refused, Lawful, Checked, or_refused}}
use Rattle.faults.proofs.Checks.{err-not-ok, or_refused-lawful}

module _ {A : Type 0} where
  pub check-refused : (c : Checked) (a : A) (e : Refusal) → or_refused Refused c (Ok a) ≡ Err e → c ≡ Err e
  check-refused (Ok _) a e h = absurd (err-not-ok e a (cc))
  check-refused (Err d) a e h =
      let there : ◌≡◌ {A = Result A Refusal} (Err d) (Err e) = h in
      let same : d ≡ e = cc in
      ap Err same

  pub check-lawful : (c : Checked) (a b : A) → or_refused Refused c (Ok a) ≡ Ok b → (c ≡ Lawful) × (a ≡ b)
  check-lawful c a b h =
      let both = or_refused-lawful Refused c (Ok a) (Ok b) (λ f at e. err-not-ok _ b e) h in
      let there : ◌≡◌ {A = Result A Refusal} (Ok a) (Ok b) = both.1 in
      let same : a ≡ b = cc in
      (both.0, same)
