-- What the digits so far write is a day, and with those that are left they write what the text does.
use Rattle.base.proofs.Prelude.{◌≡◌, ◌≤◌, drop}
use Rattle.calendar.specs.{Numbers.last_day, inner.Places.digits_number}
use Rattle.calendar.proofs.Decimals.{digits_after}
use Rattle.calendar.proofs.text.digits_number.Given as goal

abbrev pub invariant-loop-b : goal.invariant-loop-b
invariant-loop-b l = (l.n ≤ last_day) × (digits_after l.n (drop l.b-index l.text) ≡ digits_number l.text)
