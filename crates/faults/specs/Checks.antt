-- Refusals (document 01, "Refusal numbers"; document 02 from 9 on): the number of each fault, and the order of checks.
--     Lawful                 what a check says that finds nothing
--     Refused f at           the refusal with the fault f at `at`, of a check or of whatever else was asked for
--     fault_number f         the number that the documents give the fault f
--     then a b              the first check decides; the second is looked at only where the first finds nothing
--     refuse_if bad f at     the fault f at `at` where something is bad, nothing otherwise
--     or_refused refused c x the value x where the check c finds nothing; else what `refused` makes of the fault and its place
--     in_bounds low v high   low ≤ v ≤ high
use Rattle.std.specs.Prelude.{ℕ, Bool, cond, ◌&&◌, leb, Result, Ok, Err}
use Rattle.faults.specs.declared.Fault.{Fault}
use Rattle.faults.specs.declared.Fault.TheVariants.{TextTooLong, LineMalformed, FrameWrong, StringCount}
use Rattle.faults.specs.declared.Fault.TheVariants.{OutOfBounds, MultipleOver, ReleaseTooMany, ReleaseUnlawful}
use Rattle.faults.specs.declared.Fault.TheVariants.{NoRoom, NoSuchDate, NoSuchEdition, CostsDiffer, RowMalformed}
use Rattle.faults.specs.declared.Fault.TheVariants.{VisitUnlawful, SumDiffers}
use Rattle.faults.specs.declared.Refusal.{Refusal}

abbrev pub Checked : Type 0
Checked = Result (Unit {0}) Refusal

abbrev pub Lawful : Checked
Lawful = Ok tt

abbrev pub Refused : {A : Type 0} → Fault → ℕ → Result A Refusal
Refused f at = Err (record { fault = f; at = at })

abbrev pub fault_number : Fault → ℕ
fault_number TextTooLong = 1
fault_number LineMalformed = 2
fault_number FrameWrong = 3
fault_number StringCount = 4
fault_number OutOfBounds = 5
fault_number MultipleOver = 6
fault_number ReleaseTooMany = 7
fault_number ReleaseUnlawful = 8
fault_number NoRoom = 9
fault_number NoSuchDate = 10
fault_number NoSuchEdition = 11
fault_number CostsDiffer = 12
fault_number RowMalformed = 13
fault_number VisitUnlawful = 14
fault_number SumDiffers = 15

abbrev pub then : {A : Type 0} → Checked → Result A Refusal → Result A Refusal
then (Ok _) next = next
then (Err e) next = Err e

abbrev pub refuse_if : Bool → Fault → ℕ → Checked
refuse_if bad f at = cond bad (Refused f at) Lawful

abbrev pub or_refused {ℓ} : {A : Type ℓ} → (Fault → ℕ → A) → Checked → A → A
or_refused refused (Ok _) x = x
or_refused refused (Err e) x = refused e.fault e.at

abbrev pub in_bounds : ℕ → ℕ → ℕ → Bool
in_bounds low v high = leb low v && leb v high
