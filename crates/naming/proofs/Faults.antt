-- A fault is known by its number, and what was read decides.
use Rattle.base.proofs.Prelude.{ℕ, ◌-◌, ◌≡◌, refl, sym, ap, ◌∙◌, List, [], ◌∷◌, get_or}
use Rattle.std.specs.Prelude.{Result, Ok, Err}
use Rattle.faults.specs.{declared.Refusal.Refusal, Checks.{Refused, Checked, fault_number, or_refused}}
use Rattle.faults.specs.declared.Fault.{Fault}
use Rattle.faults.specs.declared.Fault.TheVariants.{TextTooLong, LineMalformed, FrameWrong, StringCount, OutOfBounds, MultipleOver, ReleaseTooMany, ReleaseUnlawful, NoRoom, NoSuchDate, NoSuchEdition, CostsDiffer, RowMalformed, VisitUnlawful, SumDiffers}
use Rattle.faults.proofs.Checks.{err-not-ok}
use Rattle.rules.specs.declared.PlanFile.{PlanFile}

abbrev fault_at : ℕ → Fault
fault_at n = get_or (TextTooLong ∷ LineMalformed ∷ FrameWrong ∷ StringCount ∷ OutOfBounds ∷ MultipleOver ∷ ReleaseTooMany ∷
    ReleaseUnlawful ∷ NoRoom ∷ NoSuchDate ∷ NoSuchEdition ∷ CostsDiffer ∷ RowMalformed ∷ VisitUnlawful ∷ SumDiffers ∷ []) (n - 1)
    TextTooLong

number_at_of : (f : Fault) → fault_at (fault_number f) ≡ f
number_at_of TextTooLong = refl
number_at_of LineMalformed = refl
number_at_of FrameWrong = refl
number_at_of StringCount = refl
number_at_of OutOfBounds = refl
number_at_of MultipleOver = refl
number_at_of ReleaseTooMany = refl
number_at_of ReleaseUnlawful = refl
number_at_of NoRoom = refl
number_at_of NoSuchDate = refl
number_at_of NoSuchEdition = refl
number_at_of CostsDiffer = refl
number_at_of RowMalformed = refl
number_at_of VisitUnlawful = refl
number_at_of SumDiffers = refl

pub fault-is : (f g : Fault) → fault_number f ≡ fault_number g → f ≡ g
fault-is f g e = sym (number_at_of f) ∙ ap fault_at e ∙ number_at_of g

pub naming-refused-by : (e : Refusal) (k : Checked) (file : PlanFile) → Err e ≡ or_refused Refused k (Ok file) → k ≡ Err e
naming-refused-by e (Ok _) file h = absurd (err-not-ok e _ h)
naming-refused-by e (Err d) file h =
    let there : ◌≡◌ {A = Result PlanFile Refusal} (Err e) (Err d) = h in
    let same : d ≡ e = cc in
    ap Err same
