-- A month and day that exist in some year exist in 2000.
use Rattle.base.proofs.Prelude.{◌≡◌, refl, ap, ◌∙◌, Bool, true, false, not}
use Rattle.faults.specs.declared.Fault.TheVariants.{NoSuchDate}
use Rattle.faults.specs.Checks.{refuse_if}
use Rattle.calendar.proofs.SomeYear.{in_no_year-2000}
use Rattle.calendar.proofs.listing.yearly_date_check.Goals as goal

twice : (b : Bool) → not (not b) ≡ b
twice true = refl
twice false = refl

pub returns : goal.returns
returns c = record { exact = rw (← in_no_year-2000 c.args.on) at c.date_check.ensures.exact ∙ ap (λ b. refuse_if b NoSuchDate 0) (twice _) }
