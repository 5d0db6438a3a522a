-- The form is tested, then whether the month and day exist in some year.
use Rattle.base.proofs.Prelude.{sym, ◌∙◌, arith}
use Rattle.std.proofs.lemmas.Grind.{common_steps}
use Rattle.calendar.specs.Texts.{yearly_form, yearly_reading}
use Rattle.calendar.proofs.Texts.{fits-length, yearly_in-pairs, yearly_reading-form}
use Rattle.calendar.proofs.text.yearly_read.Goals as goal

pub returns-then-not-fits-clause-exact : goal.returns-then-not-fits-clause-exact
returns-then-not-fits-clause-exact c = sym (yearly_reading-form _ (sym c.fits.ensures.exact ∙ c.if-not-fits.true))

pub pair_at-requires : goal.pair_at-requires
pair_at-requires c = omega (arith, fits-length yearly_form _ (sym c.fits.ensures.exact ∙ c.if-not-fits.false))

pub pair_at-requires-2 : goal.pair_at-requires-2
pair_at-requires-2 c = omega (arith, fits-length yearly_form _ (sym c.fits.ensures.exact ∙ c.if-not-fits.false))

pub returns-in_err-yearly_date_check-clause-exact : goal.returns-in_err-yearly_date_check-clause-exact
unfolding yearly_reading
returns-in_err-yearly_date_check-clause-exact c =
    let form = sym c.fits.ensures.exact ∙ c.if-not-fits.false in
    let same = yearly_in-pairs c.args.text.now _ _ c.pair_at.ensures.exact c.pair_at-2.ensures.exact in
    grind (arith, common_steps, form, same)

pub returns-clause-exact : goal.returns-clause-exact
unfolding yearly_reading
returns-clause-exact c =
    let form = sym c.fits.ensures.exact ∙ c.if-not-fits.false in
    let same = yearly_in-pairs c.args.text.now _ _ c.pair_at.ensures.exact c.pair_at-2.ensures.exact in
    grind (arith, common_steps, form, same)
