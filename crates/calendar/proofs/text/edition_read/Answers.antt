-- The form is tested, then whether the digit is 1 or 2.
use Rattle.base.proofs.Prelude.{sym, ◌∙◌, arith}
use Rattle.std.proofs.lemmas.Grind.{common_steps}
use Rattle.calendar.specs.Texts.{edition_form, edition_reading}
use Rattle.calendar.proofs.Texts.{fits-length, number-one, edition_reading-form}
use Rattle.calendar.proofs.text.edition_read.Goals as goal

pub returns-then-not-fits-clause-exact : goal.returns-then-not-fits-clause-exact
returns-then-not-fits-clause-exact c = sym (edition_reading-form _ (sym c.fits.ensures.exact ∙ c.if-not-fits.true))

pub bounds-text-0 : goal.bounds-text-0
bounds-text-0 c = omega (arith, fits-length edition_form _ (sym c.fits.ensures.exact ∙ c.if-not-fits.false))

pub returns-in_err-edition_check-clause-exact : goal.returns-in_err-edition_check-clause-exact
unfolding edition_reading
returns-in_err-edition_check-clause-exact c =
    let form = sym c.fits.ensures.exact ∙ c.if-not-fits.false in
    let same = c.worth-edition.ensures.exact ∙ sym (number-one c.args.text.now (fits-length edition_form _ form)) in
    grind (arith, common_steps, form, same)

pub returns-clause-exact : goal.returns-clause-exact
unfolding edition_reading
returns-clause-exact c =
    let form = sym c.fits.ensures.exact ∙ c.if-not-fits.false in
    let same = c.worth-edition.ensures.exact ∙ sym (number-one c.args.text.now (fits-length edition_form _ form)) in
    grind (arith, common_steps, form, same)
