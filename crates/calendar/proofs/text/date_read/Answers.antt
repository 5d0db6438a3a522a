-- The form is tested, then whether the date exists.
use Rattle.base.proofs.Prelude.{ℕ, ◌+◌, ◌*◌, ◌≡◌, true, List, sym, ◌∙◌, arith, take, drop}
use Rattle.std.proofs.lemmas.Grind.{common_steps}
use Rattle.calendar.specs.Dates.{date}
use Rattle.calendar.specs.Texts.{fits, number, date_form, date_in, date_reading}
use Rattle.calendar.proofs.Texts.{fits-length, date_in-pairs, date_reading-form}
use Rattle.calendar.proofs.text.date_read.Goals as goal

pub returns-then-not-fits-clause-exact : goal.returns-then-not-fits-clause-exact
returns-then-not-fits-clause-exact c = sym (date_reading-form _ (sym c.fits.ensures.exact ∙ c.if-not-fits.true))

pub pair_at-requires : goal.pair_at-requires
pair_at-requires c = omega (arith, fits-length date_form _ (sym c.fits.ensures.exact ∙ c.if-not-fits.false))

pub pair_at-requires-2 : goal.pair_at-requires-2
pair_at-requires-2 c = omega (arith, fits-length date_form _ (sym c.fits.ensures.exact ∙ c.if-not-fits.false))

pub pair_at-requires-3 : goal.pair_at-requires-3
pair_at-requires-3 c = omega (arith, fits-length date_form _ (sym c.fits.ensures.exact ∙ c.if-not-fits.false))

pub pair_at-requires-4 : goal.pair_at-requires-4
pair_at-requires-4 c = omega (arith, fits-length date_form _ (sym c.fits.ensures.exact ∙ c.if-not-fits.false))

-- the date that was read
read : (text : List ℕ) (c y m d : ℕ) → fits date_form text ≡ true → c ≡ number (take 2 (drop 0 text)) → y ≡ number (take 2 (drop 2 text))
    → m ≡ number (take 2 (drop 5 text)) → d ≡ number (take 2 (drop 8 text)) → date (100 * c + y) m d ≡ date_in text
read text c y m d form = date_in-pairs text c y m d (omega (arith, fits-length date_form text form))

pub returns-in_err-date_check-clause-exact : goal.returns-in_err-date_check-clause-exact
unfolding date_reading
returns-in_err-date_check-clause-exact c =
    let form = sym c.fits.ensures.exact ∙ c.if-not-fits.false in
    let same = read c.args.text.now _ _ _ _ form c.pair_at.ensures.exact c.pair_at-2.ensures.exact c.pair_at-3.ensures.exact
    c.pair_at-4.ensures.exact in
    grind (arith, common_steps, form, same)

pub returns-clause-exact : goal.returns-clause-exact
unfolding date_reading
returns-clause-exact c =
    let form = sym c.fits.ensures.exact ∙ c.if-not-fits.false in
    let same = read c.args.text.now _ _ _ _ form c.pair_at.ensures.exact c.pair_at-2.ensures.exact c.pair_at-3.ensures.exact
    c.pair_at-4.ensures.exact in
    grind (arith, common_steps, form, same)
