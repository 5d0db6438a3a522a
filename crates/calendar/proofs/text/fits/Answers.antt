-- Texts of one length are compared place by place; others have no form in common.
use Rattle.base.proofs.Prelude.{ℕ, ◌<◌, ◌≡◌, sym, ap, ◌∙◌, Bool, true, false, List, arith, rules, ne_eqb, length}
use borrow.Author.Tests.{tests}
use Rattle.std.specs.Bool.{MatchBool}
use Rattle.std.specs.Slice.Iter.{iter_rest}
use Rattle.std.specs.List.{zip, AllWithin, HoldsAt}
use Rattle.std.proofs.lemmas.Iterator.{YieldsList-from_slice, YieldsList-from_zip, cases_from_all}
use Rattle.base.proofs.Lists.{all-by}
use Rattle.calendar.specs.Texts.{fits_at, fits}
use Rattle.calendar.proofs.Texts.{fits-all, fits-not, fits-other-length}
use Rattle.calendar.proofs.text.fits.Goals as goal

abbrev Yes : ℕ × ℕ → Type 0
Yes p = fits_at p.0 p.1 ≡ true

abbrev No : ℕ × ℕ → Type 0
No p = fits_at p.0 p.1 ≡ false

each : (form text : List ℕ) (r : Bool) → length form ≡ length text
    → MatchBool r (AllWithin Yes (zip form text) 0 (length (zip form text)))
    ((k : ℕ) × (k < length (zip form text)) × HoldsAt No (zip form text) k)
    → r ≡ fits form text
each form text true h all = sym (fits-all form text h (all-by Yes (zip form text) (0, 0) (λ i k. all i (0, 0) (omega arith) k)))
each form text false h one = sym (fits-not form text one.0 one.1 one.2)

pub returns-then-form-text-clause-exact : goal.returns-then-form-text-clause-exact
returns-then-form-text-clause-exact c =
    each c.args.form.now c.args.text.now _ c.if-form-text.true
    (cases_from_all c.all.new.self _ _ Yes No c.all.ensures.ran
    (YieldsList-from_zip {s = c.zip.result}
    (YieldsList-from_slice c.args.form.now (ap iter_rest c.zip.ensures.first ∙ c.iter.ensures.rest))
    (YieldsList-from_slice c.args.text.now c.zip.ensures.second.0))
    (λ x q k. search (rules, tests)) (λ x q k. search (rules, tests)))

pub returns-else-form-text-clause-exact : goal.returns-else-form-text-clause-exact
returns-else-form-text-clause-exact c =
    ne_eqb _ _ c.if-form-text.false ∙ sym (fits-other-length c.args.form.now c.args.text.now c.if-form-text.false)
