-- A character that is no digit, and a number past the last day, decide; else one digit more is read.
use Rattle.base.proofs.Prelude.{ℕ, ◌≡◌, sym, ◌∙◌, Bool, arith, get_or}
use Rattle.std.specs.Char.{is_ascii_digit}
use Rattle.calendar.specs.Texts.{fits_at}
use Rattle.calendar.proofs.Decimals.{digits_after-start, digits_after-over, digits_after-next, digits_after-not, digits_after-end}
use Rattle.calendar.proofs.text.digits_number.Goals as goal

digit : (b : ℕ) (r : Bool) → r ≡ is_ascii_digit b → fits_at 0x30 b ≡ r
unfolding fits_at
digit b r h = sym h

pub loop-b-init : goal.loop-b-init
loop-b-init c = (omega arith, digits_after-start c.args.text.now)

pub returns-then-not-is_ascii_digit : goal.returns-then-not-is_ascii_digit
returns-then-not-is_ascii_digit c =
    let l = c.loop-b in
    let text = c.args.text.now in
    let other = digit (get_or text l.b-index 0) _ c.is_ascii_digit.ensures.value ∙ c.if-not-is_ascii_digit.true in
    record { exact = sym (digits_after-not l.n text l.b-index c.loop-b-test.true other) ∙ l.invariant.1 }

pub returns-then-n : goal.returns-then-n
returns-then-n c =
    let l = c.loop-b in
    let text = c.args.text.now in
    let here = digit (get_or text l.b-index 0) _ c.is_ascii_digit.ensures.value ∙ c.if-not-is_ascii_digit.false in
    let next = digits_after-next l.n text l.b-index c.loop-b-test.true here in
    record { exact = sym (digits_after-over _ _ (omega arith)) ∙ sym next ∙ l.invariant.1 }

pub loop-b-preserved : goal.loop-b-preserved
loop-b-preserved c =
    let l = c.loop-b in
    let text = c.args.text.now in
    let here = digit (get_or text l.b-index 0) _ c.is_ascii_digit.ensures.value ∙ c.if-not-is_ascii_digit.false in
    let next = digits_after-next l.n text l.b-index c.loop-b-test.true here in
    (omega arith, rw c.worth.ensures.exact (sym next ∙ l.invariant.1))

pub returns : goal.returns
returns c =
    let l = c.loop-b in
    record { exact = sym (digits_after-end l.n c.args.text.now l.b-index c.loop-b-test.false l.invariant.0) ∙ l.invariant.1 }
