-- The first line names the version that the text is held to.
use Rattle.std.proofs.Common.{sym, ap, ◌∙◌, arith}
use Rattle.rules.specs.{Layout.held_to, Text.{reading_in, said_in}}
use Rattle.reading.proofs.Choosing.{held-short, held-named}
use Rattle.reading.proofs.read.Goals as goal

pub returns-then-digits_ahead-lt4-clause-exact : goal.returns-then-digits_ahead-lt4-clause-exact
unfolding held_to
returns-then-digits_ahead-lt4-clause-exact c =
    c.read_in.ensures.exact ∙ sym (held-short _ (omega (arith, c.digits_ahead.ensures.exact, c.if-digits_ahead-lt4.true)))

pub returns-clause-exact : goal.returns-clause-exact
returns-clause-exact c =
    let text = c.args.text.now in
    let named = c.held_to.ensures.exact ∙ ap held_to c.field_of.ensures.exact in
    c.read_in-2.ensures.exact ∙ ap (λ v. said_in (reading_in v text)) named
    ∙ sym (held-named text (omega (arith, c.digits_ahead.ensures.exact, c.if-digits_ahead-lt4.false)))
