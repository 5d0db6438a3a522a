-- The bounds on the string decide, and for T the check of the changed plan.
use Rattle.base.proofs.Prelude.{◌≡◌, refl, sym, ap, ◌∙◌}
use Rattle.std.specs.Result.{is_ok}
use Rattle.std.specs.Prelude.{Ok, Err}
use Rattle.faults.specs.Checks.{Checked}
use Rattle.rules.specs.Plan.{string_lawful}
use Rattle.slack.specs.inner.Values.{finds_nothing}
use Rattle.slack.proofs.{Easier.check-finds, OneString.{unlawful-string, lawful-string}}
use Rattle.slack.proofs.changing.lawful_with.Goals as goal

finds : (c : Checked) → is_ok c ≡ finds_nothing c
finds (Ok _) = refl
finds (Err e) = refl

pub returns-then-not-string_lawful : goal.returns-then-not-string_lawful
returns-then-not-string_lawful c =
    let is = sym (c.string_lawful.ensures.exact ∙ ap string_lawful c.string_with.ensures) in
    unlawful-string _ _ _ _ c.requires.has_place (is ∙ c.if-not-string_lawful.true)

pub returns-then-leaves_multiple : goal.returns-then-leaves_multiple
returns-then-leaves_multiple c =
    let is = sym (c.string_lawful.ensures.exact ∙ ap string_lawful c.string_with.ensures) in
    c.if-leaves_multiple.true ∙
    lawful-string _ _ _ _ c.requires.has_place (sym c.leaves_multiple.ensures ∙ c.if-leaves_multiple.true) c.requires.p_value
    (is ∙ c.if-not-string_lawful.false)

pub returns-else-leaves_multiple : goal.returns-else-leaves_multiple
returns-else-leaves_multiple c =
    c.is_ok.ensures.value ∙ finds c.plan_check.result ∙ check-finds _ _ _ _ _ _ c.plan_with.ensures c.plan_check.ensures.exact
