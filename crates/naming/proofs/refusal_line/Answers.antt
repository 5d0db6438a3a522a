-- what was read decides, and of a refusal the reason is looked up
use Rattle.base.proofs.Prelude.{sym, ap, ◌∙◌}
use Rattle.faults.specs.Checks.{Refused}
use Rattle.faults.proofs.Checks.{err-not-ok, or_refused-lawful}
use Rattle.rules.specs.Text.{reading_of}
use Rattle.lines.specs.Pages.{page_of}
use Rattle.naming.proofs.{Named.{text-lawful, refusal-named}, Faults.naming-refused-by}
use Rattle.naming.proofs.refusal_line.Goals as goal

pub returns-in-Ok-clause-exact : goal.returns-in-Ok-clause-exact
returns-in-Ok-clause-exact c =
    let lawful = (or_refused-lawful Refused (reading_of c.args.text.now).checked _ _ (λ f at h. err-not-ok _ _ h)
    (sym c.in-Ok.ensures.exact)).0 in
    c.blank.ensures.exact ∙ ap page_of (sym (text-lawful c.args.text.now lawful))

pub returns-in-Err-clause-exact : goal.returns-in-Err-clause-exact
returns-in-Err-clause-exact c =
    let refused = naming-refused-by c.in-Err.refusal (reading_of c.args.text.now).checked _ c.in-Err.ensures.exact in
    refusal-named c.args.text.now c.in-Err.refusal.fault c.in-Err.refusal.at c.reason_line.result _ c.reason_line.ensures.exact
    c.reason_for.ensures.exact refused
