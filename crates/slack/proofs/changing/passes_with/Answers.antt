-- A quick verdict says what the verdict says.
use Rattle.base.proofs.Prelude.{◌∙◌}
use Rattle.slack.proofs.Easier.{quick-says}
use Rattle.slack.proofs.changing.passes_with.Goals as goal

pub returns-in-Ok : goal.returns-in-Ok
returns-in-Ok c = c.passes.ensures.exact ∙ quick-says _ _ _ _ _ _ c.plan_with.ensures c.in-Ok.ensures.exact

pub returns-in-Err : goal.returns-in-Err
returns-in-Err c = quick-says _ _ _ _ _ _ c.plan_with.ensures c.in-Err.ensures.exact
