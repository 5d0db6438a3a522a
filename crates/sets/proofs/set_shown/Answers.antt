-- a lawful plan has at most ten strings
use Rattle.base.proofs.Prelude.{sym, ◌∙◌}
use Rattle.laws.proofs.Lawful.{plan_check-lawful}
use Rattle.sets.proofs.set_shown.Goals as goal

pub set_in-requires : goal.set_in-requires
set_in-requires c = (plan_check-lawful c.args.p (sym c.plan_check.ensures.exact ∙ c.in-Ok.is)).n_max
