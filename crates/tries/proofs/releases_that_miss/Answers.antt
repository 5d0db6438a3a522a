use Rattle.verdict.proofs.Readiness.{ready_plan}
use Rattle.base.proofs.Prelude.{sym}
use Rattle.tries.proofs.releases_that_miss.Goals as goal

pub missing_of-requires : goal.missing_of-requires
missing_of-requires c = ready_plan c.args.p (sym c.in_ok-plan_check.ensures.exact) c.well_formed.0.1.1.1.1.0.1.0.1
