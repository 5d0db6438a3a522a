-- The plan is ready: its check found nothing.
use Rattle.base.proofs.Prelude.{sym, ◌∙◌}
use Rattle.verdict.proofs.Readiness.{ready_plan}
use Rattle.verdict.proofs.ready.ReadyPlan.new.Goals as goal

pub of-requires : goal.of-requires
of-requires c = ready_plan c.args.plan (sym c.plan_check.ensures.exact ∙ c.in_ok-plan_check.was) c.well_formed.0.1.1.1.1.0.1.0.1
