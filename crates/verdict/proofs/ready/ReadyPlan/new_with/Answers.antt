-- The plan with the set is ready: the check of both found nothing.
use Rattle.base.proofs.Prelude.{sym, ◌∙◌, subst}
use Rattle.verdict.specs.inner.Asked.{Ready}
use Rattle.verdict.proofs.Readiness.{ready_set}
use Rattle.verdict.proofs.ready.ReadyPlan.new_with.Goals as goal

pub of-requires : goal.of-requires
of-requires c =
    subst Ready (sym c.with_set.ensures.exact)
    (ready_set c.args.plan c.args.set (sym c.set_check.ensures.exact ∙ c.in_ok-set_check.was) c.well_formed.0.1.1.1.1.0.1.0.1)
