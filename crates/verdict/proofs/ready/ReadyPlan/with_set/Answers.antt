-- H, D − J and D do not depend on the permissions.
use Rattle.base.proofs.Prelude.{sym, ap, ◌∙◌, subst}
use Rattle.rules.specs.Plan.{multiple_of, leeway_min, d_max}
use Rattle.demand.proofs.Sets.{with_set-multiple}
use Rattle.verdict.specs.inner.Asked.{Ready}
use Rattle.verdict.proofs.Permit.{ready_with, with_set-leeway_min, with_set-d_max}
use Rattle.verdict.proofs.ready.ReadyPlan.with_set.Goals as goal

pub invariant_of-result : goal.invariant_of-result
invariant_of-result c =
    let p = c.args.self.plan in
    let m = c.args.set in
    let made = c.with_set.ensures.exact in
    record {
      ready = subst Ready (sym made) (ready_with p m c.args.self.ready);
      multiple_is = c.args.self.multiple_is ∙ sym (ap multiple_of made ∙ with_set-multiple p m);
      first_is = c.args.self.first_is ∙ sym (ap leeway_min made ∙ with_set-leeway_min p m);
      last_is = c.args.self.last_is ∙ sym (ap d_max made ∙ with_set-d_max p m);
    }
