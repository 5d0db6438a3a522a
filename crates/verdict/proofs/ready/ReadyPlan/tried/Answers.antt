-- Where no remembered pair breaks the rule, the quick verdict decides.
use Rattle.base.proofs.Prelude.{ap, ◌∙◌}
use Rattle.rules.specs.Verdict.{is_pass}
use Rattle.demand.proofs.Agreeing.{quick-passes}
use Rattle.verdict.proofs.ready.ReadyPlan.tried.Goals as goal

pub returns : goal.returns
returns c =
    c.passes.ensures.exact ∙ ap is_pass c.quickly_judged-found.ensures ∙ quick-passes c.args.self.plan c.args.self.ready.lawful.each
