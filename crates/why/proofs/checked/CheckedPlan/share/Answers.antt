-- its jobs times its E
use Rattle.base.proofs.Prelude.{◌*◌, sym, ap, ◌∙◌}
use mathlib.Core.Path.{ap₂}
use Rattle.rules.specs.Demand.{jobs}
use Rattle.why.proofs.Shares.{need-share}
use Rattle.why.proofs.checked.CheckedPlan.share.Goals as goal

pub returns : goal.returns
returns c = record {
  exact = ap₂ (λ count each. count * each)
      (c.from.ensures ∙ c.jobs_within.ensures.exact ∙ ap (jobs c.args.s) c.days_for.ensures.exact)
      (c.from-2.ensures ∙ c.hold_of.ensures.exact)
      ∙ sym (need-share c.args.self.now.plan c.args.l c.args.b c.args.s c.requires.lawful);
}
