-- Overload decides first, then the pairs.
use Rattle.base.proofs.Prelude.{sym, ◌∙◌}
use Rattle.demand.specs.Quick.{quick_pairs}
use Rattle.demand.proofs.Pairs.{verdict_over-overload, verdict_over-scan}
use Rattle.verdict.proofs.ready.ReadyPlan.quickly_judged.Goals as goal

pub returns-then-overloaded : goal.returns-then-overloaded
returns-then-overloaded c =
    let p = c.args.self.plan in
    sym (verdict_over-overload p (quick_pairs p) (sym c.overloaded.ensures ∙ c.if-overloaded.true))

pub returns-else-overloaded : goal.returns-else-overloaded
returns-else-overloaded c =
    let p = c.args.self.plan in
    c.first_broken.ensures ∙ sym (verdict_over-scan p (quick_pairs p) (sym c.overloaded.ensures ∙ c.if-overloaded.false))
