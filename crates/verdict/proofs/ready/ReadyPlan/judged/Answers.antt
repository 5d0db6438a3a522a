-- Overload decides first, then the pairs.
use Rattle.base.proofs.Prelude.{sym, ap, ◌∙◌}
use Rattle.rules.specs.Verdict.{all_pairs}
use Rattle.demand.proofs.Pairs.{scan_from, verdict_over-overload, verdict_over-scan}
use Rattle.verdict.proofs.ready.ReadyPlan.judged.Goals as goal

pub returns-then-overloaded : goal.returns-then-overloaded
returns-then-overloaded c =
    let p = c.args.self.plan in
    sym (verdict_over-overload p (all_pairs p) (sym c.overloaded.ensures ∙ c.if-overloaded.true))

pub returns-else-overloaded : goal.returns-else-overloaded
returns-else-overloaded c =
    let p = c.args.self.plan in
    c.scan.ensures
    ∙ ap (λ q. scan_from q 0 (all_pairs q)) c.parts.ensures
    ∙ sym (verdict_over-scan p (all_pairs p) (sym c.overloaded.ensures ∙ c.if-overloaded.false))
