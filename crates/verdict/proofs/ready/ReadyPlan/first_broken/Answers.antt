-- The pairs below the largest D come first, then those from it on.
use Rattle.base.proofs.Prelude.{sym, ap, ◌∙◌}
use Rattle.demand.specs.Quick.{quick_pairs}
use Rattle.demand.proofs.Pairs.{scan_from}
use Rattle.verdict.specs.inner.Steps.{onward, pairs_of}
use Rattle.verdict.proofs.Onward.{onward-ended}
use Rattle.verdict.proofs.ready.ReadyPlan.first_broken.Goals as goal

pub returns-in_default : goal.returns-in_default
returns-in_default c =
    sym (onward-ended _ _ _ c.in_default.not-Pass)
    ∙ c.early-found.ensures.onward
    ∙ ap (λ p. scan_from p 0 (quick_pairs p)) c.parts-parts.ensures

pub late-requires : goal.late-requires
unfolding pairs_of
late-requires c = c.in-Pass.ensures.few

pub returns : goal.returns
unfolding onward
returns c = c.late.ensures ∙ c.in-Pass.ensures.onward ∙ ap (λ p. scan_from p 0 (quick_pairs p)) c.parts-parts.ensures
