-- the payable plan is ready, and it is the one that is asked about
use Rattle.base.proofs.Prelude.{sym, ap, subst}
use Rattle.verdict.specs.inner.Asked.{Ready}
use Rattle.tries.specs.Tries.{sharp_break, passes_payably}
use Rattle.tries.proofs.{Charging.payable-ready, Searching.{points-as, whole_points}}
use Rattle.tries.proofs.payable.passes_payably.Goals as goal

pub sharp_break-requires : goal.sharp_break-requires
sharp_break-requires c = subst Ready (sym c.payable_plan.ensures) (payable-ready _ c.requires)

pub returns : goal.returns
unfolding passes_payably
returns c =
    let points = points-as c.sharp_break.result _ _ (ap sharp_break c.payable_plan.ensures) c.sharp_break.ensures in
    whole_points c.sharp_break.result _ c.is_none.result points c.is_none.ensures
