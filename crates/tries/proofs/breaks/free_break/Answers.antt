-- the plan with free moving is ready too, and it is the one that is asked about
use Rattle.base.proofs.Prelude.{sym, ap, subst}
use Rattle.verdict.specs.inner.Asked.{Ready}
use Rattle.tries.specs.Tries.{sharp_break}
use Rattle.tries.proofs.{OwnBreak.freely-ready, Searching.points-as}
use Rattle.tries.proofs.breaks.free_break.Goals as goal

pub sharp_break-requires : goal.sharp_break-requires
sharp_break-requires c = subst Ready (sym c.with_free_moving.ensures) (freely-ready _ c.requires)

pub returns : goal.returns
returns c = points-as c.sharp_break.result _ _ (ap sharp_break c.with_free_moving.ensures) c.sharp_break.ensures
