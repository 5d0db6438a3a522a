-- `rules::Plan::moving_cost` meets its contract: a string pays its own cost.
use Rattle.base.proofs.Prelude.{refl}
use Rattle.rules.specs.Demand.{moving_cost}
use Rattle.rules.proofs.Plan.moving_cost.Statement.{statement}
use Rattle.rules.proofs.Plan.moving_cost.Tie as tie

returns : tie.Need-returns
unfolding moving_cost
returns c = refl

pub moving_cost_spec : {M : Type 1} → statement M
moving_cost_spec = tie.close (tie.spec returns)
