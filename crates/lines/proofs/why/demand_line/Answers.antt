use Rattle.base.proofs.Prelude.{lt-ltb, le-ltb}
use Rattle.rules.specs.Lines.{bytes_of}
use Rattle.lines.specs.Why.{demand_line}
use Rattle.lines.proofs.why.demand_line.Goals as goal

pub returns-then-days-demand : goal.returns-then-days-demand
unfolding bytes_of demand_line
returns-then-days-demand c = record { exact = rw (lt-ltb _ _ c.if-days-demand.true) c.lone_line.ensures.exact }

pub returns-else-days-demand : goal.returns-else-days-demand
unfolding bytes_of demand_line
returns-else-days-demand c = record { exact = rw (le-ltb _ _ c.if-days-demand.false) c.lone_line-else-days-demand.ensures.exact }
