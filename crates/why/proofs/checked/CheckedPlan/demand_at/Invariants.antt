-- what is added up so far
use Rattle.std.proofs.Common.{◌≡◌}
use Rattle.rules.specs.Plan.{strings_of}
use Rattle.why.proofs.Walking.{WhyAsked}
use Rattle.why.proofs.checked.CheckedPlan.demand_at.Given as goal

abbrev pub invariant-loop-s : goal.invariant-loop-s
invariant-loop-s l = record { counted : l.s-items ≡ strings_of l.fn.self.plan; asked : WhyAsked l.fn.self l.l l.b l.sum l.s-index }
