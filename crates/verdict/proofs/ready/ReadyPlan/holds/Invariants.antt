-- The array holds E of the strings passed, and zeros behind them.
use Rattle.std.proofs.Common.{◌≡◌}
use Rattle.rules.specs.Plan.{strings_of}
use Rattle.verdict.proofs.Holding.{holds_to}
use Rattle.verdict.proofs.ready.ReadyPlan.holds.Given as goal

abbrev pub invariant-loop-i : goal.invariant-loop-i
invariant-loop-i l = record { all : l.s-items ≡ strings_of l.fn.self.plan; done : l.holds ≡ holds_to l.fn.self.plan l.i }
