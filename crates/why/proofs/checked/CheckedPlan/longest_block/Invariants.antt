-- the longest so far
use Rattle.std.proofs.Common.{◌≡◌}
use Rattle.rules.specs.Plan.{strings_of}
use Rattle.why.proofs.Walking.{Longest}
use Rattle.why.proofs.checked.CheckedPlan.longest_block.Given as goal

abbrev pub invariant-loop-s : goal.invariant-loop-s
invariant-loop-s l = record { counted : l.s-items ≡ strings_of l.fn.self.plan; longest : Longest l.fn.self l.l l.most l.s-index }
