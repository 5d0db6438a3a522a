-- none of the strings passed blocks for as long
use Rattle.std.proofs.Common.{◌≡◌}
use Rattle.rules.specs.Plan.{strings_of}
use Rattle.why.proofs.Walking.{WhyBehind}
use Rattle.why.proofs.checked.CheckedPlan.blocker_place.Given as goal

abbrev pub invariant-loop-i : goal.invariant-loop-i
invariant-loop-i l = record { counted : l.s-items ≡ strings_of l.fn.self.plan; behind : WhyBehind l.fn.self l.l l.most l.i }
