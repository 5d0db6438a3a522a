-- the largest J so far, with that of the strings left, is the largest of all
use Rattle.std.proofs.Common.{◌≡◌}
use Rattle.rules.specs.Plan.{strings_of}
use Rattle.tries.proofs.Places.{Most}
use Rattle.tries.proofs.openings.most_late.Given as goal

abbrev pub invariant-loop-s : goal.invariant-loop-s
invariant-loop-s l = record { counted : l.s-items ≡ strings_of l.fn.p; most : Most (λ s. s.j.0) l.s-items l.s-index l.most }
