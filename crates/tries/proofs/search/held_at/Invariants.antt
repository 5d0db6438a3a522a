-- the first that misses of the places left is the first of all
use Rattle.std.proofs.Common.{[], ◌∷◌}
use Rattle.tries.specs.Tries.{stopped_try, misses_on}
use Rattle.tries.proofs.Searching.{Left}
use Rattle.tries.proofs.search.held_at.Given as goal

abbrev pub invariant-loop-v : goal.invariant-loop-v
invariant-loop-v l = Left (misses_on l.fn.p) (λ v. stopped_try l.fn.p l.fn.b v l.fn.l ∷ []) l.fn.p.n l.v
