-- the first that misses of the places left is the first of all
use mathlib.Core.List.{flat_map}
use Rattle.tries.specs.Tries.{places, by_interval, paid_try, misses_on}
use Rattle.tries.proofs.Searching.{Left}
use Rattle.tries.proofs.search.paid.Given as goal

abbrev pub invariant-loop-k : goal.invariant-loop-k
invariant-loop-k l =
    Left (misses_on l.fn.p) (λ k. flat_map (λ v. by_interval l.fn.p (paid_try l.fn.p k v)) (places l.fn.p)) l.fn.p.n l.k
