-- the first that misses of the places left is the first of all
use Rattle.tries.specs.Tries.{by_interval, paid_try, misses_on}
use Rattle.tries.proofs.Searching.{Left}
use Rattle.tries.proofs.search.paid_by.Given as goal

abbrev pub invariant-loop-v : goal.invariant-loop-v
invariant-loop-v l = Left (misses_on l.fn.p) (λ v. by_interval l.fn.p (paid_try l.fn.p l.fn.k v)) l.fn.p.n l.v
