-- the sets that are left begin with those to go
use Rattle.std.proofs.Common.{get_or}
use Rattle.rules.specs.Search.{ordered}
use Rattle.sets.proofs.Ranking.{SetsAhead}
use Rattle.sets.proofs.set_in_order.Given as goal

abbrev pub invariant-loop-ones : goal.invariant-loop-ones
invariant-loop-ones l = SetsAhead l.fn.n (get_or (ordered l.fn.n) l.fn.k 0) l.ones 0 l.left

abbrev pub invariant-loop-set : goal.invariant-loop-set
invariant-loop-set l = SetsAhead l.fn.n (get_or (ordered l.fn.n) l.fn.k 0) l.ones l.set l.left
