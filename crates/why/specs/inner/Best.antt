-- The walk to the tightest pair: what it has in hand.
--     best_from p q qs       the pair in hand once the pairs qs are passed, q being the one before them: the first with less to spare takes
--                           its place
use Rattle.std.specs.Prelude.{cond, List, [], ◌∷◌, ltb}
use Rattle.rules.specs.declared.Plan.{Plan}
use Rattle.rules.specs.Verdict.{Pair}
use Rattle.why.specs.Named.{spare}

unfoldable pub best_from : Plan → Pair → List Pair → Pair
best_from p q [] = q
best_from p q (r ∷ rs) = best_from p (cond (ltb (spare p r) (spare p q)) r q) rs
