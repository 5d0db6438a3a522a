-- Whether the rule breaks at a pair that is asked for (document 01, "The demand rule").
--     breaks_at p l b        of a lawful plan: the interval l is 1 to 101,000 days, the blocking limit at l allows the blocking b, and the
--                           demand there exceeds l
--     breaks_answer p l b    the same of any plan: a refused plan breaks the rule nowhere
-- No verdict looks further: Dmax is at most 1,000 and H at most 100,000.
use Rattle.std.specs.Prelude.{ℕ, Bool, false, ◌&&◌, leb, ltb}
use Rattle.faults.specs.Checks.{in_bounds, or_refused}
use Rattle.rules.specs.declared.Plan.{Plan}
use Rattle.rules.specs.Demand.{block_limit, demand}
use Rattle.rules.specs.Refusal.{plan_check}

unfoldable pub breaks_at : Plan → ℕ → ℕ → Bool
breaks_at p l b = in_bounds 1 l 101000 && leb b (block_limit p l) && ltb l (demand p l b)

unfoldable pub breaks_answer : Plan → ℕ → ℕ → Bool
breaks_answer p l b = or_refused (λ f at. false) (plan_check p) (breaks_at p l b)
