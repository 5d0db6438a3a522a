-- The demand rule made sharp. With late days a string may count a job in an interval and block that interval at once; no job can do both.
-- So the string that blocks is left out of the demand.
--     need_but p l b q i     what the string at place i asks of an interval l with blocking b, and nothing for i = q
--     demand_but p l b q     b, and what all strings but the one at place q ask
--     SharplyPasses p       with no blocking, demand ≤ l for every whole l ≥ 1; and where the string at place q has D > l, for every b from
--                           1 up to l and E − 1 of that string, what is asked without that string is ≤ l
-- A plan that passes passes sharply too. The desk's rule is `Passes`: this one is what the theorem needs.
use Rattle.std.specs.Prelude.{ℕ, ◌+◌, ◌≤◌, ◌<◌, cond, eqb, length}
use Rattle.base.specs.Count.{sum_of, up_from}
use Rattle.rules.specs.declared.Plan.{Plan}
use Rattle.rules.specs.Plan.{strings_of, string_at}
use Rattle.rules.specs.Demand.{hold_of, need, demand}

unfoldable pub need_but : Plan → ℕ → ℕ → ℕ → ℕ → ℕ
need_but p l b q i = cond (eqb i q) 0 (need p l b (string_at p i))

unfoldable pub demand_but : Plan → ℕ → ℕ → ℕ → ℕ
demand_but p l b q = b + sum_of (need_but p l b q) (up_from 1 (length (strings_of p)))

-- the string at place q can block an interval l for b days: it is due beyond it, and has at most E − 1 days left
pub record CanBlock (p : Plan) (l b q : ℕ) : Type 0 where
  pub low : 1 ≤ q
  pub high : q ≤ length (strings_of p)
  pub some : 1 ≤ b
  pub within : b ≤ l
  pub far : l < (string_at p q).d.0
  pub less : b < hold_of p (string_at p q)

pub record SharplyPasses (p : Plan) : Type 0 where
  pub unblocked : (l : ℕ) → 1 ≤ l → demand p l 0 ≤ l
  pub blocked : (l b q : ℕ) → CanBlock p l b q → demand_but p l b q ≤ l
