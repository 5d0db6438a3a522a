-- What a fail names (document 01, "The verdict"): the smallest interval that breaks the rule, the smallest blocking at it that does.
--     FirstBreakUnder limit p l b
--                           with `limit` for the blocking limit, the rule breaks at (l, b), and at no smaller interval, nor at l with a
--                           smaller blocking
--     FirstBreak p l b      the same with the plan's own blocking limit
use Rattle.std.specs.Prelude.{ℕ, ◌≤◌, ◌<◌}
use Rattle.rules.specs.declared.Plan.{Plan}
use Rattle.rules.specs.Demand.{block_limit, demand}

pub record FirstBreakUnder (limit : ℕ → ℕ) (p : Plan) (l b : ℕ) : Type 0 where
  pub pos : 1 ≤ l
  pub allowed : b ≤ limit l
  pub breaks : l < demand p l b
  pub shorter : (m c : ℕ) → 1 ≤ m → m < l → c ≤ limit m → demand p m c ≤ m
  pub less : (c : ℕ) → c < b → demand p l c ≤ l

abbrev pub FirstBreak : Plan → ℕ → ℕ → Type 0
FirstBreak p l b = FirstBreakUnder (block_limit p) p l b
