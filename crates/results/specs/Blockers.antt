-- The demand rule with any blocker: for how many days a job that is due later may hold the bank against an interval.
--     Blocker               the days, for each string of a plan
--     work                  C: the source's equation 7 as printed
--     hold_less k            E less k days: document 01's rule takes off none, W-205's one
--     limit_by h p l         the blocking limit at interval l, with the blocker h
--     PassesBy h p          demand ≤ l for every whole l ≥ 1 and every b up to that limit
-- The desk uses none of these: its rule is `Passes`, and `desk-rule` says which of them it is.
use Rattle.std.specs.Prelude.{ℕ, ◌-◌, ◌≤◌, min, cond, ◌&&◌, leb, ltb}
use Rattle.rules.specs.declared.BatteryString.{BatteryString}
use Rattle.rules.specs.declared.Plan.{Plan}
use Rattle.base.specs.Count.{largest}
use Rattle.rules.specs.Plan.{strings_of, leeway_min, d_max}
use Rattle.rules.specs.Demand.{hold_of, demand}

abbrev pub Blocker : Type 0
Blocker = Plan → BatteryString → ℕ

unfoldable pub work : Blocker
work p s = s.c.0

unfoldable pub hold_less : ℕ → Blocker
hold_less k p s = hold_of p s - k

-- only a string that is due later blocks
unfoldable pub days_by : Blocker → Plan → ℕ → BatteryString → ℕ
days_by h p l s = cond (ltb l s.d.0) (h p s) 0

unfoldable pub limit_by : Blocker → Plan → ℕ → ℕ
limit_by h p l = cond (leb (leeway_min p) l && ltb l (d_max p)) (min l (largest (days_by h p l) (strings_of p))) 0

abbrev pub PassesBy : Blocker → Plan → Type 0
PassesBy h p = (l b : ℕ) → 1 ≤ l → b ≤ limit_by h p l → demand p l b ≤ l
