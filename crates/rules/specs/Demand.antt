-- The demand rule (document 01, "The demand rule"; the blocking limit, each string's own moving cost and late days as document 02, W-205,
-- W-207 and W-213, have them).
--     moving_cost p s        A, the moving days that a job of s pays when it takes the bank: the string's own
--     hold_of p s            E, C plus A times X: the longest that a job of s holds the bank
--     jobs s w              the jobs of s in a window of w days (source, equation 1, with w + J for w: the first may come J days late)
--     block_limit p l        B, the blocking limit at interval l (source, equation 7, with E − 1 for C)
--     need p l b s          what s asks of an interval l with blocking b
--     demand p l b          the demand at (l, b) (source, equation 9)
--     Passes p              demand ≤ l for every whole l ≥ 1 and every b ≤ B: no upper end
--     load p                the sum over strings of E × H / T
--     overloaded p          the load exceeds H
use Rattle.std.specs.Prelude.{ℕ, ◌+◌, ◌-◌, ◌*◌, ◌/◌, ◌≤◌, min, Bool, cond, ◌&&◌, leb, ltb, eqb}
use Rattle.rules.specs.declared.BatteryString.{BatteryString}
use Rattle.rules.specs.declared.Plan.{Plan}
use Rattle.base.specs.Count.{sum_of, largest}
use Rattle.rules.specs.Plan.{strings_of, multiple_of, leeway_min, d_max}

-- said of a plan and a string, as E and the run ask for it: they read the same wherever a plan keeps the cost
unfoldable pub moving_cost : Plan → BatteryString → ℕ
moving_cost p s = s.a.0

unfoldable pub hold_of : Plan → BatteryString → ℕ
hold_of p s = s.c.0 + moving_cost p s * s.x

unfoldable pub jobs : BatteryString → ℕ → ℕ
jobs s w = cond (ltb (w + s.j.0) s.d.0) 0 ((w + s.j.0 - s.d.0) / s.t.0 + 1)

-- E counts the moving too: a job that took the bank also holds it while moving. The source's equation 7 has C. All releases of a day join
-- before the bank is given out, so a job that blocks started at least a day earlier: of its E days at most E − 1 are left.
unfoldable pub blocker_hold : Plan → ℕ → BatteryString → ℕ
blocker_hold p l s = cond (ltb l s.d.0) (hold_of p s - 1) 0

unfoldable pub block_limit : Plan → ℕ → ℕ
block_limit p l =
    cond (leb (leeway_min p) l && ltb l (d_max p))
    (min l (largest (blocker_hold p l) (strings_of p)))
    0

unfoldable pub need : Plan → ℕ → ℕ → BatteryString → ℕ
need p l b s =
    cond (eqb s.x 1)
    (jobs s (l - b) * hold_of p s)
    (jobs s l * s.c.0)

unfoldable pub demand : Plan → ℕ → ℕ → ℕ
demand p l b = b + sum_of (need p l b) (strings_of p)

abbrev pub Passes : Plan → Type 0
Passes p = (l b : ℕ) → 1 ≤ l → b ≤ block_limit p l → demand p l b ≤ l

unfoldable pub load : Plan → ℕ
load p = sum_of (λ s. hold_of p s * (multiple_of p / s.t.0)) (strings_of p)

unfoldable pub overloaded : Plan → Bool
overloaded p = ltb (multiple_of p) (load p)
