-- A pair, string by string: where the demand at (l, b) comes from.
--     counted_days l b s     the days in which the jobs of s are counted: l − b where it may take the bank, else l
--     blocker_place p l      the place of the string that blocks: the first, by place, of those whose E − 1 is the largest among strings
--                           with D > l
--     blocker_text p l b     its line; none where nothing blocks
--     share_text p l b i     the line of the string at place i: its jobs in those days, its E, and their product; none where no string is
--     pair_text p l b        all lines on a pair: the pair, who blocks, the blocking, each string by place, the demand out of the interval
--     over_text p            all lines on an overload: H, each string over H days, the load out of H
--     blocker_shown p l b, share_shown p l b i, demand_shown p l b
--                           the lines as they are asked for one by one, of any plan: a refused one gives the line of its refusal
use Rattle.std.specs.Prelude.{ℕ, ◌-◌, cond, eqb}
use mathlib.Core.List.{List, [], ◌++◌, flat_map}
use Rattle.faults.specs.Checks.{in_bounds, or_refused}
use Rattle.base.specs.Count.{largest, up_from, least_from}
use Rattle.rules.specs.declared.BatteryString.{BatteryString}
use Rattle.rules.specs.declared.Plan.{Plan}
use Rattle.rules.specs.Plan.{strings_of, string_at, multiple_of}
use Rattle.rules.specs.Demand.{hold_of, jobs, blocker_hold, demand, load}
use Rattle.rules.specs.Refusal.{plan_check}
use Rattle.rules.specs.Lines.{refused_line}
use Rattle.lines.specs.Why.{pair_line, blocker_line, blocking_line, share_line, demand_line, multiple_line, over_line}

unfoldable pub counted_days : ℕ → ℕ → BatteryString → ℕ
counted_days l b s = cond (eqb s.x 1) (l - b) l

unfoldable pub blocker_place : Plan → ℕ → ℕ
blocker_place p l =
    least_from (λ i. eqb (blocker_hold p l (string_at p i)) (largest (blocker_hold p l) (strings_of p))) 1 p.n

-- ---- The lines of a lawful plan

unfoldable pub blocker_text : Plan → ℕ → ℕ → List ℕ
blocker_text p l b =
    let s = string_at p (blocker_place p l) in
    cond (eqb b 0) [] (blocker_line (blocker_place p l) (hold_of p s) s.d.0)

unfoldable pub share_text : Plan → ℕ → ℕ → ℕ → List ℕ
share_text p l b i =
    let s = string_at p i in
    cond (in_bounds 1 i p.n) (share_line i (jobs s (counted_days l b s)) (counted_days l b s) (hold_of p s)) []

unfoldable pub pair_text : Plan → ℕ → ℕ → List ℕ
pair_text p l b =
    pair_line l b
    ++ blocker_text p l b
    ++ blocking_line b
    ++ flat_map (share_text p l b) (up_from 1 p.n)
    ++ demand_line (demand p l b) l

unfoldable pub over_text : Plan → List ℕ
over_text p =
    multiple_line (multiple_of p)
    ++ flat_map (share_text p (multiple_of p) 0) (up_from 1 p.n)
    ++ over_line (load p) (multiple_of p)

-- ---- One by one, of any plan

unfoldable pub blocker_shown : Plan → ℕ → ℕ → List ℕ
blocker_shown p l b = or_refused refused_line (plan_check p) (blocker_text p l b)

unfoldable pub share_shown : Plan → ℕ → ℕ → ℕ → List ℕ
share_shown p l b i = or_refused refused_line (plan_check p) (share_text p l b i)

unfoldable pub demand_shown : Plan → ℕ → ℕ → List ℕ
demand_shown p l b = or_refused refused_line (plan_check p) (demand_line (demand p l b) l)
