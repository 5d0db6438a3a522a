-- The demand, interval by interval, over the range of the verdict's pairs.
--     last_interval p        Dmax + H − 1: the pairs of the verdict have the intervals from 1 to it
--     top_demand p l         the largest demand of an interval over its blockings
--     grows_in p l           some demand grows at l: with its blocking held, it is larger than at l − 1
--     broken_in p l          the rule breaks at the interval l, with some blocking
--     stair_text p l         the line of an interval at which some demand grows; none at any other
--     stretch_end p l        the last of the intervals that break the rule from l on, one after the other
--     starts_at p l          l breaks the rule, and the interval before it does not
--     stretch_text p l       the line of the intervals that break the rule from l on, where l is the first of them
--     nowhere_text p         the line that says so where no interval breaks the rule
--     stairs_text p          all lines of a lawful plan: the intervals at which some demand grows, and last where the rule is broken
--     last_answer p, stair_shown p l, stretch_shown p l, nowhere_shown p
--                           as they are asked for one by one, of any plan: a refused one has no interval, and gives the line of its refusal
use Rattle.std.specs.Prelude.{ℕ, suc, ◌+◌, ◌-◌, Bool, not, cond, ◌&&◌, ltb}
use mathlib.Core.List.{List, [], ◌++◌, flat_map}
use Rattle.faults.specs.declared.Fault.{Fault}
use Rattle.faults.specs.Checks.{in_bounds, or_refused}
use Rattle.base.specs.Count.{largest, any, up_from, least_from}
use Rattle.rules.specs.declared.Plan.{Plan}
use Rattle.rules.specs.Plan.{multiple_of, d_max}
use Rattle.rules.specs.Demand.{block_limit, demand}
use Rattle.rules.specs.Refusal.{plan_check}
use Rattle.rules.specs.Lines.{refused_line}
use Rattle.lines.specs.Why.{stair_line, stretch_line, nowhere_line}

unfoldable pub last_interval : Plan → ℕ
last_interval p = d_max p + multiple_of p - 1

unfoldable pub top_demand : Plan → ℕ → ℕ
top_demand p l = largest (demand p l) (up_from 0 (suc (block_limit p l)))

unfoldable pub grows_in : Plan → ℕ → Bool
grows_in p l = any (λ b. ltb (demand p (l - 1) b) (demand p l b)) (up_from 0 (suc (block_limit p l)))

unfoldable pub broken_in : Plan → ℕ → Bool
broken_in p l = ltb l (top_demand p l)

-- ---- The lines of a lawful plan

unfoldable pub stair_text : Plan → ℕ → List ℕ
stair_text p l = cond (in_bounds 1 l (last_interval p) && grows_in p l) (stair_line l (top_demand p l)) []

unfoldable pub stretch_end : Plan → ℕ → ℕ
stretch_end p l = least_from (λ m. not (broken_in p m)) l (suc (last_interval p) - l) - 1

unfoldable pub starts_at : Plan → ℕ → Bool
starts_at p l = broken_in p l && not (broken_in p (l - 1))

unfoldable pub stretch_text : Plan → ℕ → List ℕ
stretch_text p l =
    cond (in_bounds 1 l (last_interval p) && starts_at p l) (stretch_line l (stretch_end p l) (last_interval p)) []

unfoldable pub nowhere_text : Plan → List ℕ
nowhere_text p = cond (any (broken_in p) (up_from 1 (last_interval p))) [] (nowhere_line (last_interval p))

unfoldable pub stairs_text : Plan → List ℕ
stairs_text p =
    flat_map (stair_text p) (up_from 1 (last_interval p)) ++ flat_map (stretch_text p) (up_from 1 (last_interval p)) ++ nowhere_text p

-- ---- One by one, of any plan

abbrev pub no_interval : Fault → ℕ → ℕ
no_interval f at = 0

unfoldable pub last_answer : Plan → ℕ
last_answer p = or_refused no_interval (plan_check p) (last_interval p)

unfoldable pub stair_shown : Plan → ℕ → List ℕ
stair_shown p l = or_refused refused_line (plan_check p) (stair_text p l)

unfoldable pub stretch_shown : Plan → ℕ → List ℕ
stretch_shown p l = or_refused refused_line (plan_check p) (stretch_text p l)

unfoldable pub nowhere_shown : Plan → List ℕ
nowhere_shown p = or_refused refused_line (plan_check p) (nowhere_text p)
