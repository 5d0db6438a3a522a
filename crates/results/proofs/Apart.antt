-- Neither end is better than the other, and the search can be better than both: plans/lesson-everybody.plan, lesson-mixed.plan and
-- lesson-nobody.plan, one table, computed. Of the first plan everybody's set passes and nobody's does not; of the second, the same strings
-- with a day more of moving, neither, and one taker does; of the third, a shorter job and dearer moving, nobody's alone.
use Rattle.base.proofs.Prelude.{◌≡◌, refl, List, [], ◌∷◌, map}
use mathlib.Core.List.{flat_map}
use lib.Count.{ones, ones_in}
use Rattle.base.specs.Count.{sum_of, largest, smallest, smallest_with, every, keep, up_from, least_from, first_of}
use Rattle.rules.specs.{declared.Plan.Plan, Plan.{string_lawful, common_multiple, multiple_of, leeway_min, d_max}, Demand.{moving_cost, hold_of, jobs, blocker_hold, block_limit, need, demand, load, overloaded}, Verdict.{pairs_at, all_pairs, broken, compared, judged, verdict_over, is_pass}, Search.{permit, with_set, set_passes, sets_of, ordered, search_of}, Refusal.{count_check, run_length_check, cost_check, strings_check, multiple_check, plan_check, set_check, verdict_answer, set_answer, search_answer}, Said.{overload, fail, pass, takers}}
use Rattle.rules.proofs.Worked.{string, paying, plan_of, plan, Row, verdict-with, search, says, answered, row}

unfoldable pub cheap_moving : Plan
cheap_moving = plan (string 12 2 4 ∷ string 12 8 12 ∷ []) 1 24

unfoldable pub costly_moving : Plan
costly_moving = plan (string 12 2 4 ∷ string 12 8 12 ∷ []) 2 24

unfoldable pub dear_moving : Plan
dear_moving = plan (string 12 2 4 ∷ string 12 3 12 ∷ []) 3 24

unfoldable pub ends_table : List Row
ends_table =
    row (verdict-with cheap_moving 3) (says (pass 77))
    ∷ row (verdict-with cheap_moving 0) (says (fail 4 3 5 7))
    ∷ row (verdict-with costly_moving 3) (says (overload 0))
    ∷ row (verdict-with costly_moving 0) (says (fail 4 3 5 7))
    ∷ row (search costly_moving) (says (takers 1))
    ∷ row (verdict-with dear_moving 3) (says (fail 4 0 5 4))
    ∷ row (search dear_moving) (says (takers 0))
    ∷ []

pub ends-apart : map (λ r. answered r.asked) ends_table ≡ map (λ r. r.said) ends_table
unfolding
    answered row ends_table string paying plan_of plan cheap_moving costly_moving dear_moving
    ones ones_in flat_map
    sum_of largest smallest smallest_with every keep up_from least_from
    string_lawful common_multiple multiple_of leeway_min d_max
    moving_cost hold_of jobs blocker_hold block_limit need demand load overloaded
    pairs_at all_pairs broken first_of compared judged verdict_over is_pass
    permit with_set set_passes sets_of ordered search_of
    count_check run_length_check cost_check strings_check multiple_check plan_check set_check
    verdict_answer set_answer search_answer
ends-apart = refl
