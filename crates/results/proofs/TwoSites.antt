-- Two sites with the same three strings, each in its own order: plans/site-a.plan and plans/site-b.plan. One table, computed: the verdict
-- is the same, 49 pairs. The searches find one taker each, and not the same number: place 1 at the one site, place 2 at the other, the same
-- string. The runs differ, over the same releases: the two that are released on day 0 are due on the same day, and the tie goes by place.
-- Where the long job has the lower place, the taker of day 1 stops it and pays a day of moving; where the short one has it, it is done by
-- then, and the taker finds the bank free. Last which string is which.
use Rattle.base.proofs.Prelude.{◌≡◌, refl, List, [], ◌∷◌, map}
use mathlib.Core.List.{flat_map}
use lib.Count.{ones, ones_in}
use Rattle.base.specs.Count.{sum_of, largest, smallest, smallest_with, every, any, keep, count_of, up_from, least_from, first_of}
use Rattle.rules.specs.{declared.Plan.Plan, declared.Release.Release, Plan.{strings_of, string_at, string_lawful, common_multiple, multiple_of, leeway_min, d_max}, Demand.{moving_cost, hold_of, jobs, blocker_hold, block_limit, need, demand, load, overloaded}, Verdict.{pairs_at, all_pairs, broken, compared, judged, verdict_over, is_pass}, Search.{permit, with_set, set_passes, sets_of, ordered, search_of}, Release.{too_close, out_of_order, release_lawful, unlawful_from, first_unlawful}, Run.{chosen, late_at, new_slot, join_from, joined, holder, payer, taken, next_up, given, use_of, spent, morning, state_at, use_on, late_on, history, days_of, miss_day, run_of}, Refusal.{count_check, run_length_check, cost_check, strings_check, multiple_check, plan_check, set_check, releases_check, run_check, verdict_answer, set_answer, search_answer, run_answer}, Said.{pass, takers, clean}}
use Rattle.rules.proofs.Worked.{string, paying, plan_of, plan, release, releases, Row, verdict-with, search, run-with, says, answered, row}
use Rattle.results.specs.{Order.{skip, swap, chain, Reordered}, Partners.{alike, places_like, likes_ahead, partner, partners}}

unfoldable pub site_a : Plan
site_a = plan (string 10 3 5 ∷ string 10 5 10 ∷ string 20 1 10 ∷ []) 1 20

unfoldable pub site_b : Plan
site_b = plan (string 20 1 10 ∷ string 10 3 5 ∷ string 10 5 10 ∷ []) 1 20

-- the string (10, 3, 5) may take the bank: set 1 at the one site, set 2 at the other
pub sites-in-order : Reordered (with_set site_a 1) (with_set site_b 2)
unfolding string paying plan_of plan site_a site_b permit with_set
sites-in-order =
    let p = with_set site_a 1 in
    record {
      same_n = refl;
      strings = chain (skip (string_at p 1) (swap (string_at p 2) (string_at p 3) []))
          (swap (string_at p 1) (string_at p 3) (string_at p 2 ∷ []));
    }

-- the same releases, each with its string's place
abbrev at_a : List Release
at_a = release 0 2 5 ∷ release 0 3 1 ∷ release 1 1 3 ∷ []

abbrev at_b : List Release
at_b = release 0 3 5 ∷ release 0 1 1 ∷ release 1 2 3 ∷ []

unfoldable pub sites : List Row
sites =
    row (verdict-with site_a 1) (says (pass 49))
    ∷ row (verdict-with site_b 2) (says (pass 49))
    ∷ row (search site_a) (says (takers 1))
    ∷ row (search site_b) (says (takers 2))
    ∷ row (run-with site_a 1 at_a) (says (clean 9 1 10))
    ∷ row (run-with site_b 2 at_b) (says (clean 9 0 11))
    ∷ []

pub sites-differ : map (λ r. answered r.asked) sites ≡ map (λ r. r.said) sites
unfolding
    answered row sites string paying plan_of plan release releases site_a site_b
    ones ones_in flat_map
    sum_of largest smallest smallest_with every any keep count_of up_from least_from
    string_lawful common_multiple multiple_of leeway_min d_max
    moving_cost hold_of jobs blocker_hold block_limit need demand load overloaded
    pairs_at all_pairs broken first_of compared judged verdict_over is_pass
    permit with_set set_passes sets_of ordered search_of
    too_close out_of_order release_lawful unlawful_from first_unlawful
    chosen late_at new_slot join_from joined holder payer taken next_up given use_of spent morning state_at use_on late_on history days_of
    miss_day
    run_of
    count_check run_length_check cost_check strings_check multiple_check plan_check set_check releases_check run_check
    verdict_answer set_answer search_answer run_answer
sites-differ = refl

-- the first string of the one site is the second of the other, its second the third, its third the first
sites-partners : partners (strings_of (with_set site_a 1)) (strings_of (with_set site_b 2)) ≡ 2 ∷ 3 ∷ 1 ∷ []
unfolding string paying plan_of plan site_a site_b permit with_set keep count_of up_from alike places_like likes_ahead partner partners
sites-partners = refl
