-- Visit lists and what the check says of them, computed from the definitions: one table under one statement. A refusal is told by its
-- number and by the record or the release. Two releases: the first on day 0, due on day 10, needs 5 days; the second on day 1, due on day
-- 6, needs 3; a visit after the first costs one moving day.
use Rattle.base.proofs.Prelude.{ℕ, ◌≡◌, refl, List, [], ◌∷◌, map}
use Rattle.days.specs.Days.{day, days}
use Rattle.base.specs.Count.{sum_of, every, any, keep, least_from}
use Rattle.rules.specs.{declared.Plan.Plan, declared.Release.Release, Search.{permit, with_set}, Plan.{with_run, string_lawful, common_multiple, multiple_of}, Demand.moving_cost, Release.{too_close, out_of_order, release_lawful, unlawful_from, first_unlawful}, Run.{chosen, late_at, new_slot, join_from, joined, holder, payer, taken, next_up, given, use_of, spent, morning, state_at, use_on, late_on, history, miss_day}, Stints.days_run, Refusal.{count_check, run_length_check, strings_check, multiple_check, plan_check, releases_check, run_check}, Said.{Said, lawful, refused, checked_says}}
use Rattle.rules.proofs.Worked.{string, paying, opening, plan_of, plan, two, tardy, release, release_due, releases}
use Rattle.visits.specs.{declared.Visit.Visit, Visits.{visit_lawful, breaking_from, first_breaking, first_short, visit_list_check, visits_check}, OwnRun.{joined_to, day_before, visits_from, visits_to, run_visits}}

-- the release served, the first day, the length
unfoldable pub visit : ℕ → ℕ → ℕ → Visit
visit k t n = record { release = k; first = day t; length = days n }

pub record VisitRow : Type 0 where
  pub plan : Plan
  pub list : List Release
  pub visits : List Visit
  pub said : Said

unfoldable pub visits_said : VisitRow → Said
visits_said r = checked_says (visits_check r.plan (releases r.list) r.visits)

-- the plan and the releases of the sample file
unfoldable pub sampled : List Visit → Said → VisitRow
sampled vs s = record { plan = two; list = release 0 2 5 ∷ release 1 1 3 ∷ []; visits = vs; said = s }

-- one release that was due on day 0 and is released on day 2, by a string with late days
unfoldable pub tenanted : List Visit → Said → VisitRow
tenanted vs s = record { plan = tardy; list = release_due 0 2 1 3 ∷ []; visits = vs; said = s }

unfoldable pub table : List VisitRow
table =
    -- the first release twice: five days, and one for moving again
    sampled (visit 1 0 1 ∷ visit 2 1 3 ∷ visit 1 4 5 ∷ []) lawful
    ∷ sampled (visit 1 0 1 ∷ visit 2 3 3 ∷ visit 1 6 4 ∷ []) (refused 15 1)
    -- our own run: a taker pays in its first visit, the list for later ones
    ∷ sampled (visit 1 0 1 ∷ visit 2 1 4 ∷ visit 1 5 4 ∷ []) (refused 15 1)
    ∷ sampled (visit 1 0 1 ∷ visit 2 1 4 ∷ visit 1 5 5 ∷ []) (refused 15 2)
    -- nobody visits
    ∷ sampled [] (refused 15 1)
    ∷ sampled (visit 1 0 5 ∷ []) (refused 15 2)
    -- lengths
    ∷ sampled (visit 1 0 0 ∷ []) (refused 14 1)
    -- order and overlap
    ∷ sampled (visit 2 1 3 ∷ visit 1 0 1 ∷ []) (refused 14 2)
    ∷ sampled (visit 1 0 2 ∷ visit 2 1 3 ∷ []) (refused 14 2)
    ∷ sampled (visit 1 0 1 ∷ visit 2 1 3 ∷ visit 1 3 6 ∷ []) (refused 14 3)
    -- no such release
    ∷ sampled (visit 0 0 1 ∷ []) (refused 14 1)
    ∷ sampled (visit 3 0 1 ∷ []) (refused 14 1)
    -- visits that touch, and that do not
    ∷ sampled (visit 1 0 1 ∷ visit 1 1 5 ∷ []) (refused 14 2)
    ∷ sampled (visit 1 0 1 ∷ visit 1 2 5 ∷ []) (refused 15 2)
    -- from the release day up to, not into, the deadline day
    ∷ sampled (visit 2 0 3 ∷ []) (refused 14 1)
    ∷ sampled (visit 2 3 3 ∷ []) (refused 15 1)
    ∷ sampled (visit 2 3 4 ∷ []) (refused 14 1)
    -- a room that opens two days after its due day: from the release day up to five days after the due day
    ∷ tenanted (visit 1 2 3 ∷ []) lawful
    ∷ tenanted (visit 1 1 3 ∷ []) (refused 14 1)
    ∷ tenanted (visit 1 2 2 ∷ visit 1 4 1 ∷ []) (refused 14 2)
    ∷ tenanted (visit 1 3 3 ∷ []) (refused 14 1)
    -- the largest numbers of the code
    ∷ sampled (visit 4294967295 0 1 ∷ []) (refused 14 1)
    ∷ sampled (visit 1 4294967295 4294967295 ∷ []) (refused 14 1)
    -- 14 before 15, and the plan before both
    ∷ sampled (visit 1 0 1 ∷ visit 2 3 4 ∷ []) (refused 14 2)
    ∷ record { plan = with_run two 0; list = []; visits = visit 1 0 0 ∷ []; said = refused 5 0 }
    ∷ record { plan = two; list = release 20 1 1 ∷ []; visits = visit 1 0 0 ∷ []; said = refused 8 1 }
    ∷ record { plan = two; list = []; visits = []; said = lawful }
    ∷ []

pub worked : map visits_said table ≡ map (λ r. r.said) table
unfolding
    visit visits_said sampled tenanted table visit_lawful breaking_from first_breaking first_short visit_list_check visits_check
    sum_of every any keep least_from moving_cost string_lawful common_multiple multiple_of too_close out_of_order release_lawful
    unlawful_from
    first_unlawful count_check run_length_check strings_check multiple_check plan_check releases_check run_check
    string paying opening plan_of plan two tardy release release_due releases
worked = refl

-- ---- Our own run

-- The sample file's run: string 1 takes the bank on day 1 and pays for it in its first visit; the list pays for the second visit of string
-- 2 alone. So our own run is refused where moving is not free.
unfoldable pub sample_run : List Visit
sample_run = run_visits (with_set two 1) (release 0 2 5 ∷ release 1 1 3 ∷ [])

pub own-visits : sample_run ≡ visit 1 0 1 ∷ visit 2 1 4 ∷ visit 1 5 4 ∷ []
unfolding
    visit sample_run joined_to day_before visits_from visits_to run_visits days_run permit with_set least_from chosen late_at new_slot
    join_from
    joined holder
    payer taken next_up given use_of spent morning state_at use_on late_on history miss_day moving_cost
    string paying plan_of plan two release
own-visits = refl

pub own-refused : checked_says (visits_check (with_set two 1) (releases (release 0 2 5 ∷ release 1 1 3 ∷ [])) sample_run) ≡ refused 15 1
unfolding
    visit visit_lawful breaking_from first_breaking first_short visit_list_check visits_check permit with_set
    sum_of every any keep least_from moving_cost string_lawful common_multiple multiple_of too_close out_of_order release_lawful
    unlawful_from
    first_unlawful count_check run_length_check strings_check multiple_check plan_check releases_check run_check
    string paying plan_of plan two release releases
own-refused = rw own-visits
