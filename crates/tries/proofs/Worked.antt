-- Plans and what is answered for each: one table, one statement.
use Rattle.base.proofs.Prelude.{ℕ, ◌≡◌, refl, List, [], ◌∷◌, map}
use mathlib.Core.List.{flat_map}
use Rattle.std.specs.Prelude.{Result, Ok}
use Rattle.faults.specs.declared.Refusal.{Refusal}
use Rattle.days.specs.Days.{days}
use Rattle.rules.specs.{declared.Plan.Plan, declared.Release.Release, Plan.{string_lawful, common_multiple, multiple_of, leeway_min, d_max, with_run}, Demand.{moving_cost, hold_of, jobs, blocker_hold, block_limit, need, demand, load, overloaded}, Verdict.{pairs_at, all_pairs, broken, compared, judged, verdict_over, is_pass}, Search.{permit, with_set}, Release.{too_close, out_of_order, release_lawful, unlawful_from, first_unlawful}, Run.{chosen, late_at, new_slot, join_from, joined, holder, payer, taken, next_up, given, use_of, spent, morning, state_at, use_on, late_on, history, days_of, miss_day, run_of}, Refusal.{count_check, run_length_check, strings_check, multiple_check, plan_check, releases_check, run_check, run_answer}}
use Rattle.base.specs.Count.{sum_of, largest, smallest, smallest_with, every, any, keep, count_of, up_from, least_from, first_of}
use Rattle.rules.proofs.Worked.{string, paying, opening, plan_of, plan, release, release_due, two, five}
use Rattle.exact.proofs.Worked.{opening_late, late_and_full, spared}
use Rattle.sound.specs.Sharp.{need_but, demand_but}
use Rattle.exact.specs.Missing.{most_late, blocker_release, delay_of, due_coming, comes_in, comes_first, releases_in, others_in}
use Rattle.charging.specs.Payable.{can_lose, chargeable, costs_where, rounds, payable}
use Rattle.tries.specs.{declared.Missing.TheVariants.{Passes, Never, Found}, declared.Missing.Missing, Tries.{longest_block, all_breaks, is_broken, sharp_break, passes_payably, list_of, stopped_tries, paid_tries, tries, packed, is_miss, misses_on, found, missing_of, missing_answer}}

-- the first string takes the bank from the second, pays two days and is late
unfoldable pub dear : Plan
dear = plan (string 10 2 3 ∷ string 10 5 10 ∷ []) 2 20

-- one string, which never takes the bank from anybody; the rule counts the moving cost all the same
unfoldable pub alone : Plan
alone = plan (string 10 5 10 ∷ []) 6 20

-- the second string takes the bank from the first after three days, and both it and the third want the same days
unfoldable pub later : Plan
later = plan (string 20 5 17 ∷ string 15 1 4 ∷ string 8 2 7 ∷ []) 2 40

pub record Row : Type 0 where
  pub plan : Plan
  pub said : Result Missing Refusal

unfoldable pub row : Plan → Result Missing Refusal → Row
row p a = record { plan = p; said = a }

unfoldable pub shown : ℕ → List Release → Result Missing Refusal
shown n rs = Ok (Found (days n) (packed rs))

unfoldable pub table : List Row
table =
    row (with_set two 1) (Ok Passes)  -- P1
    ∷ row two (shown 20 (release 0 2 4 ∷ release 1 1 3 ∷ []))  -- P3: the list of the theorem
    ∷ row (with_run two 3) (shown 6 (release 0 2 4 ∷ release 1 1 3 ∷ []))  -- N is raised
    ∷ row (with_set dear 1) (shown 20 (release 0 2 5 ∷ release 1 1 2 ∷ []))
    ∷ row (with_set later 2) (shown 40 (release 0 1 5 ∷ release 1 3 2 ∷ release 4 2 1 ∷ []))
    ∷ row (with_set five 2) (shown 20 (release 0 3 2 ∷ release 1 2 1 ∷ release 2 1 3 ∷ []))  -- P6
    ∷ row (with_set alone 1) (Ok Never)
    ∷ row opening_late (shown 20 (release 1 2 2 ∷ release_due 1 2 1 1 ∷ []))  -- the theorem's list, late where that hurts
    ∷ row late_and_full (shown 20 (release 2 2 2 ∷ release_due 1 3 1 2 ∷ []))
    ∷ row spared (Ok Never)  -- fails by the rule, and passes sharply
    ∷ []

pub answers : map (λ r. missing_answer r.plan) table ≡ map (λ r. r.said) table
unfolding
    dear alone later opening_late late_and_full spared row shown table string paying opening plan_of plan release release_due two five
    flat_map sum_of largest smallest smallest_with every any keep count_of up_from least_from first_of
    string_lawful common_multiple multiple_of leeway_min d_max
    moving_cost hold_of jobs blocker_hold block_limit need demand load overloaded
    pairs_at all_pairs broken compared judged verdict_over is_pass
    permit with_set
    too_close out_of_order release_lawful unlawful_from first_unlawful
    chosen late_at new_slot join_from joined holder payer taken next_up given use_of spent morning state_at use_on late_on history days_of
    miss_day
    run_of
    count_check run_length_check strings_check multiple_check plan_check releases_check run_check run_answer
    need_but demand_but most_late blocker_release delay_of due_coming comes_in comes_first releases_in others_in
    can_lose chargeable costs_where rounds payable longest_block all_breaks is_broken sharp_break passes_payably
    list_of stopped_tries paid_tries tries is_miss misses_on found missing_of missing_answer
answers = refl
