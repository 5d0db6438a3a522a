-- Document 01's worked plans by the quick verdict: one table, one statement. Each plan gets what the page says, but for the count of pairs:
-- only those at which a job count grows are left.
use Rattle.base.proofs.Prelude.{ℕ, ◌≡◌, refl, List, [], ◌∷◌, map}
use mathlib.Core.List.{flat_map}
use Rattle.rules.specs.{declared.Plan.Plan, Plan.{string_lawful, common_multiple, multiple_of, leeway_min, d_max}, Demand.{moving_cost, hold_of, jobs, blocker_hold, block_limit, need, demand, load, overloaded}, Verdict.{pairs_at, all_pairs, broken, compared, judged, verdict_over}, Search.{permit, with_set}, Refusal.{count_check, run_length_check, strings_check, multiple_check, set_check}, Said.{Said, refused, overload, fail, pass, asked_verdict_says}}
use Rattle.base.specs.Count.{sum_of, largest, smallest, smallest_with, every, any, keep, up_from, least_from, first_of}
use Rattle.rules.proofs.Worked.{string, paying, plan_of, plan, two, five, nine, ten}
use Rattle.demand.specs.Quick.{jobs_left, count_at, grows, quick_pairs, quick_set_answer}

pub record Row : Type 0 where
  pub plan : Plan
  pub set : ℕ
  pub said : Said

unfoldable pub row : Plan → ℕ → Said → Row
row p m a = record { plan = p; set = m; said = a }

unfoldable pub table : List Row
table =
    row two 1 (pass 7)  -- P1, of 39 pairs
    ∷ row two 3 (pass 7)  -- P2, of 44
    ∷ row two 0 (fail 5 3 6 4)  -- P3, of 8
    ∷ row five 2 (fail 6 4 7 5)  -- P5, of 10
    ∷ row nine 1 (overload 0)  -- P9
    ∷ row nine 0 (pass 1)  -- P9, of 3
    ∷ row ten 0 (pass 1)  -- P10, of 1
    ∷ row two 4 (refused 5 0)  -- two strings have no set 4
    ∷ []

pub worked : map (λ r. asked_verdict_says (quick_set_answer r.plan r.set)) table ≡ map (λ r. r.said) table
unfolding
    row table string paying plan_of plan two five nine ten flat_map
    sum_of largest smallest smallest_with every any keep up_from least_from first_of
    string_lawful common_multiple multiple_of leeway_min d_max
    moving_cost hold_of jobs blocker_hold block_limit need demand load overloaded
    pairs_at all_pairs broken compared judged verdict_over
    permit with_set count_check run_length_check strings_check multiple_check set_check
    jobs_left count_at grows quick_pairs quick_set_answer
worked = refl
