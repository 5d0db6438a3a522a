-- Plans with the moving that their strings may be charged, after one round and in the payable plan, and the verdicts on the plan and on its
-- payable plan: one table, one statement. P9 with set 1 fails and never misses; and where a string can just be charged it is.
use Rattle.base.proofs.Prelude.{ℕ, ◌≡◌, refl, List, [], ◌∷◌, map}
use mathlib.Core.List.{flat_map}
use Rattle.base.specs.Count.{sum_of, largest, smallest, smallest_with, every, any, up_from, least_from, first_of}
use Rattle.rules.specs.{declared.Plan.Plan, Plan.{strings_of, string_lawful, common_multiple, multiple_of, leeway_min, d_max}, Demand.{moving_cost, hold_of, jobs, blocker_hold, block_limit, need, demand, load, overloaded}, Verdict.{pairs_at, all_pairs, broken, compared, judged, verdict_over, verdict_of, is_pass}, Search.{permit, with_set}, Run.{chosen, new_slot, join_from, joined, holder, payer, taken, next_up, given, spent, morning, state_at}, Refusal.{count_check, run_length_check, strings_check, multiple_check, plan_check}, Said.{Said, overload, fail, pass, verdict_says}}
use Rattle.rules.proofs.Worked.{string, paying, opening, plan_of, plan, release, two, nine}
use Rattle.laws.proofs.Lawful.{plan_check-lawful}
use Rattle.sound.specs.Served.{payer_in, payer_on}
use Rattle.exact.specs.Missing.{NeverMisses}
use Rattle.charging.specs.Payable.{can_lose, chargeable, costs_where, uncharged, rounds, payable}
use Rattle.charging.proofs.Payable.{pass-payable-never-misses}

-- only its moving lets the second string hold the bank for two days, and nobody can charge it
unfoldable pub second-round : Plan
second-round = plan_of (paying 2 (string 3 2 3) ∷ paying 1 (string 6 1 5) ∷ []) 20

-- the second string is due two days later than the first at the least
unfoldable pub just-charged : Plan
just-charged = plan (string 10 2 4 ∷ string 10 2 6 ∷ []) 1 20

-- a day sooner; or with a day of work only
unfoldable pub due-a-day-sooner : Plan
due-a-day-sooner = plan (string 10 2 4 ∷ string 10 2 5 ∷ []) 1 20

unfoldable pub works-a-day : Plan
works-a-day = plan (string 10 2 4 ∷ string 10 1 6 ∷ []) 1 20

-- the first string may come a day late
unfoldable pub late-by-a-day : Plan
late-by-a-day = plan (opening 1 (string 10 2 4) ∷ string 10 2 5 ∷ []) 1 20

-- a string cannot take the bank from itself
unfoldable pub late-alone : Plan
late-alone = plan (opening 2 (string 10 2 4) ∷ []) 1 20

unfoldable pub costs : Plan → List ℕ
costs p = map (λ s. s.a.0) (strings_of p)

pub record Row : Type 0 where
  pub plan : Plan
  pub once : List ℕ
  pub all : List ℕ
  pub said : Said
  pub payably : Said

unfoldable pub row : Plan → ℕ → List ℕ → List ℕ → Said → Said → Row
row p m once all a b = record { plan = with_set p m; once = once; all = all; said = a; payably = b }

unfoldable pub answered : Row → Row
answered r =
    record {
      plan = r.plan;
      once = costs (uncharged r.plan);
      all = costs (payable r.plan);
      said = verdict_says (verdict_of r.plan);
      payably = verdict_says (verdict_of (payable r.plan));
    }

unfoldable pub table : List Row
table =
    row nine 1 (0 ∷ []) (0 ∷ []) (overload 0) (pass 3)  -- P9
    ∷ row two 1 (1 ∷ 0 ∷ []) (1 ∷ 0 ∷ []) (pass 39) (pass 39)  -- P1
    ∷ row second-round 3 (2 ∷ 0 ∷ []) (0 ∷ 0 ∷ []) (overload 0) (pass 10)
    ∷ row just-charged 1 (1 ∷ 0 ∷ []) (1 ∷ 0 ∷ []) (pass 17) (pass 17)
    ∷ row due-a-day-sooner 1 (0 ∷ 0 ∷ []) (0 ∷ 0 ∷ []) (pass 15) (pass 15)
    ∷ row works-a-day 1 (0 ∷ 0 ∷ []) (0 ∷ 0 ∷ []) (pass 15) (pass 15)
    ∷ row late-by-a-day 1 (1 ∷ 0 ∷ []) (1 ∷ 0 ∷ []) (pass 17) (pass 17)
    ∷ row late-alone 1 (0 ∷ []) (0 ∷ []) (fail 2 0 3 2) (pass 15)
    ∷ []

pub worked : map answered table ≡ table
unfolding
    answered row table costs string paying opening plan_of plan two nine second-round just-charged due-a-day-sooner works-a-day
    late-by-a-day late-alone flat_map
    sum_of largest smallest smallest_with every any up_from least_from first_of
    common_multiple multiple_of leeway_min d_max
    moving_cost hold_of jobs blocker_hold block_limit need demand load overloaded
    pairs_at all_pairs broken compared judged verdict_over
    permit with_set
    can_lose chargeable costs_where rounds payable
worked = refl

-- P9 with set 1 is an overload, and no lawful release list misses
pub nine-never-misses : NeverMisses (with_set nine 1)
unfolding
    string paying plan_of plan nine flat_map
    sum_of largest smallest smallest_with every any up_from least_from first_of
    string_lawful common_multiple multiple_of leeway_min d_max
    moving_cost hold_of jobs blocker_hold block_limit need demand load overloaded
    pairs_at all_pairs broken compared judged verdict_over is_pass
    permit with_set count_check run_length_check strings_check multiple_check plan_check
    can_lose chargeable costs_where rounds payable
nine-never-misses = pass-payable-never-misses (with_set nine 1) (plan_check-lawful (with_set nine 1) refl) refl

-- two days later and two days of work are enough: on day 1 the first string pays
pub just-charged-pays : payer_on (with_set just-charged 1) (release 0 2 2 ∷ release 1 1 2 ∷ []) 1 ≡ 1
unfolding
    string paying plan_of plan release just-charged permit with_set moving_cost
    chosen new_slot join_from joined holder payer taken next_up given spent morning state_at payer_in payer_on
just-charged-pays = refl
