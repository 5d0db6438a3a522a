-- Equation 7 as printed, document 01's rule, the desk's and the next side by side: one table, one statement. Each row is a plan, what each
-- rule says of it at every interval, and what the run of a lawful list does.
--     P1                                 all four pass it, and nothing is late
--     P4's strings, nobody permitted     C and E fail it; by E − 1 it passes, and nothing is late: E is too strict
--     P5, with the releases of P6        by C it passes, and a job is late: equation 7 is too weak
--     (3,1,1) (3,2,3), A 0, set 0        by E − 2 it passes, and a job is late: a second day is too many
use Rattle.base.proofs.Prelude.{◌≡◌, refl, ap, Bool, false, List, [], ◌∷◌, map}
use Rattle.faults.specs.Checks.{Lawful, Checked}
use Rattle.rules.specs.{declared.Plan.Plan, declared.Release.Release, Said.{Said, miss, clean, asked_outcome_says}, Plan.{string_lawful, common_multiple, multiple_of, leeway_min, d_max}, Demand.{moving_cost, hold_of, jobs, need, demand, load, overloaded}, Search.{permit, with_set}, Release.{too_close, out_of_order, release_lawful, unlawful_from, first_unlawful}, Run.{chosen, late_at, new_slot, join_from, joined, holder, payer, taken, next_up, given, use_of, spent, morning, state_at, use_on, late_on, history, days_of, miss_day, run_of}, Refusal.{count_check, run_length_check, strings_check, multiple_check, plan_check, releases_check, run_check, run_answer}}
use Rattle.base.specs.Count.{All, sum_of, largest, smallest, smallest_with, every, count_of, up_from, least_from}
use Rattle.rules.proofs.Worked.{string, paying, plan_of, plan, release, releases, two, three, five}
use Rattle.laws.proofs.Lawful.{LawfulPlan, plan_check-lawful}
use Rattle.results.specs.{Blockers.{Blocker, work, hold_less, days_by, limit_by}, Rows.{Ruling, passes, fails, Truly, Row, Stands}}
use Rattle.results.proofs.Ruled.{keeps_at, keeps, ruling, ruling-true}

-- ---- The plans

unfoldable pub p1 : Plan
p1 = with_set two 1

unfoldable pub p5 : Plan
p5 = with_set five 2

unfoldable pub tight : Plan
tight = plan (string 3 1 1 ∷ string 3 2 3 ∷ []) 0 20

-- ---- The table

unfoldable pub row : Plan → List Release → Ruling → Ruling → Ruling → Ruling → Said → Row
row p rs c e e1 e2 said = record { plan = p; list = releases rs; by_c = c; by_e = e; by_e_1 = e1; by_e_2 = e2; run = said }

unfoldable pub table : List Row
table =
    -- C, E, E − 1, E − 2, and what really happens
    row p1 (release 0 2 5 ∷ release 1 1 3 ∷ []) passes passes passes passes (clean 8 1 11)
    ∷ row three (release 0 3 2 ∷ release 1 1 1 ∷ release 1 2 1 ∷ []) fails fails passes passes (clean 4 0 16)
    ∷ row p5 (release 0 3 2 ∷ release 1 2 1 ∷ release 2 1 3 ∷ []) passes fails fails fails (miss 8 1)
    ∷ row tight (release 0 2 2 ∷ release 1 1 1 ∷ []) fails fails fails passes (miss 2 1)
    ∷ []

-- ---- What computes

record Seen : Type 0 where
  checked : Checked
  heavy : Bool
  printed : Ruling
  whole : Ruling
  less_one : Ruling
  less_two : Ruling
  ran : Said

unfoldable seen : Row → Seen
seen r =
    record {
      checked = plan_check r.plan;
      heavy = overloaded r.plan;
      printed = ruling work r.plan;
      whole = ruling (hold_less 0) r.plan;
      less_one = ruling (hold_less 1) r.plan;
      less_two = ruling (hold_less 2) r.plan;
      ran = asked_outcome_says (run_answer r.plan r.list);
    }

unfoldable stated : Row → Seen
stated r =
    record {
      checked = Lawful;
      heavy = false;
      printed = r.by_c;
      whole = r.by_e;
      less_one = r.by_e_1;
      less_two = r.by_e_2;
      ran = r.run;
    }

computed : map seen table ≡ map stated table
unfolding
    seen stated row table p1 p5 tight string paying plan_of plan release releases two three five
    sum_of largest smallest smallest_with every count_of up_from least_from
    string_lawful common_multiple multiple_of leeway_min d_max moving_cost hold_of jobs need demand load overloaded permit with_set
    work hold_less days_by limit_by keeps_at keeps ruling
    too_close out_of_order release_lawful unlawful_from first_unlawful
    chosen late_at new_slot join_from joined holder payer taken next_up given use_of spent morning state_at use_on late_on history days_of
    miss_day
    run_of count_check run_length_check strings_check multiple_check plan_check releases_check run_check run_answer
computed = refl

-- ---- What it means

-- a ruling that was computed is true
truly : (h : Blocker) (p : Plan) (r : Ruling) → LawfulPlan p → overloaded p ≡ false → ruling h p ≡ r → Truly r h p
truly h p r ok light is = rw is at (ruling-true h p ok light)

stands : (r : Row) → seen r ≡ stated r → Stands r
unfolding seen stated
stands r e =
    let ok = plan_check-lawful r.plan (ap (λ s. s.checked) e) in
    let light = ap (λ s. s.heavy) e in
    record {
      printed = truly work r.plan r.by_c ok light (ap (λ s. s.printed) e);
      whole = truly (hold_less 0) r.plan r.by_e ok light (ap (λ s. s.whole) e);
      less_one = truly (hold_less 1) r.plan r.by_e_1 ok light (ap (λ s. s.less_one) e);
      less_two = truly (hold_less 2) r.plan r.by_e_2 ok light (ap (λ s. s.less_two) e);
      ran = ap (λ s. s.ran) e;
    }

each : (rows : List Row) → map seen rows ≡ map stated rows → All Stands rows
each [] e = tt
each (r ∷ rows) e =
    let here : seen r ≡ stated r = cc in
    let rest : map seen rows ≡ map stated rows = cc in
    (stands r here, each rows rest)

pub side_by_side : All Stands table
side_by_side = each table computed
