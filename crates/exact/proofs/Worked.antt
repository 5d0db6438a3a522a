-- Plans at a place where the sharp rule breaks with free moving, the list there and the miss that it ends with: one table, one statement
-- each. And a plan that fails by the rule and passes sharply: it can never miss.
use Rattle.base.proofs.Prelude.{ℕ, zero, suc, ◌+◌, ◌≤◌, ◌<◌, ◌≡◌, refl, List, [], ◌∷◌, map, true, false, arith, leb-true, leb, zero-le}
use mathlib.Core.List.{flat_map}
use Rattle.days.specs.Days.{days}
use Rattle.rules.specs.{declared.Plan.Plan, declared.Release.Release, declared.Verdict.TheVariants.Fail, Plan.{string_lawful, common_multiple, multiple_of, leeway_min, d_max}, Demand.{moving_cost, hold_of, jobs, blocker_hold, block_limit, need, demand, load, overloaded}, Verdict.{pairs_at, all_pairs, broken, compared, judged, verdict_over, verdict_of}, Search.{permit, with_set}, Run.{chosen, late_at, new_slot, join_from, joined, holder, payer, taken, next_up, given, use_of, spent, morning, state_at, use_on, late_on, history, days_of, miss_day, run_of}, Refusal.{count_check, run_length_check, strings_check, multiple_check, plan_check}, Said.{Said, miss, outcome_says}}
use Rattle.base.specs.Count.{any, every, keep, up_from, least_from, first_of, sum_of, largest, smallest, smallest_with}
use Rattle.base.proofs.{Lists.all-of-every, Order.each-of-up_from}
use Rattle.laws.proofs.Lawful.{LawfulPlan, plan_check-lawful}
use Rattle.demand.proofs.Range.{range-suffices-for}
use Rattle.sound.specs.Sharp.{need_but, demand_but, CanBlock, SharplyPasses}
use Rattle.rules.proofs.Worked.{string, paying, opening, plan_of, plan, release, release_due, two}
use Rattle.exact.specs.Missing.{most_late, blocker_release, delay_of, due_coming, comes_in, comes_first, releases_in, others_in, missing, NeverMisses}
use Rattle.exact.proofs.Exact.{sharply-never}

-- the second string can hold the bank when the first comes
unfoldable pub tight_plan : Plan
tight_plan = plan (string 3 1 1 ∷ string 3 2 3 ∷ []) 0 20

-- more work than days
unfoldable pub full : Plan
full = plan (string 2 2 2 ∷ string 2 1 2 ∷ []) 1 20

-- a taker, a string that is due soon, and one that can block
unfoldable pub mixed : Plan
mixed = plan (string 10 3 3 ∷ string 10 1 2 ∷ string 10 4 10 ∷ []) 1 20

-- the first string opens up to a day late, and then has a day for its work
unfoldable pub opening_late : Plan
opening_late = plan (opening 1 (string 3 1 2) ∷ string 4 2 4 ∷ []) 0 20

-- the first string opens two days late, and the two have five days of work in four
unfoldable pub late_and_full : Plan
late_and_full = plan (opening 2 (string 4 2 4) ∷ string 5 3 4 ∷ []) 0 20

pub record Row : Type 0 where
  pub plan : Plan
  pub l : ℕ
  pub b : ℕ
  pub q : ℕ
  pub list : List Release
  pub said : Said

unfoldable pub row : Plan → ℕ → ℕ → ℕ → List Release → Said → Row
row p l b q rs a = record { plan = p; l = l; b = b; q = q; list = rs; said = a }

unfoldable pub table : List Row
table =
    row tight_plan 1 1 2 (release 0 2 2 ∷ release 1 1 1 ∷ []) (miss 2 1)
    ∷ row two 5 3 2 (release 0 2 4 ∷ release 1 1 3 ∷ []) (miss 6 1)  -- P3's fail
    ∷ row full 2 0 0 (release 0 1 2 ∷ release 0 2 1 ∷ []) (miss 2 2)
    ∷ row (with_set mixed 1) 4 1 3 (release 0 3 2 ∷ release 1 2 1 ∷ release 2 1 3 ∷ []) (miss 5 1)
    ∷ row opening_late 1 1 2 (release 1 2 2 ∷ release_due 1 2 1 1 ∷ []) (miss 3 1)
    ∷ row late_and_full 4 0 0 (release_due 0 2 1 2 ∷ release 2 2 3 ∷ []) (miss 6 2)
    ∷ []

pub lists : map (λ r. missing r.plan r.l r.b r.q) table ≡ map (λ r. r.list) table
unfolding
    tight_plan full mixed opening_late late_and_full row table string paying opening plan_of plan release release_due two
    flat_map any keep up_from largest permit with_set
    most_late blocker_release delay_of due_coming comes_in comes_first releases_in others_in missing
lists = refl

runs : map (λ r. outcome_says (run_of r.plan r.list)) table ≡ map (λ r. r.said) table
unfolding
    tight_plan full mixed opening_late late_and_full row table string paying opening plan_of plan release release_due two least_from
    permit with_set
    moving_cost
    chosen late_at new_slot join_from joined holder payer taken next_up given use_of spent morning state_at use_on late_on history days_of
    miss_day
    run_of
runs = refl

-- ---- Fails by the rule, and can never miss

-- the second string opens up to two days late: the rule counts a job of it and lets it block at once
unfoldable pub spared : Plan
spared = plan (string 5 1 4 ∷ opening 2 (string 4 2 4) ∷ []) 0 20

pub spared-fails : verdict_of spared ≡ Fail (days 2) (days 1) (days 3) 3
unfolding
    spared string paying opening plan_of plan flat_map up_from least_from first_of every sum_of largest smallest smallest_with
    common_multiple multiple_of leeway_min d_max moving_cost hold_of jobs blocker_hold block_limit need demand load overloaded
    pairs_at all_pairs broken compared judged verdict_over
spared-fails = refl

spared-lawful : LawfulPlan spared
unfolding
    spared string paying opening plan_of plan up_from least_from every
    string_lawful common_multiple multiple_of count_check run_length_check strings_check multiple_check plan_check
spared-lawful = plan_check-lawful spared refl

spared-light : overloaded spared ≡ false
unfolding
    spared string paying opening plan_of plan up_from least_from every sum_of common_multiple multiple_of moving_cost hold_of load
    overloaded
spared-light = refl

-- the intervals up to Dmax + H − 1, with no blocking, and those shorter than the second string's D, with that string blocking for a day
spared-end : d_max spared + multiple_of spared ≡ 24
unfolding spared string paying opening plan_of plan up_from least_from every largest common_multiple multiple_of d_max
spared-end = refl

spared-alone : every (λ l. leb (demand spared l 0) l) (up_from 1 23) ≡ true
unfolding spared string paying opening plan_of plan up_from every sum_of moving_cost hold_of jobs need demand
spared-alone = refl

spared-blocked : every (λ l. leb (demand_but spared l 1 2) l) (up_from 1 3) ≡ true
unfolding spared string paying opening plan_of plan up_from every sum_of moving_cost hold_of jobs need need_but demand_but
spared-blocked = refl

spared-within : (l b q : ℕ) → CanBlock spared l b q → (l < 4) × (b ≡ 1) × (q ≡ 2)
unfolding spared string paying opening plan_of plan moving_cost hold_of
spared-within l b zero can = absurd (omega (arith, can.low))
spared-within l b (suc zero) can =
    let less : b < 1 = can.less in
    absurd (omega (arith, can.some))
spared-within l b (suc (suc zero)) can =
    let far : l < 4 = can.far in
    let less : b < 2 = can.less in
    (far, omega (arith, can.some), refl)
spared-within l b (suc (suc (suc q))) can =
    let high : suc (suc (suc q)) ≤ 2 = can.high in
    absurd (omega arith)

-- what is computed of each of the intervals from 1 on holds of each
each-interval : (f : ℕ → ℕ) (n : ℕ) → every (λ l. leb (f l) l) (up_from 1 n) ≡ true → (l : ℕ) → 1 ≤ l → l < 1 + n → f l ≤ l
each-interval f n all l low high =
    leb-true (f l) l
    (each-of-up_from (λ l. leb (f l) l ≡ true) 1 n (all-of-every (λ l. leb (f l) l) (up_from 1 n) all) l low high)

pub spared-sharp : SharplyPasses spared
spared-sharp =
    record {
      unblocked = λ l pos.
          range-suffices-for spared spared-lawful (λ k. 0) (λ k late. refl) spared-light
          (λ k b low inside none.
          rw (nothing b none) (each-interval (λ l. demand spared l 0) 23 spared-alone k low (omega (arith, spared-end))))
          l 0 pos zero-le;
      blocked = λ l b q can.
          let within = spared-within l b q can in
          let pos : 1 ≤ l = omega (arith, can.some, can.within) in
          let asked = each-interval (λ l. demand_but spared l 1 2) 3 spared-blocked l pos (omega (arith, within.0)) in
          rw (within.1, within.2) asked;
    }
  where
    nothing : (b : ℕ) → b ≤ 0 → b ≡ 0
    nothing b h = omega arith

pub spared-never : NeverMisses spared
spared-never = sharply-never spared spared-lawful spared-sharp
