-- Another order of the strings leaves H, the limits, the demand, the load and the pairs as they were, and so the verdict, with its
-- interval, blocking, demand and pair count, and the quick one. No bound on the plan is needed for it; a lawful plan stays lawful.
use Rattle.base.proofs.Prelude.{ℕ, suc, ◌+◌, ◌-◌, ◌*◌, ◌/◌, ◌%◌, ◌≤◌, ◌≡◌, refl, sym, ap, ◌∙◌, fun_ext, ◌↔◌, cond, List, [], ◌∷◌, map, flat_map, Option, none, some, ltb, eqb, length}
use Rattle.faults.specs.Checks.{Lawful}
use Rattle.std.specs.Prelude.{Ok}
use mathlib.Core.Path.{ap₂}
use Rattle.days.specs.Days.{days}
use Rattle.base.specs.Count.{sum_of, largest, keep, up_from, least_from, first_of}
use Rattle.rules.specs.{declared.BatteryString.BatteryString, declared.Plan.Plan, declared.Verdict.TheVariants.{Overload, Fail}, Plan.{strings_of, leeway, common_multiple, multiple_of, leeway_min, d_max}, Demand.{moving_cost, hold_of, blocker_hold, block_limit, need, demand, Passes, load, overloaded}, Verdict.{Pair, pairs_at, all_pairs, broken, first_broken, broken_at, compared, judged, verdict_over, verdict_of}, Refusal.{plan_check, verdict_answer, break_answer}}
use Rattle.laws.specs.Lawful.{LawfulString, LawfulPlan}
use Rattle.laws.proofs.{Lawful.{multiple_of-pos, multiple_of-common, multiple_of-least, common_multiple-whole, plan_check-lawful}, LawfulChecked.lawful-checked, Answers.{verdict-lawful, break-lawful}}
use Rattle.demand.proofs.Pairs.{pair}
use Rattle.demand.specs.Quick.{count_at, grows, quick_pairs, quick_of, quick_answer}
use Rattle.demand.proofs.Answers.{quick-lawful}
use Rattle.results.specs.Order.{Reordered}
use Rattle.results.proofs.Permuted.{permuted-back, all-permuted, sum_of-permuted, largest-permuted, smallest-permuted, every-permuted, any-permuted}

pub reordered-back : (p q : Plan) → Reordered p q → Reordered q p
reordered-back p q r = record { same_n = sym r.same_n; strings = permuted-back r.strings }

module _ (p q : Plan) (r : Reordered p q) where
  -- ---- H and the limits

  pub same-multiple : multiple_of q ≡ multiple_of p
  unfolding multiple_of common_multiple
  same-multiple =
      let each : common_multiple (strings_of q) ≡ common_multiple (strings_of p) =
      fun_ext (λ h. every-permuted (λ (s : BatteryString). eqb (h % s.t.0) 0) r.strings) in
      ap (λ f. least_from f 1 100000) each

  same-leeway_min : leeway_min q ≡ leeway_min p
  unfolding leeway_min
  same-leeway_min = smallest-permuted leeway r.strings

  same-d_max : d_max q ≡ d_max p
  unfolding d_max
  same-d_max = largest-permuted (λ (s : BatteryString). s.d.0) r.strings

  same-blocker : (l : ℕ) → largest (blocker_hold q l) (strings_of q) ≡ largest (blocker_hold p l) (strings_of p)
  unfolding blocker_hold hold_of moving_cost
  same-blocker l = largest-permuted (blocker_hold p l) r.strings

  same-limit : (l : ℕ) → block_limit q l ≡ block_limit p l
  unfolding block_limit
  same-limit l = rw (same-leeway_min, same-d_max, same-blocker l)

  -- ---- The demand and the load

  same-demand : (l b : ℕ) → demand q l b ≡ demand p l b
  unfolding demand need hold_of moving_cost
  same-demand l b = ap (λ n. b + n) (sum_of-permuted (need p l b) r.strings)

  pub same_load : load q ≡ load p
  unfolding load hold_of moving_cost
  same_load =
      ap (λ h. sum_of (λ (s : BatteryString). hold_of q s * (h / s.t.0)) (strings_of q)) same-multiple
      ∙ sum_of-permuted (λ (s : BatteryString). hold_of p s * (multiple_of p / s.t.0)) r.strings

  same-overloaded : overloaded q ≡ overloaded p
  unfolding overloaded
  same-overloaded = ap₂ ltb same-multiple same_load

  -- the rule, at every interval
  passes-reordered : Passes p → Passes q
  passes-reordered rule l b pos limit = rw (same-demand l b) (rule l b pos (rw (same-limit l) at limit))

  -- ---- The pairs

  same_row : (l : ℕ) → pairs_at q l ≡ pairs_at p l
  unfolding pairs_at
  same_row l = ap (λ limit. map (pair l) (up_from 0 (suc limit))) (same-limit l)

  same-pairs : all_pairs q ≡ all_pairs p
  unfolding all_pairs
  same-pairs =
      let row : pairs_at q ≡ pairs_at p = fun_ext same_row in
      let last : d_max q + multiple_of q - 1 ≡ d_max p + multiple_of p - 1 = ap₂ (λ d h. d + h - 1) same-d_max same-multiple in
      ap₂ (λ f k. flat_map f (up_from 1 k)) row last

  same-broken : (x : Pair) → broken q x ≡ broken p x
  unfolding broken
  same-broken x = ap (ltb x.l) (same-demand x.l x.b)

  same_first : (xs : List Pair) → first_broken q xs ≡ first_broken p xs
  same_first xs =
      let each : broken q ≡ broken p = fun_ext same-broken in
      ap (λ f. first_of f xs) each

  same-compared : (xs : List Pair) → compared q xs ≡ compared p xs
  unfolding compared
  same-compared [] = refl
  same-compared (x ∷ xs) = rw (same-broken x, same-compared xs)

  -- ---- The verdict

  same-judged : (first : Option Pair) (k : ℕ) → judged q first k ≡ judged p first k
  unfolding judged
  same-judged none k = refl
  same-judged (some x) k = ap (λ d. Fail (days x.l) (days x.b) (days d) k) (same-demand x.l x.b)

  -- by any list of pairs
  same_over : (xs : List Pair) → verdict_over q xs ≡ verdict_over p xs
  unfolding verdict_over
  same_over xs =
      let rule : judged q (first_broken q xs) (length (compared q xs)) ≡ judged p (first_broken p xs) (length (compared p xs)) =
      same-judged (first_broken q xs) (length (compared q xs))
      ∙ ap₂ (λ first qs. judged p first (length qs)) (same_first xs) (same-compared xs) in
      ap₂ (λ heavy v. cond heavy Overload v) same-overloaded rule

  -- the verdict, with interval, blocking, demand and pair count
  pub same-verdict : verdict_of q ≡ verdict_of p
  same-verdict = ap (verdict_over q) same-pairs ∙ same_over (all_pairs p)

  -- ---- The quick verdict

  same_grows : (x : Pair) → grows q x ≡ grows p x
  unfolding grows
  same_grows x = any-permuted (λ (s : BatteryString). ltb (count_at s (x.l - 1) x.b) (count_at s x.l x.b)) r.strings

  same-quick-pairs : quick_pairs q ≡ quick_pairs p
  unfolding quick_pairs
  same-quick-pairs =
      let each : grows q ≡ grows p = fun_ext same_grows in
      ap₂ (λ f xs. keep f xs) each same-pairs

  pub same-quick : quick_of q ≡ quick_of p
  same-quick = ap (verdict_over q) same-quick-pairs ∙ same_over (quick_pairs p)

  -- ---- Lawful, and the answers

  lawful-reordered : LawfulPlan p → q.run ≡ p.run → LawfulPlan q
  lawful-reordered ok same_run =
      let low : multiple_of q ≤ 100000 = rw same-multiple ok.h_max in
      record {
        n_pos = rw r.same_n ok.n_pos;
        n_max = rw r.same_n ok.n_max;
        run_pos = rw same_run ok.run_pos;
        run_max = rw same_run ok.run_max;
        each = all-permuted LawfulString r.strings ok.each;
        h_pos = multiple_of-pos q;
        h_max = low;
        h_whole = common_multiple-whole (strings_of q) (multiple_of q) (multiple_of-common q low);
        h_least = multiple_of-least q;
      }

  checked-reordered : q.run ≡ p.run → plan_check p ≡ Lawful → plan_check q ≡ Lawful
  checked-reordered same_run h = lawful-checked q (lawful-reordered (plan_check-lawful p h) same_run)

  module _ (ok : plan_check p ≡ Lawful) (also : plan_check q ≡ Lawful) where
    pub same_answer : verdict_answer q ≡ verdict_answer p
    same_answer = verdict-lawful q also ∙ ap Ok same-verdict ∙ sym (verdict-lawful p ok)

    pub same-break-answer : break_answer q ≡ break_answer p
    same-break-answer =
        let found : first_broken q (all_pairs q) ≡ first_broken p (all_pairs p) = ap (first_broken q) same-pairs
        ∙ same_first (all_pairs p) in
        break-lawful q also ∙ ap (λ b. Ok (broken_at b)) found ∙ sym (break-lawful p ok)

    pub same-quick-answer : quick_answer q ≡ quick_answer p
    same-quick-answer = quick-lawful q also ∙ ap Ok same-quick ∙ sym (quick-lawful p ok)

-- both ways
pub passes-in-any-order : (p q : Plan) → Reordered p q → Passes p ↔ Passes q
passes-in-any-order p q r = (passes-reordered p q r, passes-reordered q p (reordered-back p q r))

-- N plays no part in a verdict, but it has bounds of its own
pub lawful-in-any-order : (p q : Plan) → Reordered p q → q.run ≡ p.run → (plan_check p ≡ Lawful) ↔ (plan_check q ≡ Lawful)
lawful-in-any-order p q r same_run = (checked-reordered p q r same_run, checked-reordered q p (reordered-back p q r) (sym same_run))
