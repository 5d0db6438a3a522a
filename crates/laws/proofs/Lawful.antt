-- What the checks of a plan give where they find no fault.
use Rattle.base.proofs.Prelude.{ℕ, suc, ◌-◌, ◌%◌, ◌≤◌, ◌<◌, zero-le, ◌≡◌, true, false, not, ◌&&◌, List, [], ◌∷◌, arith, ltb-false, eqb-true, not-false, lt-ltb, le-ltb, eqb}
use Rattle.faults.specs.Checks.{Refused, Lawful}
use Rattle.rules.specs.{declared.BatteryString.BatteryString, declared.Plan.Plan, Plan.{strings_of, no_string, leeway, cost_lawful, string_lawful, common_multiple, multiple_of, d_max}, Demand.moving_cost, Refusal.{count_check, run_length_check, head_check, cost_check, strings_check, multiple_check, plan_check}}
use Rattle.faults.specs.declared.Fault.TheVariants.{StringCount, OutOfBounds, MultipleOver}
use Rattle.faults.specs.Checks.{in_bounds, then}
use Rattle.faults.proofs.Checks.{refused-not-lawful, then-first, then-second, refuse_if-not, in_bounds-low, in_bounds-high, in_bounds-yes, in_bounds-not}
use Rattle.base.proofs.{Lists.{All, all_map, all-of-every, largest-le, by_bool, and_left, and_right}, Least.{least_from-low, least_from-passes, least_from-before, least_from-unique, least_from-none}}
pub use Rattle.laws.specs.Lawful.{LawfulString, LawfulPlan, PlanString}

-- ---- n and N

pub record LawfulHead (n run : ℕ) : Type 0 where
  pub n_pos : 1 ≤ n
  pub n_max : n ≤ 10
  pub run_pos : 1 ≤ run
  pub run_max : run ≤ 1000000

-- what the check says does not depend on the place it reports at
module _ (at n run : ℕ) where
  pub head_check-lawful : head_check at n run ≡ Lawful → LawfulHead n run
  unfolding count_check run_length_check
  head_check-lawful h =
      let count = not-false _ (refuse_if-not _ _ _ (then-first (count_check at n) (run_length_check at run) h)) in
      let length = not-false _ (refuse_if-not _ _ _ (then-second (count_check at n) (run_length_check at run) h)) in
      record {
        n_pos = in_bounds-low 1 n 10 count;
        n_max = in_bounds-high 1 n 10 count;
        run_pos = in_bounds-low 1 run 1000000 length;
        run_max = in_bounds-high 1 run 1000000 length;
      }

  pub head_check-good : LawfulHead n run → head_check at n run ≡ Lawful
  unfolding count_check run_length_check
  head_check-good h = rw (in_bounds-yes 1 n 10 h.n_pos h.n_max, in_bounds-yes 1 run 1000000 h.run_pos h.run_max)

  pub head_check-count : (1 ≤ n → n ≤ 10 → ⊥) → head_check at n run ≡ Refused StringCount at
  unfolding count_check
  head_check-count out = rw (in_bounds-not 1 n 10 out)

  pub head_check-run : 1 ≤ n → n ≤ 10 → (1 ≤ run → run ≤ 1000000 → ⊥) → head_check at n run ≡ Refused OutOfBounds at
  unfolding count_check run_length_check
  head_check-run low high out = rw (in_bounds-yes 1 n 10 low high, in_bounds-not 1 run 1000000 out)

-- ---- A moving cost that is said for the whole plan

module _ (at a : ℕ) where
  cost_check-lawful : cost_check at a ≡ Lawful → a ≤ 1000
  unfolding cost_check
  cost_check-lawful h = in_bounds-high 0 a 1000 (not-false (cost_lawful a) (refuse_if-not (not (cost_lawful a)) OutOfBounds at h))

  pub cost_check-good : a ≤ 1000 → cost_check at a ≡ Lawful
  unfolding cost_check
  cost_check-good h = rw (in_bounds-yes 0 a 1000 zero-le h)

  pub cost_check-over : 1000 < a → cost_check at a ≡ Refused OutOfBounds at
  unfolding cost_check
  cost_check-over h = rw (in_bounds-not 0 a 1000 (λ low high. omega arith))

-- ---- A string

string_lawful-is : (s : BatteryString) → string_lawful s ≡ true → LawfulString s
unfolding string_lawful
string_lawful-is s h =
    let T = in_bounds 1 s.t.0 1000 in
    let D = in_bounds 1 s.d.0 s.t.0 in
    let J = in_bounds 0 s.j.0 (s.d.0 - 1) in
    let C = in_bounds 1 s.c.0 (leeway s) in
    let X = in_bounds 0 s.x 1 in
    let A = cost_lawful s.a.0 in
    let a = and_right (T && D && J && C && X) A h in
    let tdjcx = and_left (T && D && J && C && X) A h in
    let x = and_right (T && D && J && C) X tdjcx in
    let tdjc = and_left (T && D && J && C) X tdjcx in
    let c = and_right (T && D && J) C tdjc in
    let tdj = and_left (T && D && J) C tdjc in
    let j = and_right (T && D) J tdj in
    let td = and_left (T && D) J tdj in
    let d = and_right T D td in
    let t = and_left T D td in
    let low : 1 ≤ s.d.0 = in_bounds-low 1 s.d.0 s.t.0 d in
    let late : s.j.0 ≤ s.d.0 - 1 = in_bounds-high 0 s.j.0 (s.d.0 - 1) j in
    record {
      t_pos = in_bounds-low 1 s.t.0 1000 t;
      t_max = in_bounds-high 1 s.t.0 1000 t;
      d_pos = low;
      d_max = in_bounds-high 1 s.d.0 s.t.0 d;
      j_max = omega arith;
      c_pos = in_bounds-low 1 s.c.0 (leeway s) c;
      c_max = in_bounds-high 1 s.c.0 (leeway s) c;
      x_max = in_bounds-high 0 s.x 1 x;
      a_max = in_bounds-high 0 s.a.0 1000 a;
    }

pub string_lawful-yes : (s : BatteryString) → LawfulString s → string_lawful s ≡ true
unfolding string_lawful
string_lawful-yes s h =
    let below = h.j_max in
    let late : s.j.0 ≤ s.d.0 - 1 = omega arith in
    rw (
      in_bounds-yes 1 s.t.0 1000 h.t_pos h.t_max,
      in_bounds-yes 1 s.d.0 s.t.0 h.d_pos h.d_max,
      in_bounds-yes 0 s.j.0 (s.d.0 - 1) zero-le late,
      in_bounds-yes 1 s.c.0 (leeway s) h.c_pos h.c_max,
      in_bounds-yes 0 s.x 1 zero-le h.x_max,
      in_bounds-yes 0 s.a.0 1000 zero-le h.a_max,
    )

pub string_lawful-not : (s : BatteryString) → (LawfulString s → ⊥) → string_lawful s ≡ false
string_lawful-not s out = by_bool (string_lawful s) (λ t. absurd (out (string_lawful-is s t))) (λ e. e)

strings_check-all : (k : ℕ) (ss : List BatteryString) → strings_check k ss ≡ Lawful → All LawfulString ss
unfolding strings_check
strings_check-all k [] h = tt
strings_check-all k (s ∷ ss) h =
    by_bool (string_lawful s)
    (λ t. (string_lawful-is s t, strings_check-all (suc k) ss (rw t at h)))
    (λ e. absurd (refused-not-lawful OutOfBounds k (rw e at h)))

-- ---- A plan

pub plan-strings : (p : Plan) → LawfulPlan p → All (PlanString p) (strings_of p)
unfolding moving_cost
plan-strings p ok = all_map LawfulString (PlanString p) (λ s h. record { lawful = h; cost_max = h.a_max }) (strings_of p) ok.each

-- no D is over 1,000
pub d_max-le : (p : Plan) → LawfulPlan p → d_max p ≤ 1000
unfolding d_max
d_max-le p ok =
    largest-le (λ s. s.d.0) 1000 (strings_of p)
    (all_map LawfulString (λ s. s.d.0 ≤ 1000) (λ s h. omega (arith, h.d_max, h.t_max)) (strings_of p) ok.each)

-- where no string is, nothing is paid
pub no_string-cost : (p : Plan) → moving_cost p no_string ≤ 1000
unfolding moving_cost
no_string-cost p = omega arith

pub common_multiple-whole : (ss : List BatteryString) (h : ℕ) → common_multiple ss h ≡ true → All (λ s. h % s.t.0 ≡ 0) ss
unfolding common_multiple
common_multiple-whole ss h e =
    all_map (λ s. eqb (h % s.t.0) 0 ≡ true) (λ s. h % s.t.0 ≡ 0) (λ s t. eqb-true (h % s.t.0) 0 t) ss
    (all-of-every (λ s. eqb (h % s.t.0) 0) ss e)

pub multiple_of-pos : (p : Plan) → 1 ≤ multiple_of p
unfolding multiple_of
multiple_of-pos p = least_from-low (common_multiple (strings_of p)) 1 100000

pub multiple_of-common : (p : Plan) → multiple_of p ≤ 100000 → common_multiple (strings_of p) (multiple_of p) ≡ true
unfolding multiple_of
multiple_of-common p h = least_from-passes (common_multiple (strings_of p)) 1 100000 (omega arith)

pub multiple_of-least : (p : Plan) (k : ℕ) → 1 ≤ k → k < multiple_of p → common_multiple (strings_of p) k ≡ false
unfolding multiple_of
multiple_of-least p k h m = least_from-before (common_multiple (strings_of p)) 1 100000 k h m

-- a common multiple within the bound before which there is none is H; where there is none, 100,001 stands
pub multiple_of-found : (p : Plan) (h : ℕ) → 1 ≤ h → h ≤ 100000 → common_multiple (strings_of p) h ≡ true
    → ((k : ℕ) → 1 ≤ k → k < h → common_multiple (strings_of p) k ≡ false) → multiple_of p ≡ h
unfolding multiple_of
multiple_of-found p h low high t before = least_from-unique (common_multiple (strings_of p)) 1 100000 h low (omega arith) t before

pub multiple_of-over : (p : Plan) → ((k : ℕ) → 1 ≤ k → k < 100001 → common_multiple (strings_of p) k ≡ false) → multiple_of p ≡ 100001
unfolding multiple_of
multiple_of-over p before = least_from-none (common_multiple (strings_of p)) 1 100000 before

module _ (at : ℕ) (p : Plan) where
  pub multiple_check-good : multiple_of p ≤ 100000 → multiple_check at p ≡ Lawful
  unfolding multiple_check
  multiple_check-good h = rw (le-ltb 100000 (multiple_of p) h)

  pub multiple_check-bad : 100000 < multiple_of p → multiple_check at p ≡ Refused MultipleOver at
  unfolding multiple_check
  multiple_check-bad h = rw (lt-ltb 100000 (multiple_of p) h)

  pub multiple_check-small : multiple_check at p ≡ Lawful → multiple_of p ≤ 100000
  unfolding multiple_check
  multiple_check-small h = ltb-false 100000 (multiple_of p) (refuse_if-not _ _ _ h)

pub plan_check-lawful : (p : Plan) → plan_check p ≡ Lawful → LawfulPlan p
unfolding plan_check
plan_check-lawful p h =
    let heading = head_check 0 p.n p.run.0 in
    let strings = strings_check 1 (strings_of p) in
    let multiple = multiple_check 0 p in
    let head = head_check-lawful 0 p.n p.run.0 (then-first heading (then strings multiple) h) in
    let body = then-second heading (then strings multiple) h in
    let high = multiple_check-small 0 p (then-second strings multiple body) in
    record {
      n_pos = head.n_pos;
      n_max = head.n_max;
      run_pos = head.run_pos;
      run_max = head.run_max;
      each = strings_check-all 1 (strings_of p) (then-first strings multiple body);
      h_pos = multiple_of-pos p;
      h_max = high;
      h_whole = common_multiple-whole (strings_of p) (multiple_of p) (multiple_of-common p high);
      h_least = multiple_of-least p;
    }
