-- Laws of E, of what a string asks, and of the blocking limit. Everything above cites these and not the definitions.
use Rattle.base.proofs.Prelude.{ℕ, suc, ◌+◌, ◌-◌, ◌*◌, ◌≤◌, ◌<◌, min, ◌≡◌, sym, ap, ◌∙◌, ◌&&◌, arith, dec_le, ℕ_discrete, mul-zero, mul-le-mul, lt-ltb, le-ltb, le-leb, lt-leb, eq-eqb, ne_eqb, leb, ltb}
use native.Mathlib.Nat.{mul-one}
use Rattle.rules.specs.{declared.BatteryString.BatteryString, declared.Plan.Plan, Plan.{strings_of, leeway_min, d_max}, Demand.{moving_cost, hold_of, jobs, blocker_hold, block_limit, need}}
use Rattle.base.specs.Count.{largest}
use Rattle.base.proofs.Lists.{by_bool}
use Rattle.laws.proofs.Lawful.{PlanString}

-- ---- E, the longest that a job holds the bank

pub hold_of-work : (p : Plan) (s : BatteryString) → s.c.0 ≤ hold_of p s
unfolding hold_of
hold_of-work p s = omega arith

pub hold_of-le : (p : Plan) (s : BatteryString) → PlanString p s → hold_of p s ≤ 2000
unfolding hold_of
hold_of-le p s ok =
    let string = ok.lawful in
    omega (arith, mul-le-mul ok.cost_max string.x_max, string.c_max, string.d_max, string.t_max)

-- a string that may take the bank
pub hold_of-taker : (p : Plan) (s : BatteryString) → s.x ≡ 1 → hold_of p s ≡ s.c.0 + moving_cost p s
unfolding hold_of
hold_of-taker p s h = rw h (omega (arith, mul-one (moving_cost p s)))

-- and one that may not
pub hold_of-other : (p : Plan) (s : BatteryString) → s.x ≡ 0 → hold_of p s ≡ s.c.0
unfolding hold_of
hold_of-other p s h = rw h (omega (arith, mul-zero (moving_cost p s)))

-- ---- What a string asks

pub need-taker : (p : Plan) (l b : ℕ) (s : BatteryString) → s.x ≡ 1 → need p l b s ≡ jobs s (l - b) * hold_of p s
unfolding need
need-taker p l b s e = rw (eq-eqb s.x 1 e)

pub need-keeper : (p : Plan) (l b : ℕ) (s : BatteryString) → (s.x ≡ 1 → ⊥) → need p l b s ≡ jobs s l * s.c.0
unfolding need
need-keeper p l b s e = rw (ne_eqb s.x 1 e)

pub need-unblocked : (p : Plan) (l : ℕ) (s : BatteryString) → s.x ≤ 1 → need p l 0 s ≡ jobs s l * hold_of p s
need-unblocked p l s h =
    let all-days : l - 0 ≡ l = omega arith in
    elim (ℕ_discrete s.x 1) [
      | yes e ↦ need-taker p l 0 s e ∙ ap (λ w. jobs s w * hold_of p s) all-days
      | no e ↦
          let kept : s.x ≡ 0 = omega arith in
          need-keeper p l 0 s e ∙ ap (λ c. jobs s l * c) (sym (hold_of-other p s kept))
    ]

-- ---- The blocking limit

-- before the smallest D − J nothing blocks
pub block_limit-early : (p : Plan) (l : ℕ) → l < leeway_min p → block_limit p l ≡ 0
unfolding block_limit
block_limit-early p l h = rw (lt-leb (leeway_min p) l h)

-- from the largest D on nothing blocks
pub block_limit-late : (p : Plan) (l : ℕ) → d_max p ≤ l → block_limit p l ≡ 0
unfolding block_limit
block_limit-late p l h =
    let late = le-ltb l (d_max p) h in
    by_bool (leb (leeway_min p) l) (λ t. rw (t, late)) (λ e. rw e)

-- it is never above the interval
pub block_limit-interval : (p : Plan) (l : ℕ) → block_limit p l ≤ l
unfolding block_limit
block_limit-interval p l = by_bool (leb (leeway_min p) l && ltb l (d_max p)) (λ t. rw t (omega arith)) (λ e. rw e (omega arith))

-- and between the smallest D − J and the largest D the longest blocker decides
pub block_limit-between : (p : Plan) (l : ℕ) → leeway_min p ≤ l → l < d_max p
    → block_limit p l ≡ min l (largest (blocker_hold p l) (strings_of p))
unfolding block_limit
block_limit-between p l h k = rw (le-leb (leeway_min p) l h, lt-ltb l (d_max p) k)

pub blocker_hold-early : (p : Plan) (l : ℕ) (s : BatteryString) → l < s.d.0 → blocker_hold p l s ≡ hold_of p s - 1
unfolding blocker_hold
blocker_hold-early p l s h = rw (lt-ltb l s.d.0 h)

pub blocker_hold-late : (p : Plan) (l : ℕ) (s : BatteryString) → s.d.0 ≤ l → blocker_hold p l s ≡ 0
unfolding blocker_hold
blocker_hold-late p l s h = rw (le-ltb l s.d.0 h)

-- what is left of a job that has already worked a day
pub blocker_hold-hold : (p : Plan) (l : ℕ) (s : BatteryString) → l < s.d.0 → hold_of p s ≤ suc (blocker_hold p l s)
blocker_hold-hold p l s h = omega (arith, blocker_hold-early p l s h)

-- a longer interval has no longer blocker
pub blocker_hold-falls : (p : Plan) (l : ℕ) (s : BatteryString) → blocker_hold p (suc l) s ≤ blocker_hold p l s
blocker_hold-falls p l s =
    elim (dec_le s.d.0 (suc l)) [
      | yes late ↦ omega (arith, blocker_hold-late p (suc l) s late)
      | no early ↦ omega (arith, blocker_hold-early p (suc l) s (omega arith), blocker_hold-early p l s (omega arith))
    ]
