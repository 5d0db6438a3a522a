-- A rule with shorter blockers is the weaker one. The desk's is E less one day (W-205), document 01's was E: so every plan that passed
-- before W-205 passes after it, and the search finds a set with as many takers or fewer.
use Rattle.base.proofs.Prelude.{ℕ, ◌^◌, ◌≤◌, ◌<◌, ◌≡◌, refl, ◌↔◌, ◌&&◌, arith, ones, leb, ltb}
use Rattle.std.specs.Prelude.{Some}
use native.Mathlib.Nat.{le_trans}
use Rattle.rules.specs.declared.BatteryString.{BatteryString}
use Rattle.rules.specs.declared.Plan.{Plan}
use Rattle.rules.specs.Plan.{strings_of, leeway_min, d_max}
use Rattle.rules.specs.Demand.{blocker_hold, block_limit, Passes}
use Rattle.rules.specs.Search.{with_set, search_of}
use Rattle.base.proofs.{Lists.{by_bool, largest-mono}, Order.all_of}
use Rattle.laws.proofs.Lawful.{LawfulPlan}
use Rattle.results.specs.Blockers.{Blocker, hold_less, days_by, limit_by, PassesBy}
use Rattle.results.proofs.Found.{passing-found}

-- ---- Shorter blockers

module _ (h g : Blocker) (p : Plan) (shorter : (s : BatteryString) → h p s ≤ g p s) where
  days-mono : (l : ℕ) (s : BatteryString) → days_by h p l s ≤ days_by g p l s
  unfolding days_by
  days-mono l s = by_bool (ltb l s.d.0) (λ t. rw t (shorter s)) (λ e. rw e (omega arith))

  limit-mono : (l : ℕ) → limit_by h p l ≤ limit_by g p l
  unfolding limit_by
  limit-mono l =
      let each = all_of (λ s. days_by h p l s ≤ days_by g p l s) (days-mono l) (strings_of p) in
      let most = largest-mono (days_by h p l) (days_by g p l) (strings_of p) each in
      by_bool (leb (leeway_min p) l && ltb l (d_max p)) (λ t. rw t (omega arith)) (λ e. rw e (omega arith))

  pub shorter-blockers : PassesBy g p → PassesBy h p
  shorter-blockers rule l b pos under = rule l b pos (le_trans under (limit-mono l))

-- the rule with more days taken off is the weaker one
pub weaker : (k m : ℕ) → k ≤ m → (p : Plan) → PassesBy (hold_less k) p → PassesBy (hold_less m) p
unfolding hold_less
weaker k m more p = shorter-blockers (hold_less m) (hold_less k) p (λ s. omega arith)

-- ---- The desk's rule

desk-limit : (p : Plan) (l : ℕ) → block_limit p l ≡ limit_by (hold_less 1) p l
unfolding block_limit blocker_hold limit_by days_by hold_less
desk-limit p l = refl

-- the desk's rule is E less one day
pub desk-rule : (p : Plan) → Passes p ↔ PassesBy (hold_less 1) p
desk-rule p =
    (λ rule l b pos under. rule l b pos (rw (desk-limit p l) under), λ rule l b pos under. rule l b pos (rw (← desk-limit p l) under))

-- ---- Before W-205 and after it

-- every plan that passed before W-205 passes after it
pub passed-passes : (p : Plan) → PassesBy (hold_less 0) p → Passes p
passed-passes p rule = (desk-rule p).1 (weaker 0 1 (omega arith) p rule)

-- and where a set passed before, the search finds one now, with as many takers or fewer
pub found-with-fewer : (p : Plan) → LawfulPlan p → (k : ℕ) → k < 2 ^ p.n → PassesBy (hold_less 0) (with_set p k)
    → (m : ℕ) × (search_of p ≡ Some m) × (ones m ≤ ones k)
found-with-fewer p ok k below rule = passing-found p ok k below (passed-passes (with_set p k) rule)
