-- The rule has no upper end, and a range decides it: an overloaded plan breaks it at interval H, and any other plan keeps it at
-- every interval if it keeps it up to Dmax + H − 1, since H more days bring at most H more days of demand.
use Rattle.base.proofs.Prelude.{ℕ, zero, suc, ◌+◌, ◌-◌, ◌≤◌, ◌<◌, zero-le, ◌≡◌, true, false, arith, dec_le, le_refl, ltb-true, ltb-false}
use Rattle.rules.specs.{declared.Plan.Plan, Plan.{multiple_of, d_max}, Demand.{block_limit, demand, Passes, load, overloaded}}
use Rattle.laws.proofs.{Lawful.LawfulPlan, Demand.block_limit-late}
use Rattle.demand.proofs.Period.{demand-none, demand-period, demand-later}

overloaded-over : (p : Plan) → overloaded p ≡ true → multiple_of p < load p
unfolding overloaded
overloaded-over p t = ltb-true (multiple_of p) (load p) t

overloaded-not : (p : Plan) → overloaded p ≡ false → load p ≤ multiple_of p
unfolding overloaded
overloaded-not p e = ltb-false (multiple_of p) (load p) e

module _ (p : Plan) (ok : LawfulPlan p) where
  -- ---- Overload

  pub overload-at-period : overloaded p ≡ true → multiple_of p < demand p (multiple_of p) 0
  overload-at-period t = omega (arith, overloaded-over p t, demand-period p ok)

  -- an overloaded plan breaks the rule
  pub overload-breaks : overloaded p ≡ true → (l : ℕ) × (b : ℕ) × (1 ≤ l) × (b ≤ block_limit p l) × (l < demand p l b)
  overload-breaks t = (multiple_of p, 0, ok.h_pos, zero-le, overload-at-period t)

  -- ---- The range

  -- the rule holds of no days
  start : (l : ℕ) → (1 ≤ l → demand p l 0 ≤ l) → demand p l 0 ≤ l
  start zero f = omega (arith, demand-none p ok)
  start (suc l) f = f (omega arith)

  -- The range is the same for any blocking limit that is 0 from the largest D on: beyond it nothing blocks, and the rule at l follows from
  -- the
  -- rule H days earlier.
  module _ (limit : ℕ → ℕ) (none-late : (l : ℕ) → d_max p ≤ l → limit l ≡ 0) where
    beyond :
        load p ≤ multiple_of p
        → ((l b : ℕ) → 1 ≤ l → l ≤ d_max p + multiple_of p - 1 → b ≤ limit l → demand p l b ≤ l)
        → (most l b : ℕ) → l ≤ most → 1 ≤ l → b ≤ limit l → demand p l b ≤ l
    beyond light near zero l b m pos h = absurd (omega arith)
    beyond light near (suc most) l b m pos h =
        let h_pos = ok.h_pos in
        let earlier : demand p (l - multiple_of p) 0 ≤ l - multiple_of p =
        start (l - multiple_of p) (λ from_one. beyond light near most (l - multiple_of p) 0 (omega arith) from_one zero-le) in
        elim (dec_le l (d_max p + multiple_of p - 1)) [
          | yes inside ↦ near l b pos inside h
          | no outside ↦
              let unblocked : b ≡ 0 = omega (arith, none-late l (omega arith)) in
              let back : l - multiple_of p + multiple_of p ≡ l = omega arith in
              let later : demand p l 0 ≤ demand p (l - multiple_of p) 0 + load p = rw back at (demand-later p ok (l - multiple_of p)) in
              rw unblocked (omega arith)
        ]

    pub range-suffices-for :
        overloaded p ≡ false
        → ((l b : ℕ) → 1 ≤ l → l ≤ d_max p + multiple_of p - 1 → b ≤ limit l → demand p l b ≤ l)
        → (l b : ℕ) → 1 ≤ l → b ≤ limit l → demand p l b ≤ l
    range-suffices-for e near l b pos h = beyond (overloaded-not p e) near l l b (le_refl l) pos h

  -- a plan that is not overloaded passes if the rule holds for l from 1 to Dmax + H − 1
  pub range-suffices :
      overloaded p ≡ false
      → ((l b : ℕ) → 1 ≤ l → l ≤ d_max p + multiple_of p - 1 → b ≤ block_limit p l → demand p l b ≤ l)
      → Passes p
  range-suffices = range-suffices-for (block_limit p) (block_limit-late p)
