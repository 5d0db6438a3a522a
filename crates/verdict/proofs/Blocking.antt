-- Laws of the blocking limit and of the load, as the code meets them.
use Rattle.base.proofs.Prelude.{ℕ, ◌*◌, ◌/◌, ◌≤◌, arith, dec_le, mul-le-mul}
use native.Mathlib.Nat.{div-le_self}
use Rattle.rules.specs.{declared.BatteryString.BatteryString, declared.Plan.Plan, Plan.d_max, Demand.{hold_of, block_limit}}
use Rattle.laws.proofs.{Lawful.{LawfulPlan, PlanString, d_max-le}, Demand.{hold_of-le, block_limit-late, block_limit-interval}}

-- only intervals shorter than the largest D are blocked, and no blocking is longer than its interval
pub block_limit-short : (p : Plan) (l : ℕ) → LawfulPlan p → block_limit p l ≤ 1000
block_limit-short p l ok =
    elim (dec_le (d_max p) l) [
      | yes late ↦ omega (arith, block_limit-late p l late)
      | no early ↦ omega (arith, block_limit-interval p l, d_max-le p ok)
    ]

-- what a string asks of a period is small
pub share-le :
    (p : Plan) (h : ℕ) (s : BatteryString) → PlanString p s → h ≤ 100000 → hold_of p s * (h / s.t.0) ≤ 200000000
share-le p h s ok k =
    let few : h / s.t.0 ≤ 100000 = omega (arith, div-le_self h s.t.0) in
    omega (arith, mul-le-mul (hold_of-le p s ok) few)
