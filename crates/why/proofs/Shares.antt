-- The numbers of a pair add up: the blocking and what each string asks, its jobs times its E, are the demand. Over H days with no blocking
-- they are the load.
use Rattle.base.proofs.Prelude.{ℕ, ◌+◌, ◌*◌, ◌≤◌, ◌≡◌, sym, ap, arith, ℕ_discrete, mul-le-mul, eq-eqb, ne_eqb}
use Rattle.base.specs.Count.{sum_of}
use Rattle.base.proofs.Lists.{all_map, sum_of-eq}
use Rattle.rules.specs.{declared.BatteryString.BatteryString, declared.Plan.Plan, Plan.{strings_of, multiple_of}, Demand.{hold_of, jobs, need, demand, load}}
use Rattle.laws.proofs.{Lawful.{LawfulString, LawfulPlan, PlanString}, Demand.{hold_of-le, hold_of-other, need-taker, need-keeper}}
use Rattle.demand.proofs.Period.{demand-period}
use Rattle.verdict.proofs.Asked.{jobs-le}
use Rattle.why.specs.Shares.{counted_days}

-- what a string asks, as its line says it
abbrev pub share_of : Plan → ℕ → ℕ → BatteryString → ℕ
share_of p l b s = jobs s (counted_days l b s) * hold_of p s

module _ (p : Plan) (l b : ℕ) where
  pub need-share : (s : BatteryString) → LawfulString s → need p l b s ≡ share_of p l b s
  unfolding counted_days
  need-share s ok =
      elim (ℕ_discrete s.x 1) [
        | yes e ↦ rw (eq-eqb s.x 1 e) (need-taker p l b s e)
        | no e ↦
            let kept : s.x ≡ 0 = omega (arith, ok.x_max) in
            rw (ne_eqb s.x 1 e, hold_of-other p s kept) (need-keeper p l b s e)
      ]

  counted_days-le : (s : BatteryString) → counted_days l b s ≤ l
  unfolding counted_days
  counted_days-le s =
      elim (ℕ_discrete s.x 1) [
        | yes e ↦ rw (eq-eqb s.x 1 e) (omega arith)
        | no e ↦ rw (ne_eqb s.x 1 e) (omega arith)
      ]

  pub share-small : (s : BatteryString) → PlanString p s → l ≤ 4294967295 → need p l b s ≤ 8589934590000
  share-small s ok h =
      let few : jobs s (counted_days l b s) ≤ 4294967295 = omega (arith, jobs-le s (counted_days l b s) ok.lawful, counted_days-le s) in
      omega (arith, need-share s ok.lawful, mul-le-mul few (hold_of-le p s ok))

module _ (p : Plan) (ok : LawfulPlan p) where
  shares_sum : (l b : ℕ) → sum_of (share_of p l b) (strings_of p) ≡ sum_of (need p l b) (strings_of p)
  shares_sum l b =
      sum_of-eq (share_of p l b) (need p l b) (strings_of p)
      (all_map LawfulString (λ s. share_of p l b s ≡ need p l b s) (λ s lawful. sym (need-share p l b s lawful)) (strings_of p) ok.each)

  pub adds-up : (l b : ℕ) → b + sum_of (share_of p l b) (strings_of p) ≡ demand p l b
  unfolding demand
  adds-up l b = ap (λ sum. b + sum) (shares_sum l b)

  pub load-adds-up : sum_of (share_of p (multiple_of p) 0) (strings_of p) ≡ load p
  load-adds-up = omega (arith, adds-up (multiple_of p) 0, demand-period p ok)
