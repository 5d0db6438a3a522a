-- Easing never hurts (document 02, W-212): a plan that passes still passes when it is eased. The demand at each pair that the eased plan
-- allows is at most the old demand at the same pair, where the old plan allowed it, or at the same interval with no blocking.
use Rattle.base.proofs.Prelude.{ℕ, ◌≤◌, ◌<◌, zero-le, ◌≡◌, true, arith, dec_le}
use Rattle.rules.specs.{declared.Plan.Plan, Plan.strings_of, Demand.{blocker_hold, block_limit, demand, Passes}, Verdict.{verdict_of, is_pass}}
use Rattle.base.specs.Count.{largest}
use Rattle.laws.proofs.Lawful.{LawfulPlan}
use Rattle.demand.proofs.Verdict.{pass-exactly}
use Rattle.results.specs.Easing.{EasedPlan}
use Rattle.results.proofs.Blocked.{asked-eased, blocking-asked, limit-blocks, limit-before}

module _ (p q : Plan) (ok : LawfulPlan p) (easier : EasedPlan p q) where
  demand-eased : (l b : ℕ) → demand q l b ≤ demand p l b
  unfolding demand
  demand-eased l b = omega (arith, asked-eased p q l b easier ok.each)

  -- where no string of the old plan blocks for as long, the old demand with no blocking was as large
  demand-unblocked : (l b : ℕ) → 1 ≤ b → b ≤ block_limit q l → largest (blocker_hold p l) (strings_of p) < b → demand q l b ≤ demand p l 0
  unfolding demand
  demand-unblocked l b some under more =
      omega (arith, blocking-asked p q l b easier ok.each some (limit-blocks q l b some under) more)

  module _ (rule : Passes p) where
    with-blocking : (l b : ℕ) → 1 ≤ l → 1 ≤ b → b ≤ block_limit q l → demand q l b ≤ l
    with-blocking l b pos some under =
        elim (dec_le b (largest (blocker_hold p l) (strings_of p))) [
          | yes blocks ↦ omega (arith, demand-eased l b, rule l b pos (limit-before p q l b easier some under blocks))
          | no more ↦ omega (arith, demand-unblocked l b some under (omega arith), rule l 0 pos zero-le)
        ]

    -- the new plan need not even be lawful
    pub eased-keeps-rule : Passes q
    eased-keeps-rule l b pos under =
        elim (dec_le 1 b) [
          | yes some ↦ with-blocking l b pos some under
          | no none ↦ omega (arith, demand-eased l b, rule l b pos (omega arith))
        ]

-- ---- In the words of the page

module _ (p q : Plan) (old-lawful : LawfulPlan p) (new-lawful : LawfulPlan q) (easier : EasedPlan p q) where
  pub eased-passes : Passes p → Passes q
  eased-passes = eased-keeps-rule p q old-lawful easier

  -- and so says the verdict
  pub eased-verdict : is_pass (verdict_of p) ≡ true → is_pass (verdict_of q) ≡ true
  eased-verdict pass = (pass-exactly q new-lawful).1 (eased-passes ((pass-exactly p old-lawful).0 pass))
