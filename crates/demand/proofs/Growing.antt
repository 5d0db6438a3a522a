-- At the first broken pair of any number of lawful strings some count grows, whatever the blocking limit is, as long as it rises only by
-- its cap. Say none grew at
-- (l, b): then the demand at l − 1 with b is the same, so it is over l − 1.
--     No job fits l − 1 days: then b is all that is asked for, and b is at most l.
--     The limit at l − 1 allows b: then the pair (l − 1, b) is broken, and comes before.
--     It does not: then it stands at its cap and b is l. No taker is counted at l, so the pair (l − 1, l − 1) is broken, and comes before.
use Rattle.base.proofs.Prelude.{ℕ, zero, suc, ◌≤◌, ◌<◌, ◌≡◌, ap, ◌∙◌, ◌⊎◌, inl, inr, true, false, arith, dec_le}
use Rattle.rules.specs.{declared.Plan.Plan, Plan.strings_of, Demand.demand}
use Rattle.base.proofs.Lists.{All, by_bool}
use Rattle.laws.proofs.Lawful.{LawfulString}
use Rattle.demand.proofs.Pairs.{pair}
use Rattle.demand.specs.FirstBreak.{FirstBreakUnder}
use Rattle.demand.specs.{Limit.Rises, Quick.grows}
use Rattle.demand.proofs.Counts.{NoJobs, start-no-jobs, demand-no-jobs, demand-still, demand-all-blocked}

-- no job fits fewer days than `from`; a plan's jobs alone say that, not its limit
module _
    (p : Plan) (each : All LawfulString (strings_of p)) (limit : ℕ → ℕ) (from : ℕ)
    (early : (l : ℕ) → l < from → NoJobs p l) (rises : Rises limit from) where
  -- where no job fits the interval before, some count grows
  before-any-job : (l b : ℕ) → FirstBreakUnder limit p (suc l) b → NoJobs p l → grows p (pair (suc l) b) ≡ false → ⊥
  before-any-job l b first none still =
      omega (arith, demand-still p each l b still, demand-no-jobs p each l b none, first.breaks, first.allowed, rises.capped (suc l))

  -- where the limit at the interval before falls short of b
  grows-at-cap :
      (l b : ℕ) → FirstBreakUnder limit p (suc l) b → 1 ≤ l → limit l < b → (limit (suc l) ≤ limit l) ⊎ (limit l ≡ l)
      → grows p (pair (suc l) b) ≡ false → ⊥
  grows-at-cap l b first pos short (inl falls) still = omega (arith, first.allowed)
  grows-at-cap l b first pos short (inr cap) still =
      let all-blocked : b ≡ suc l = omega (arith, first.allowed, rises.capped (suc l)) in
      let same : demand p (suc l) b ≡ demand p l (suc l) = demand-still p each l b still ∙ ap (demand p l) all-blocked in
      let allowed : l ≤ limit l = omega arith in
      omega (arith, demand-all-blocked p l, first.breaks, first.shorter l l pos (omega arith) allowed)

  grows-later : (l b : ℕ) → FirstBreakUnder limit p (suc l) b → 1 ≤ l → from ≤ l → grows p (pair (suc l) b) ≡ false → ⊥
  grows-later l b first pos late still =
      elim (dec_le b (limit l)) [
        | yes allowed ↦ omega (arith, demand-still p each l b still, first.breaks, first.shorter l b pos (omega arith) allowed)
        | no short ↦ grows-at-cap l b first pos (omega arith) (rises.falls l late) still
      ]

  not-still : (l b : ℕ) → FirstBreakUnder limit p l b → grows p (pair l b) ≡ false → ⊥
  not-still zero b first still = omega (arith, first.pos)
  not-still (suc zero) b first still = before-any-job zero b first (start-no-jobs p each) still
  not-still (suc (suc l)) b first still =
      elim (dec_le from (suc l)) [
        | yes late ↦ grows-later (suc l) b first (omega arith) late still
        | no before ↦ before-any-job (suc l) b first (early (suc l) (omega arith)) still
      ]

  -- the first broken pair grows
  pub first-grows : (l b : ℕ) → FirstBreakUnder limit p l b → grows p (pair l b) ≡ true
  first-grows l b first = by_bool (grows p (pair l b)) (λ t. t) (λ e. absurd (not-still l b first e))
