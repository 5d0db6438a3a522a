-- The blocking limit rises only by its cap: past the smallest D − J, a longer interval has no longer blocker.
use Rattle.base.proofs.Prelude.{ℕ, suc, ◌≤◌, ◌<◌, ◌≡◌, ◌⊎◌, inl, inr, arith, dec_le}
use Rattle.rules.specs.{declared.Plan.Plan, Plan.{strings_of, leeway_min, d_max}, Demand.{blocker_hold, block_limit}}
use Rattle.base.specs.Count.{largest}
use Rattle.base.proofs.{Lists.largest-mono, Order.all_of}
use Rattle.laws.proofs.Demand.{block_limit-late, block_limit-interval, block_limit-between, blocker_hold-falls}
use Rattle.demand.specs.Limit.{Rises}

module _ (p : Plan) where
  abbrev longest : ℕ → ℕ
  longest l = largest (blocker_hold p l) (strings_of p)

  longest-falls : (l : ℕ) → longest (suc l) ≤ longest l
  longest-falls l =
      largest-mono (blocker_hold p (suc l)) (blocker_hold p l) (strings_of p)
      (all_of (λ s. blocker_hold p (suc l) s ≤ blocker_hold p l s) (blocker_hold-falls p l) (strings_of p))

  -- below the largest D the longest blocker decides, and the cap
  between-falls : (l : ℕ) → leeway_min p ≤ l → suc l < d_max p → (block_limit p (suc l) ≤ block_limit p l) ⊎ (block_limit p l ≡ l)
  between-falls l low high =
      let here = block_limit-between p l low (omega arith) in
      let next = block_limit-between p (suc l) (omega arith) high in
      elim (dec_le l (longest l)) [
        | yes cap ↦ inr (omega arith)
        | no under ↦ inl (omega (arith, longest-falls l))
      ]

  limit-falls : (l : ℕ) → leeway_min p ≤ l → (block_limit p (suc l) ≤ block_limit p l) ⊎ (block_limit p l ≡ l)
  limit-falls l low =
      elim (dec_le (d_max p) (suc l)) [
        | yes late ↦ inl (omega (arith, block_limit-late p (suc l) late))
        | no before ↦ between-falls l low (omega arith)
      ]

  pub limit-fits : Rises (block_limit p) (leeway_min p)
  limit-fits = record { capped = block_limit-interval p; falls = limit-falls }
