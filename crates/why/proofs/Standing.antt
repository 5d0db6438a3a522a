-- The line of the string at a place, as the code finds the string.
use Rattle.base.proofs.Prelude.{ℕ, ◌-◌, ◌≤◌, ◌≡◌, sym, ap, [], arith, get_or, get_or-take}
use Rattle.faults.proofs.Checks.{in_bounds-yes, in_bounds-not}
use Rattle.rules.specs.{declared.Plan.Plan, Plan.{no_string, string_at}, Demand.{hold_of, jobs}}
use Rattle.lines.specs.Why.{share_line}
use Rattle.why.specs.Shares.{counted_days, share_text}

module _ (p : Plan) (l b i : ℕ) where
  pub share-none : (1 ≤ i → i ≤ p.n → ⊥) → share_text p l b i ≡ []
  unfolding share_text
  share-none out = rw (in_bounds-not 1 i p.n out)

  pub share-there : 1 ≤ i → i ≤ p.n → let s = get_or p.strings (i - 1) no_string in
      share_line i (jobs s (counted_days l b s)) (counted_days l b s) (hold_of p s) ≡ share_text p l b i
  unfolding share_text
  share-there low high =
      let there : string_at p i ≡ get_or p.strings (i - 1) no_string = get_or-take p.n p.strings (i - 1) no_string (omega arith) in
      rw (in_bounds-yes 1 i p.n low high)
      (ap (λ s. share_line i (jobs s (counted_days l b s)) (counted_days l b s) (hold_of p s)) (sym there))
