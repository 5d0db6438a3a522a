-- Laws of `least_from`: nothing before it passes, and where it is within the range, it passes.
use Rattle.base.proofs.Prelude.{ℕ, zero, suc, ◌+◌, ◌≤◌, ◌<◌, ◌≡◌, sym, ◌∙◌, Bool, true, false, arith, ℕ_discrete, le_refl}
use Rattle.base.specs.Count.{least_from}
use Rattle.base.proofs.Lists.{by_bool}

module _ (f : ℕ → Bool) where
  pub least_from-here : (k n : ℕ) → f k ≡ true → least_from f k (suc n) ≡ k
  unfolding least_from
  least_from-here k n t = rw t

  pub least_from-later : (k n : ℕ) → f k ≡ false → least_from f k (suc n) ≡ least_from f (suc k) n
  unfolding least_from
  least_from-later k n e = rw e

  pub least_from-low : (k n : ℕ) → k ≤ least_from f k n
  unfolding least_from
  least_from-low k zero = le_refl k
  least_from-low k (suc n) =
      let rest = least_from-low (suc k) n in
      by_bool (f k) (λ t. rw t (le_refl k)) (λ e. rw e (omega arith))

  least_from-high : (k n : ℕ) → least_from f k n ≤ k + n
  unfolding least_from
  least_from-high k zero = omega arith
  least_from-high k (suc n) =
      let rest = least_from-high (suc k) n in
      by_bool (f k) (λ t. rw t (omega arith)) (λ e. rw e (omega arith))

  pub least_from-passes : (k n : ℕ) → least_from f k n < k + n → f (least_from f k n) ≡ true
  unfolding least_from
  least_from-passes k zero h = absurd (omega arith)
  least_from-passes k (suc n) h =
      by_bool (f k) (λ t. rw (t, t)) (λ e. rw e (least_from-passes (suc k) n (omega (arith, least_from-later k n e))))

  pub least_from-before : (k n i : ℕ) → k ≤ i → i < least_from f k n → f i ≡ false
  least_from-before k zero i h m = absurd (omega (arith, least_from-high k zero))
  least_from-before k (suc n) i h m =
      by_bool (f k)
      (λ t. absurd (omega (arith, least_from-here k n t)))
      (λ e.
      elim (ℕ_discrete k i)
      [ yes same ↦ rw same at e | no other ↦ least_from-before (suc k) n i (omega arith) (omega (arith, least_from-later k n e)) ])

  -- the least is the only number in the range that passes and before which none does
  pub least_from-unique : (k n r : ℕ) → k ≤ r → r < k + n → f r ≡ true → ((i : ℕ) → k ≤ i → i < r → f i ≡ false) → least_from f k n ≡ r
  least_from-unique k zero r h m t none_before = absurd (omega arith)
  least_from-unique k (suc n) r h m t none_before =
      elim (ℕ_discrete k r) [
        | yes same ↦ least_from-here k n (rw (sym same) at t) ∙ same
        | no other ↦
            least_from-later k n (none_before k (le_refl k) (omega arith))
            ∙ least_from-unique (suc k) n r (omega arith) (omega arith) t (λ i a b. none_before i (omega arith) b)
      ]

  pub least_from-none : (k n : ℕ) → ((i : ℕ) → k ≤ i → i < k + n → f i ≡ false) → least_from f k n ≡ k + n
  unfolding least_from
  least_from-none k zero h = omega arith
  least_from-none k (suc n) h =
      let rest = least_from-none (suc k) n (λ i a b. h i (omega arith) (omega arith)) in
      rw (h k (le_refl k) (omega arith)) (omega arith)
