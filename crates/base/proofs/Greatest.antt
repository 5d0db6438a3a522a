-- Laws of `greatest_to`: what it finds passes, and nothing in the range that passes is above it.
use Prim.Native.Nat.{ℕ, zero, suc, ◌≤◌, ◌<◌}
use mathlib.{Core.Path.{◌≡◌, sym, ap, ◌∙◌}, Core.Bool.{Bool, true, false, true≢false}}
use native.{Mathlib.Omega.arith, Mathlib.Decide.ℕ_discrete}
use borrow.Table.Steps.{cases}
use Rattle.base.specs.Divisors.{greatest_to}

module _ (f : ℕ → Bool) where
  greatest_to-here : (n : ℕ) → f (suc n) ≡ true → greatest_to f (suc n) ≡ suc n
  unfolding greatest_to
  greatest_to-here n t = rw t

  greatest_to-lower : (n : ℕ) → f (suc n) ≡ false → greatest_to f (suc n) ≡ greatest_to f n
  unfolding greatest_to
  greatest_to-lower n e = rw e

  pub greatest_to-passes : (n : ℕ) → zero < greatest_to f n → f (greatest_to f n) ≡ true
  unfolding greatest_to
  greatest_to-passes zero h = absurd (omega arith)
  greatest_to-passes (suc n) h =
      cases (f (suc n)) (λ t. rw (t, t)) (λ e. rw e (greatest_to-passes n (omega (arith, greatest_to-lower n e))))

  pub greatest_to-most : (n k : ℕ) → k ≤ n → f k ≡ true → k ≤ greatest_to f n
  greatest_to-most zero k h t = omega arith
  greatest_to-most (suc n) k h t =
      cases (f (suc n))
      (λ here. omega (arith, greatest_to-here n here))
      (λ e.
      elim (ℕ_discrete k (suc n)) [
        | yes last ↦ absurd (true≢false (sym t ∙ ap f last ∙ e))
        | no other ↦ omega (arith, greatest_to-lower n e, greatest_to-most n k (omega arith) t)
      ])
