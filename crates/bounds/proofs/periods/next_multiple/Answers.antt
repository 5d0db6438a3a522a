-- h over the divisor, times t, is the least common multiple, and the test before the product says on which side of the bound it lies
use Rattle.base.proofs.Prelude.{ℕ, zero, ◌*◌, ◌/◌, ◌≤◌, ◌<◌, ◌≡◌, sym, ap, ◌∙◌, arith, div-lt_iff_lt-mul}
use native.Mathlib.Nat.{le-div_iff_mul-le}
use Rattle.base.specs.{Divisors.gcd, Multiples.lcm}
use Rattle.base.proofs.{Divisors.gcd-pos, Multiples.{lcm-div-mul, lcm-pos, lcm-zero-right}}
use Rattle.bounds.specs.inner.Capped.{capped}
use Rattle.bounds.proofs.LeastMultiple.{capped-in, capped-out}
use Rattle.bounds.proofs.periods.next_multiple.Goals as goal

none : (h t : ℕ) → t ≡ 0 → capped 100000 (lcm h t) ≡ 100001
none h t e = capped-out 100000 (lcm h t) (λ low high. omega (arith, lcm-zero-right h t e))

module _ (h t d : ℕ) (divisor : d ≡ gcd h t) (some : zero < t) where
  product : h / d * t ≡ lcm h t
  product = ap (λ v. h / v * t) divisor ∙ lcm-div-mul h t

  past : 100000 / t < h / d → capped 100000 (lcm h t) ≡ 100001
  past over =
      let above = (div-lt_iff_lt-mul some).0 over in
      capped-out 100000 (lcm h t) (λ low high. omega (arith, above, product))

  fits : h / d ≤ 100000 / t → h / d * t ≤ 100000
  fits few = (le-div_iff_mul-le some).0 few

  within : zero < h → h / d ≤ 100000 / t → capped 100000 (lcm h t) ≡ h / d * t
  within low few =
      let high = fits few in
      capped-in 100000 (lcm h t) (lcm-pos h t low some) (omega (arith, high, product)) ∙ sym product

pub nonzero_div-part : goal.nonzero_div-part
nonzero_div-part c = omega (arith, c.common_divisor.ensures.exact, gcd-pos c.args.h c.args.t (omega arith))

pub returns-then-t-lt1 : goal.returns-then-t-lt1
returns-then-t-lt1 c = record { exact = sym (none _ _ (omega arith)); within = tt }

pub overflow_mul-result : goal.overflow_mul-result
overflow_mul-result c = omega (arith, fits _ _ _ c.common_divisor.ensures.exact (omega arith) c.if-t-part.false)

pub returns-then-t-part : goal.returns-then-t-part
returns-then-t-part c = record {
  exact = sym (past _ _ _ c.common_divisor.ensures.exact (omega arith) c.if-t-part.true);
  within = tt;
}

pub returns-else-t-part : goal.returns-else-t-part
returns-else-t-part c = record {
  exact = sym (within _ _ _ c.common_divisor.ensures.exact (omega arith) (omega arith) c.if-t-part.false);
  within = fits _ _ _ c.common_divisor.ensures.exact (omega arith) c.if-t-part.false;
}
