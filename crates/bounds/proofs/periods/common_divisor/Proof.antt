-- `bounds::periods::common_divisor` meets its contract: each step keeps the greatest common divisor, and with 0 it is the number itself.
use Rattle.base.proofs.Prelude.{◌≡◌, refl, sym, ap, ◌∙◌, arith, mod-lt}
use Rattle.base.specs.Divisors.{gcd}
use Rattle.base.proofs.Divisors.{gcd-rec, gcd-zero-right}
use Rattle.bounds.proofs.periods.common_divisor.Statement.{statement}
use Rattle.bounds.proofs.periods.common_divisor.Tie as tie

abbrev invariant-loop : tie.invariant-loop-divisor
invariant-loop a b number₀ divisor₀ number divisor = gcd number divisor ≡ gcd a b

abbrev decreases-loop : tie.decreases-loop-divisor
decreases-loop a b number₀ divisor₀ number divisor = divisor

returns : tie.Need-returns invariant-loop decreases-loop
returns c =
    let at = c.loop-divisor in
    let last : at.divisor ≡ 0 = omega arith in
    sym (gcd-zero-right at.number) ∙ ap (gcd at.number) (sym last) ∙ at.invariant

pub common_divisor_spec : {M : Type 1} → statement M
common_divisor_spec =
    tie.close (tie.spec
    invariant-loop decreases-loop (λ c. refl) (λ c. omega arith) (λ c. mod-lt c.loop-divisor.number c.loop-divisor-test.true)
    (λ c. gcd-rec c.loop-divisor.number c.loop-divisor.divisor ∙ c.loop-divisor.invariant) returns)
