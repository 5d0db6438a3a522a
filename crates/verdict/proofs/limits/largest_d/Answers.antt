-- The next string is passed.
use Rattle.base.proofs.Prelude.{refl, arith}
use Rattle.rules.specs.Plan.{d_max}
use Rattle.verdict.proofs.StringSums.{largest-here, largest-done}
use Rattle.verdict.proofs.limits.largest_d.Goals as goal

pub loop-s-init : goal.loop-s-init
unfolding d_max
loop-s-init c = record { all = refl; rest = omega arith }

pub loop-s-preserved : goal.loop-s-preserved
loop-s-preserved c =
    let next = largest-here _ _ (λ s. s.d.0) c.loop-s-test.true in
    record { all = c.loop-s.invariant.all; rest = omega (arith, next) }

pub returns : goal.returns
returns c = omega (arith, largest-done _ _ (λ s. s.d.0) c.loop-s-test.false)
