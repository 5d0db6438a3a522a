-- A short hold and at most h jobs, so the product fits.
use Rattle.base.proofs.Prelude.{◌*◌, ◌/◌, ap, arith}
use Rattle.verdict.proofs.Blocking.{share-le}
use Rattle.verdict.proofs.limits.period_share.Goals as goal

pub overflow_mul-result : goal.overflow_mul-result
overflow_mul-result c =
    omega (
      arith,
      ap (λ e. e * (c.args.h / c.args.s.t.0)) c.hold.ensures,
      share-le c.args.p c.args.h c.args.s c.requires.plan_string c.requires.h_bound,
    )
