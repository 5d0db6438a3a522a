-- Few jobs and a short hold, so the product fits.
use Rattle.base.proofs.Prelude.{◌*◌, ◌≡◌, ap, ◌∙◌, arith}
use Rattle.rules.specs.Demand.{hold_of, jobs}
use Rattle.verdict.proofs.Asked.{work-le}
use Rattle.verdict.proofs.asking.share.Goals as goal

pub overflow_mul-result : goal.overflow_mul-result
overflow_mul-result c =
    let p = c.args.p in
    let s = c.args.s in
    let product : c.jobs_in.result * c.hold.result ≡ jobs s c.args.w * hold_of p s =
    ap (λ k. k * c.hold.result) c.jobs_in.ensures ∙ ap (λ e. jobs s c.args.w * e) c.hold.ensures in
    omega (arith, product, work-le p c.args.w s c.requires.plan_string c.requires.w_bound)
