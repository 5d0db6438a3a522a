-- The moving costs are compared only of a plan that is lawful by its numbers, which has 1 to 10 strings.
use Rattle.base.proofs.Prelude.{◌∙◌, sym}
use Rattle.laws.proofs.Releases.{run_check-lawful}
use Rattle.writing.proofs.costs.writable_check.Goals as goal

pub alike_check-requires : goal.alike_check-requires
alike_check-requires c =
    let good = run_check-lawful c.args.p c.args.rs (sym c.run_check.ensures.exact ∙ c.in_ok-run_check.was) in
    (good.plan.n_pos, good.plan.n_max)
