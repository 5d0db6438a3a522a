-- what the check lets through is lawful, and its stints are few
use Rattle.std.proofs.Common.{sym, arith}
use Rattle.laws.proofs.Releases.{run_check-lawful}
use Rattle.run.proofs.Answering.{few-here}
use Rattle.run.proofs.stints.Goals as goal

pub walk_alone-stints-requires : goal.walk_alone-stints-requires
walk_alone-stints-requires c = run_check-lawful _ _ (sym c.in_ok-run_check.ensures.exact)

pub overflow_mul-stints : goal.overflow_mul-stints
overflow_mul-stints c =
    let lawful = run_check-lawful _ _ (sym c.in_ok-run_check.ensures.exact) in
    omega (arith, c.walk_alone-stints.ensures.exact.stints, few-here _ _ lawful)

pub walk-requires : goal.walk-requires
walk-requires c = run_check-lawful _ _ (sym c.in_ok-run_check.ensures.exact)
