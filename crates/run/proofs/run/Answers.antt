-- what the check lets through is lawful
use Rattle.std.proofs.Common.{sym}
use Rattle.laws.proofs.Releases.{run_check-lawful}
use Rattle.run.proofs.run.Goals as goal

pub walk_alone-requires : goal.walk_alone-requires
walk_alone-requires c = run_check-lawful _ _ (sym c.in_ok-run_check.ensures.exact)
