-- Reading the plan comes first.
use Rattle.std.proofs.lemmas.Result.{err_from_is_err_and}
use Rattle.visits.proofs.Lines.{files-refused, files-said}
use Rattle.visits.proofs.texts.check_visit_files.Goals as goal

pub returns-in_err-p-clause-exact : goal.returns-in_err-p-clause-exact
returns-in_err-p-clause-exact c =
    let p = err_from_is_err_and c.from_residual.result c.from_residual.ensures.1 in
    rw (p.1, p.2) (files-refused c.args.plan.now c.args.visits.now _ c.in_err-p.ensures.exact)

pub returns-clause-exact : goal.returns-clause-exact
returns-clause-exact c =
    rw c.check_visit_text.ensures.exact (files-said c.args.plan.now c.args.visits.now _ c.in_ok-p.ensures.exact)
