-- what was read decides
use Rattle.base.proofs.Prelude.{◌∙◌}
use Rattle.std.proofs.lemmas.Result.{err_from_is_err_and}
use Rattle.assigning.proofs.AsRead.{refused-answer, refused-page, put-answer, put-page}
use Rattle.assigning.proofs.assign.Goals as goal

pub returns-in_err-read-clause-exact : goal.returns-in_err-read-clause-exact
returns-in_err-read-clause-exact c =
    let passed = err_from_is_err_and c.from_residual.result c.from_residual.ensures.1 in
    rw (passed.1, passed.2) (refused-answer _ _ _ _ c.in_err-read.ensures.exact)

pub returns-in_err-read-clause-page : goal.returns-in_err-read-clause-page
returns-in_err-read-clause-page c = refused-page _ _ _ _ c.in_err-read.ensures.exact

pub returns-clause-exact : goal.returns-clause-exact
returns-clause-exact c = c.put.ensures.exact ∙ put-answer _ _ _ _ c.in_ok-read.ensures.exact

pub returns-clause-page : goal.returns-clause-page
returns-clause-page c = c.put.ensures.page ∙ put-page _ _ _ _ c.in_ok-read.ensures.exact
