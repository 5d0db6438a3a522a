-- what is read decides, and what is read lawfully none of the three refuses
use Rattle.std.proofs.lemmas.Result.{err_from_is_err_and}
use Rattle.answers.proofs.Read.{file-refused, verdict-given, search-given, run-given, three-given}
use Rattle.answers.proofs.answer.Goals as goal

pub returns-in_err-file-clause-exact : goal.returns-in_err-file-clause-exact
returns-in_err-file-clause-exact c =
    let passed = err_from_is_err_and c.from_residual.result c.from_residual.ensures.1 in
    rw (passed.1, passed.2) (file-refused _ _ c.in_err-file.ensures.exact)

pub returns-in_err-verdict-clause-exact : goal.returns-in_err-verdict-clause-exact
returns-in_err-verdict-clause-exact c = absurd (verdict-given _ _ c.in_ok-file.ensures.exact _ c.in_err-verdict.ensures.exact)

pub returns-in_err-search-clause-exact : goal.returns-in_err-search-clause-exact
returns-in_err-search-clause-exact c = absurd (search-given _ _ c.in_ok-file.ensures.exact _ c.in_err-search.ensures.exact)

pub returns-in_err-run-clause-exact : goal.returns-in_err-run-clause-exact
returns-in_err-run-clause-exact c = absurd (run-given _ _ c.in_ok-file.ensures.exact _ c.in_err-run.ensures.exact)

pub returns-clause-exact : goal.returns-clause-exact
returns-clause-exact c =
    three-given _ _ c.in_ok-file.ensures.exact _ _ _ c.in_ok-verdict.ensures.exact c.in_ok-search.ensures.exact c.in_ok-run.ensures.exact
