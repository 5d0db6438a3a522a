-- the check decides, and a lawful plan's verdict is not refused
use Rattle.base.proofs.Prelude.{◌≡◌, ap, sym, ◌∙◌}
use Rattle.std.specs.Prelude.{Ok}
use Rattle.std.proofs.lemmas.Result.{err_from_is_err_and}
use Rattle.faults.proofs.Checks.{err-not-ok}
use Rattle.rules.specs.Verdict.{verdict_of}
use Rattle.laws.proofs.Answers.{verdict-lawful}
use Rattle.why.specs.Named.{named_by, named_answer}
use Rattle.why.proofs.named.Goals as goal

pub returns-in_err-plan : goal.returns-in_err-plan
unfolding named_answer
returns-in_err-plan c =
    let passed = err_from_is_err_and c.from_residual.result c.from_residual.ensures.1 in
    record { exact = rw (passed.1, passed.2, c.in_err-plan.ensures.exact) }

pub returns-in_err-verdict : goal.returns-in_err-verdict
returns-in_err-verdict c =
    record {
      exact = absurd (err-not-ok _ _ (c.in_err-verdict.ensures.exact ∙ verdict-lawful c.args.p c.in_ok-plan.ensures.exact.1));
    }

pub returns : goal.returns
unfolding named_answer
returns c =
    let lawful = c.in_ok-plan.ensures.exact.1 in
    let judged = c.in_ok-verdict.ensures.exact ∙ verdict-lawful c.args.p lawful in
    let same : c.in_ok-verdict.field-0 ≡ verdict_of c.args.p = cc in
    record {
      exact = rw lawful (ap Ok (c.named_by.ensures.exact ∙ ap (λ q. named_by q c.in_ok-verdict.field-0) c.in_ok-plan.ensures.exact.0
          ∙ ap (named_by c.args.p) same));
    }
