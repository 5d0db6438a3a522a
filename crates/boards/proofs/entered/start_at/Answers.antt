-- what the calendar reads of the line decides
use Rattle.std.proofs.Common.{ap, ◌∙◌}
use Rattle.std.proofs.lemmas.Result.{err_from_is_err_and}
use Rattle.boards.specs.inner.Walk.{within_of}
use Rattle.boards.proofs.Entering.{no_end, with-end, started}
use Rattle.boards.proofs.entered.start_at.Goals as goal

pub returns-then-not-ended : goal.returns-then-not-ended
returns-then-not-ended c = record { exact = rw c.if-not-ended.true (no_end c.args.run.0 c.args.line.now) }

pub returns-in_err-date_read : goal.returns-in_err-date_read
unfolding started
returns-in_err-date_read c =
    let passed = err_from_is_err_and c.from_residual.result c.from_residual.ensures.1 in
    record {
      exact = rw (passed.1, passed.2, c.if-not-ended.false)
          (with-end c.args.run.0 c.args.line.now _ c.in_err-date_read.ensures.exact);
    }

pub returns-in_err-day_number : goal.returns-in_err-day_number
unfolding started within_of
returns-in_err-day_number c =
    let passed = err_from_is_err_and c.from_residual-in_err-day_number.result c.from_residual-in_err-day_number.ensures.1 in
    record {
      exact = rw (passed.1, passed.2, c.if-not-ended.false)
          (ap (within_of c.args.run.0) c.in_err-day_number.ensures.exact
          ∙ with-end c.args.run.0 c.args.line.now _ c.in_ok-date_read.ensures.exact);
    }

pub returns : goal.returns
unfolding started
returns c = record {
  exact = rw c.if-not-ended.false
      (c.within.ensures.exact ∙ ap (within_of c.args.run.0) c.in_ok-day_number.ensures.exact
      ∙ with-end c.args.run.0 c.args.line.now _ c.in_ok-date_read.ensures.exact);
}
