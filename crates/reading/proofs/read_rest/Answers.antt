-- H decides first, then the release lines.
use Rattle.std.proofs.Common.{ap, ◌∙◌, arith}
use Rattle.std.proofs.lemmas.Result.{err_from_is_err_and}
use Rattle.faults.specs.Checks.{then}
use Rattle.layouts.specs.inner.Versions.{meant_by}
use Rattle.reading.specs.inner.Positions.{rest_said, list_said}
use Rattle.reading.proofs.Whole.{strings-few}
use Rattle.reading.proofs.read_rest.Goals as goal

pub overflow_add-p : goal.overflow_add-p
overflow_add-p c = omega (arith, strings-few (meant_by c.args.version) _ _ c.requires)

pub returns-in_err-multiple_check : goal.returns-in_err-multiple_check
unfolding rest_said
returns-in_err-multiple_check c =
    let p = err_from_is_err_and c.from_residual.result c.from_residual.ensures.1 in
    let list = list_said (meant_by c.args.version) c.args.text.now c.args.p in
    record { exact = rw (p.1, p.2) (ap (λ a. then a list) c.in_err-multiple_check.ensures.exact) }

pub returns : goal.returns
unfolding rest_said
returns c =
    let list = list_said (meant_by c.args.version) c.args.text.now c.args.p in
    record { exact = c.read_list.ensures.exact ∙ ap (λ a. then a list) c.in_ok-multiple_check.ensures.exact }
