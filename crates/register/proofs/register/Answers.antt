-- The parts, one after the other, decide as the definition does.
use Rattle.base.proofs.Prelude.{◌≤◌, ◌≡◌, sym, ◌∙◌, rules, length}
use Rattle.std.proofs.lemmas.Result.{err_from_is_err_and}
use Rattle.register.proofs.Reading.{table-empty, table-refused, table-over, table-said}
use Rattle.register.proofs.register.Goals as goal

pub returns-then-is_empty-clause-exact : goal.returns-then-is_empty-clause-exact
returns-then-is_empty-clause-exact c =
    let none : length c.args.text.now ≡ 0 = search rules in
    table-empty c.args.run.0 c.args.text.now c.if-text-gt65536.false (sym c.head_check.ensures.exact ∙ c.in_ok-head_check.was) none

pub returns-in_err-plan-clause-exact : goal.returns-in_err-plan-clause-exact
returns-in_err-plan-clause-exact c =
    let some : 1 ≤ length c.args.text.now = search rules in
    let p = err_from_is_err_and c.from_residual-in_err-plan.result c.from_residual-in_err-plan.ensures.1 in
    rw (p.1, p.2)
    (table-refused c.args.run.0 c.args.text.now c.if-text-gt65536.false (sym c.head_check.ensures.exact ∙ c.in_ok-head_check.was) some _
    (sym c.rows_in.ensures.exact ∙ c.in_err-plan.was))

pub returns-in_err-multiple_check-clause-exact : goal.returns-in_err-multiple_check-clause-exact
returns-in_err-multiple_check-clause-exact c =
    let some : 1 ≤ length c.args.text.now = search rules in
    let p = err_from_is_err_and c.from_residual-in_err-multiple_check.result c.from_residual-in_err-multiple_check.ensures.1 in
    rw (p.1, p.2)
    (table-over c.args.run.0 c.args.text.now c.if-text-gt65536.false (sym c.head_check.ensures.exact ∙ c.in_ok-head_check.was) some _
    (sym c.rows_in.ensures.exact ∙ c.in_ok-plan.was) _ (sym c.multiple_check.ensures.exact ∙ c.in_err-multiple_check.was))

pub returns-clause-exact : goal.returns-clause-exact
returns-clause-exact c =
    let some : 1 ≤ length c.args.text.now = search rules in
    table-said c.args.run.0 c.args.text.now c.if-text-gt65536.false (sym c.head_check.ensures.exact ∙ c.in_ok-head_check.was) some _
    (sym c.rows_in.ensures.exact ∙ c.in_ok-plan.was) (sym c.multiple_check.ensures.exact ∙ c.in_ok-multiple_check.was)
