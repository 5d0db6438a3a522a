-- the plan file decides, then the input, then the room for the stints; the run is not refused any more
use Rattle.base.proofs.Prelude.{◌∙◌}
use Rattle.std.proofs.lemmas.Result.{err_from_is_err_and}
use Rattle.boards.proofs.Deciding.{plan-refused, input-refused, boards_listed, boards-stints-refused, boards-run-given, board-given}
use Rattle.boards.proofs.whole.board_read.Goals as goal

pub returns-in_err-file-clause-exact : goal.returns-in_err-file-clause-exact
returns-in_err-file-clause-exact c =
    let passed = err_from_is_err_and c.from_residual.result c.from_residual.ensures.1 in
    rw (passed.1, passed.2) (plan-refused c.args.plan.now c.args.input.now c.args.list.now _ c.in_err-file.ensures.exact).0

pub returns-in_err-file-clause-stored : goal.returns-in_err-file-clause-stored
returns-in_err-file-clause-stored c = (plan-refused c.args.plan.now c.args.input.now c.args.list.now _ c.in_err-file.ensures.exact).1

pub returns-in_err-entered-clause-exact : goal.returns-in_err-entered-clause-exact
returns-in_err-entered-clause-exact c =
    let passed = err_from_is_err_and c.from_residual-in_err-entered.result c.from_residual-in_err-entered.ensures.1 in
    rw (passed.1, passed.2)
    (input-refused c.args.plan.now c.args.input.now c.args.list.now c.in_ok-file.file c.in_ok-file.ensures.exact _
    c.in_err-entered.ensures.exact).0

pub returns-in_err-entered-clause-stored : goal.returns-in_err-entered-clause-stored
returns-in_err-entered-clause-stored c =
    (input-refused c.args.plan.now c.args.input.now c.args.list.now c.in_ok-file.file c.in_ok-file.ensures.exact _
    c.in_err-entered.ensures.exact).1

pub returns-in_err-stints-clause-exact : goal.returns-in_err-stints-clause-exact
returns-in_err-stints-clause-exact c =
    let passed = err_from_is_err_and c.from_residual-in_err-stints.result c.from_residual-in_err-stints.ensures.1 in
    rw (passed.1, passed.2)
    (boards-stints-refused c.args.plan.now c.args.input.now c.args.list.now c.in_ok-file.file c.in_ok-file.ensures.exact
    c.in_ok-entered.entered
    c.in_ok-entered.ensures.exact _ c.in_err-stints.ensures.exact)

pub returns-in_err-stints-clause-stored : goal.returns-in_err-stints-clause-stored
returns-in_err-stints-clause-stored c =
    c.stints.ensures.stored
    ∙ boards_listed c.args.plan.now c.args.input.now c.args.list.now c.in_ok-file.file c.in_ok-file.ensures.exact c.in_ok-entered.entered
    c.in_ok-entered.ensures.exact

pub returns-in_err-outcome-clause-exact : goal.returns-in_err-outcome-clause-exact
returns-in_err-outcome-clause-exact c =
    absurd (boards-run-given _ _ _ _ c.in_ok-stints.ensures.exact _ c.in_err-outcome.ensures.exact)

pub returns-in_err-outcome-clause-stored : goal.returns-in_err-outcome-clause-stored
returns-in_err-outcome-clause-stored c =
    absurd (boards-run-given _ _ _ _ c.in_ok-stints.ensures.exact _ c.in_err-outcome.ensures.exact)

pub returns-clause-exact : goal.returns-clause-exact
returns-clause-exact c =
    board-given c.args.plan.now c.args.input.now c.args.list.now c.in_ok-file.file c.in_ok-file.ensures.exact c.in_ok-entered.entered
    c.in_ok-entered.ensures.exact _ _ c.in_ok-stints.ensures.exact c.in_ok-outcome.ensures.exact

pub returns-clause-stored : goal.returns-clause-stored
returns-clause-stored c =
    c.stints.ensures.stored
    ∙ boards_listed c.args.plan.now c.args.input.now c.args.list.now c.in_ok-file.file c.in_ok-file.ensures.exact c.in_ok-entered.entered
    c.in_ok-entered.ensures.exact
