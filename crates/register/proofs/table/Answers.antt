-- A lawful plan has at most ten strings.
use Rattle.base.proofs.Prelude.{◌∙◌, sym, rules}
use Rattle.laws.proofs.Releases.{run_check-lawful}
use Rattle.writing.specs.Saved.{no_room}
use Rattle.writing.proofs.Saving.{fit-checked}
use Rattle.rules.specs.Refusal.{run_check}
use Rattle.register.specs.Export.{table_text, export_check, export_answer, export_page}
use Rattle.register.proofs.table.Goals as goal

pub rows_length-length-requires : goal.rows_length-length-requires
rows_length-length-requires c =
    (run_check-lawful c.args.p c.args.rs (sym c.run_check.ensures.exact ∙ c.in_ok-run_check.was)).plan.n_max

pub put_rows-requires-clause-n_bound : goal.put_rows-requires-clause-n_bound
put_rows-requires-clause-n_bound c =
    (run_check-lawful c.args.p c.args.rs (sym c.run_check.ensures.exact ∙ c.in_ok-run_check.was)).plan.n_max

pub returns-in_err-room_check-clause-exact : goal.returns-in_err-room_check-clause-exact
unfolding export_answer export_check no_room
returns-in_err-room_check-clause-exact c = search rules

pub returns-in_err-room_check-clause-page : goal.returns-in_err-room_check-clause-page
unfolding export_page export_check no_room
returns-in_err-room_check-clause-page c = search rules

pub returns-clause-exact : goal.returns-clause-exact
unfolding export_answer export_check no_room
returns-clause-exact c = search rules

pub returns-clause-page : goal.returns-clause-page
unfolding export_page export_check
returns-clause-page c =
    let lawful = sym c.run_check.ensures.exact ∙ c.in_ok-run_check.was in
    let room = sym c.room_check.ensures.exact ∙ c.in_ok-room_check.was in
    sym (fit-checked (run_check c.args.p c.args.rs) (table_text c.args.p) c.args.page.now c.args.at lawful
    (rw c.rows_length-length.ensures.exact at room) _ c.put_rows.ensures.exact).1
