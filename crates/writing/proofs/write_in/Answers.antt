-- The check decides first; then the room, and the part from the place on comes back with the text ahead.
use Rattle.base.proofs.Prelude.{◌∙◌, sym, rules}
use Rattle.layouts.specs.inner.Versions.{meant_by}
use Rattle.writing.specs.Saved.{no_room, writable_check, saved_text, save_check, saved_answer, saved_page}
use Rattle.writing.proofs.Saving.{writable-run, room-there, plan-fits, fit-checked}
use Rattle.writing.proofs.write_in.Goals as goal

pub text_length-length-requires : goal.text_length-length-requires
text_length-length-requires c =
    writable-run (meant_by c.args.version) c.args.p c.args.rs (sym c.writable_check.ensures.exact ∙ c.in_ok-writable_check.was)

pub put_plan-requires : goal.put_plan-requires
put_plan-requires c =
    let lawful = sym c.writable_check.ensures.exact ∙ c.in_ok-writable_check.was in
    let room = sym c.room_check.ensures.exact ∙ c.in_ok-room_check.was in
    let there = room-there c.args.page.now c.args.at c.text_length-length.result room in
    plan-fits (meant_by c.args.version) c.args.p c.args.rs (writable-run (meant_by c.args.version) c.args.p c.args.rs lawful)
    (c.well_formed.0.1.1.1.1.0.1.0.1) (c.well_formed.1.0.1.1.1.0.1.0.1) c.args.page.now c.args.at there.0
    (rw (← c.text_length-length.ensures.exact) there.1)

pub returns-clause-page : goal.returns-clause-page
unfolding saved_page save_check saved_text
returns-clause-page c =
    let v = meant_by c.args.version in
    let lawful = sym c.writable_check.ensures.exact ∙ c.in_ok-writable_check.was in
    let room = sym c.room_check.ensures.exact ∙ c.in_ok-room_check.was in
    sym (fit-checked (writable_check v c.args.p c.args.rs) (saved_text v c.args.p c.args.rs) c.args.page.now c.args.at lawful
    (rw c.text_length-length.ensures.exact at room) _ c.put_plan.ensures.exact).1

pub returns-in_err-room_check-clause-exact : goal.returns-in_err-room_check-clause-exact
unfolding saved_answer save_check no_room
returns-in_err-room_check-clause-exact c = search rules

pub returns-in_err-room_check-clause-page : goal.returns-in_err-room_check-clause-page
unfolding saved_page save_check no_room
returns-in_err-room_check-clause-page c = search rules

pub returns-clause-exact : goal.returns-clause-exact
unfolding saved_answer save_check no_room
returns-clause-exact c = search rules
