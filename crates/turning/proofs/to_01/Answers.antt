-- The reader of version 02 decides, then the writer of version 01, whose places become lines.
use Rattle.std.proofs.Common.{sym, ap, ◌∙◌}
use Rattle.std.proofs.lemmas.Result.{err_from_is_err_and}
use Rattle.rules.specs.Layout.{version01, version02}
use Rattle.turning.specs.Turned.{on_line, place_in}
use Rattle.turning.proofs.AsWritten.{turn-refusal, turn-file, place_small, lined}
use Rattle.turning.proofs.to_01.Goals as goal

pub returns-in_err-plan-clause-exact : goal.returns-in_err-plan-clause-exact
returns-in_err-plan-clause-exact c =
    let p = err_from_is_err_and c.from_residual.result c.from_residual.ensures.1 in
    let said = turn-refusal version02 version01 c.args.text.now c.args.page.now c.args.at _ c.in_err-plan.ensures.exact in
    rw (p.1, p.2) said.0

pub returns-in_err-plan-clause-page : goal.returns-in_err-plan-clause-page
returns-in_err-plan-clause-page c =
    (turn-refusal version02 version01 c.args.text.now c.args.page.now c.args.at _ c.in_err-plan.ensures.exact).1

pub map_err-requires : goal.map_err-requires
map_err-requires c e h =
    let small = place_small version02 version01 c.args.text.now c.args.page.now c.args.at _ c.in_ok-plan.ensures.exact in
    rw (ap place_in (sym h ∙ c.write_01.ensures.exact)) small

pub returns-clause-exact : goal.returns-clause-exact
returns-clause-exact c =
    let said = turn-file version02 version01 c.args.text.now c.args.page.now c.args.at _ c.in_ok-plan.ensures.exact in
    lined _ _ c.map_err.ensures.cases ∙ ap on_line c.write_01.ensures.exact ∙ said.0

pub returns-clause-page : goal.returns-clause-page
returns-clause-page c =
    c.write_01.ensures.page ∙ (turn-file version02 version01 c.args.text.now c.args.page.now c.args.at _ c.in_ok-plan.ensures.exact).1
