-- the first line is the start, and the others are the diary
use Rattle.base.proofs.Prelude.{◌≤◌, sym, ap, ◌∙◌, arith, length, drop, length-take-le}
use Rattle.std.proofs.lemmas.Result.{err_from_is_err_and}
use Rattle.rules.specs.Text.{lines_of}
use Rattle.register.proofs.Walk.{first-within}
use Rattle.boards.specs.inner.Walk.{start_of, noting_of, entered_with}
use Rattle.boards.proofs.{Noting.end-within, InputRead.{start-refused, start-found, first-cut, first-behind}}
use Rattle.boards.proofs.entered.input_read.Goals as goal

pub slice_bounds-start_at-end : goal.slice_bounds-start_at-end
slice_bounds-start_at-end c =
    let text = c.args.text.now in
    let inside : c.line_end-end.result ≤ length text = omega (arith, c.line_end-end.ensures.exact, end-within text 0 (omega arith)) in
    sym (length-take-le c.line_end-end.result text inside)

pub returns-in_err-start-clause-exact : goal.returns-in_err-start-clause-exact
returns-in_err-start-clause-exact c =
    let text = c.args.text.now in
    let passed = err_from_is_err_and c.from_residual.result c.from_residual.ensures.1 in
    let said = c.in_err-start.ensures.exact ∙ ap (start_of c.args.run.0) (first-cut text _ c.line_end-end.ensures.exact) in
    rw (passed.1, passed.2) (start-refused c.args.run.0 text _ (sym said))

pub diary_in-requires : goal.diary_in-requires
diary_in-requires c =
    let text = c.args.text.now in
    let next = c.behind.ensures.exact ∙ first-behind text _ c.line_end-end.ensures.exact in
    omega (arith, next, first-within text)

pub returns-in_err-diary-clause-exact : goal.returns-in_err-diary-clause-exact
unfolding entered_with
returns-in_err-diary-clause-exact c =
    let text = c.args.text.now in
    let passed = err_from_is_err_and c.from_residual-in_err-diary.result c.from_residual-in_err-diary.ensures.1 in
    let said = c.in_ok-start.ensures.exact ∙ ap (start_of c.args.run.0) (first-cut text _ c.line_end-end.ensures.exact) in
    let next = c.behind.ensures.exact ∙ first-behind text _ c.line_end-end.ensures.exact in
    rw (passed.1, passed.2)
    (ap (entered_with c.in_ok-start.start) (c.in_err-diary.ensures.exact ∙ ap (λ place. noting_of (lines_of (drop place text))) next)
    ∙ start-found c.args.run.0 text c.in_ok-start.start (sym said))

pub returns-clause-exact : goal.returns-clause-exact
unfolding entered_with
returns-clause-exact c =
    let text = c.args.text.now in
    let said = c.in_ok-start.ensures.exact ∙ ap (start_of c.args.run.0) (first-cut text _ c.line_end-end.ensures.exact) in
    let next = c.behind.ensures.exact ∙ first-behind text _ c.line_end-end.ensures.exact in
    ap (entered_with c.in_ok-start.start) (c.in_ok-diary.ensures.exact ∙ ap (λ place. noting_of (lines_of (drop place text))) next)
    ∙ start-found c.args.run.0 text c.in_ok-start.start (sym said)
