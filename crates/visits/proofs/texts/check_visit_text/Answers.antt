-- The plan and its releases come first, then the length of the text, then its lines, then what they say.
use Rattle.base.proofs.Prelude.{sym, ◌∙◌}
use Rattle.std.proofs.lemmas.Result.{err_from_is_err_and}
use Rattle.visits.proofs.Lines.{text-refused, text-over, text-lines, walked-start, walked-fit, walked-kept, walked-broken, walked-no-visit, walked-smaller, walked-visited, walked-past}
use Rattle.visits.proofs.texts.check_visit_text.Goals as goal

pub returns-in_err-book-clause-exact : goal.returns-in_err-book-clause-exact
returns-in_err-book-clause-exact c =
    let p = err_from_is_err_and c.from_residual.result c.from_residual.ensures.1 in
    rw (p.1, p.2) (text-refused c.args.p c.args.rs c.args.text.now _ c.in_err-book.ensures.exact)

pub returns-then-text-gt65536-clause-exact : goal.returns-then-text-gt65536-clause-exact
returns-then-text-gt65536-clause-exact c =
    text-over c.args.p c.args.rs c.args.text.now c.in_ok-book.ensures.exact.run c.if-text-gt65536.true

pub loop-at-init : goal.loop-at-init
loop-at-init c =
    walked-start c.args.p c.args.rs c.args.text.now _ c.well_formed.1.0.1.1.1.0.1.0.1 c.in_ok-book.ensures.exact

pub returns-in_default-clause-exact : goal.returns-in_default-clause-exact
returns-in_default-clause-exact c =
    walked-no-visit _ _ _ _ _ _ _ c.loop-at.invariant c.loop-at-test.true _ c.three_at-read.ensures.exact c.in_default.is
    ∙ text-lines c.args.p c.args.rs c.args.text.now c.in_ok-book.ensures.exact.run c.if-text-gt65536.false

pub visited-broken-requires : goal.visited-broken-requires
visited-broken-requires c = walked-fit _ _ _ _ _ _ _ c.loop-at.invariant (sym c.if-is_ok.ensures.value)

pub loop-at-smaller-then-is_ok : goal.loop-at-smaller-then-is_ok
loop-at-smaller-then-is_ok c =
    walked-smaller _ _ _ _ _ _ _ c.loop-at.invariant c.loop-at-test.true _ c.three_at-read.ensures.exact _ c.in-Some.is

pub loop-at-smaller : goal.loop-at-smaller
loop-at-smaller c =
    walked-smaller _ _ _ _ _ _ _ c.loop-at.invariant c.loop-at-test.true _ c.three_at-read.ensures.exact _ c.in-Some.is

pub loop-at-preserved-then-is_ok : goal.loop-at-preserved-then-is_ok
loop-at-preserved-then-is_ok c =
    walked-visited _ _ _ _ _ _ _ c.loop-at.invariant c.loop-at-test.true _ c.three_at-read.ensures.exact _ c.in-Some.is _ _ _
    c.visit_from.ensures.exact (sym c.if-is_ok.ensures.value) c.visited-broken.ensures.exact c.visited-broken.ensures.book

pub loop-at-preserved : goal.loop-at-preserved
loop-at-preserved c =
    walked-past _ _ _ _ _ _ _ c.loop-at.invariant c.loop-at-test.true _ c.three_at-read.ensures.exact _ c.in-Some.is
    (sym c.if-is_ok.ensures.value)

pub returns-in_err-broken-clause-exact : goal.returns-in_err-broken-clause-exact
returns-in_err-broken-clause-exact c =
    let r = c.from_residual-in_err-broken in
    let p = err_from_is_err_and r.result r.ensures.1 in
    rw (p.1, p.2)
    (walked-broken _ _ _ _ _ _ _ c.loop-at.invariant c.loop-at-test.false _ c.in_err-broken.was
    ∙ text-lines c.args.p c.args.rs c.args.text.now c.in_ok-book.ensures.exact.run c.if-text-gt65536.false)

pub returns-clause-exact : goal.returns-clause-exact
returns-clause-exact c =
    c.sums_checked.ensures.exact ∙ walked-kept _ _ _ _ _ _ _ c.loop-at.invariant c.loop-at-test.false c.in_ok-broken.was
    ∙ text-lines c.args.p c.args.rs c.args.text.now c.in_ok-book.ensures.exact.run c.if-text-gt65536.false
