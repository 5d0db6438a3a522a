-- One record more is checked against those before it, and at the end the sums decide.
use Rattle.base.proofs.Prelude.{refl, sym, ◌∙◌}
use Rattle.std.proofs.lemmas.Result.{err_from_is_err_and}
use Rattle.visits.proofs.Reached.{far-start, far-fit, far-refused, far-more, far-stop, far-whole}
use Rattle.visits.proofs.check_visits.Goals as goal

pub loop-i-init : goal.loop-i-init
loop-i-init c = far-start c.args.p c.args.rs c.args.visits.now _ c.well_formed.1.0.1.1.1.0.1.0.1 c.in_ok-book.ensures.exact

pub returns-in_err-book : goal.returns-in_err-book
returns-in_err-book c =
    let p = err_from_is_err_and c.from_residual.result c.from_residual.ensures.1 in
    record { exact = (rw (p.1, p.2) (sym (far-refused c.args.p c.args.rs c.args.visits.now _ c.in_err-book.ensures.exact)), refl) }

pub visited-requires : goal.visited-requires
visited-requires c = far-fit _ _ _ _ _ _ c.loop-i.invariant

pub returns-in_err-visited : goal.returns-in_err-visited
returns-in_err-visited c =
    let r = c.from_residual-in_err-visited in
    let p = err_from_is_err_and r.result r.ensures.1 in
    record {
      exact = (rw (p.1, p.2) (far-stop _ _ _ _ _ c.loop-i.invariant c.loop-i-test.true _ c.in_err-visited.ensures.exact), refl);
    }

pub loop-i-preserved : goal.loop-i-preserved
loop-i-preserved c =
    rw c.in_ok-visited.ensures.book
    (far-more c.args.p c.args.rs c.args.visits.now c.loop-i.i c.loop-i.book c.loop-i.invariant c.loop-i-test.true
    c.in_ok-visited.ensures.exact)

pub returns : goal.returns
returns c =
    record {
      exact = (c.sums_checked.ensures.exact ∙ far-whole _ _ _ _ _ c.loop-i.invariant c.loop-i-test.false, refl);
    }
