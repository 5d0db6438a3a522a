-- A mark more.
use Rattle.base.proofs.Prelude.{◌+◌, ◌≡◌, sym, ap, ◌∙◌, map, arith, length-set, set, take, take_all}
use Rattle.bars.specs.{Bars.{no_column, day_mark}, inner.Drawing.cols_of}
use Rattle.bars.proofs.Filling.{cells-more, cols-many}
use Rattle.bars.proofs.columns.day_marks.Goals as goal

pub loop-i-preserved : goal.loop-i-preserved
loop-i-preserved c =
    let w = c.loop-i.invariant in
    let items = cols_of c.args.drawn in
    let i = c.loop-i.i in
    let many = cols-many c.args.drawn c.requires in
    record {
      listed = w.listed;
      room = length-set c.loop-i.marks i c.day_mark.result ∙ w.room;
      same = ap (λ m. take (i + 1) (set c.loop-i.marks i m)) c.day_mark.ensures.exact
          ∙ cells-more day_mark items no_column c.loop-i.marks i c.loop-i-test.true (omega (arith, w.room, c.requires.few, many)) w.same;
    }

pub returns : goal.returns
returns c =
    let d = c.args.drawn in
    let many = cols-many d c.requires in
    let all : c.loop-i.i ≡ d.count = omega (arith, many) in
    record {
      exact = ap (λ k. take k c.loop-i.marks) (sym all) ∙ c.loop-i.invariant.same
          ∙ ap (map day_mark) (take_all c.loop-i.i (cols_of d) (omega (arith, many)));
    }
