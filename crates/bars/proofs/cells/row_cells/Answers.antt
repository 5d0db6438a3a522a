-- Place by place, the bar of the column's first day.
use Rattle.base.proofs.Prelude.{ℕ, ◌+◌, ◌≡◌, sym, ap, ◌∙◌, map, arith, length-set, set, take, take_all}
use Rattle.rules.specs.Release.{releases_of}
use Rattle.bars.specs.{declared.Column.Column, Bars.{no_column, bar_in}, inner.Drawing.{uses_told, cols_of}}
use Rattle.bars.proofs.Filling.{cells-more, cols-many}
use Rattle.bars.proofs.cells.row_cells.Goals as goal

pub loop-i-preserved : goal.loop-i-preserved
loop-i-preserved c =
    let g = c.args in
    let w = c.loop-i.invariant in
    let i = c.loop-i.i in
    let fits = c.requires.up_to_seventy in
    let many = cols-many g.drawn fits in
    let bar : Column → ℕ = λ x. bar_in g.p (releases_of g.rs) (uses_told g.list.now g.stints) g.days g.place x.first in
    record {
      listed = w.listed;
      room = length-set c.loop-i.cells i c.bar_on.result ∙ w.room;
      same = ap (λ m. take (i + 1) (set c.loop-i.cells i m)) c.bar_on.ensures.exact
          ∙ cells-more bar (cols_of g.drawn) no_column c.loop-i.cells i c.loop-i-test.true (omega (arith, w.room, fits.few, many)) w.same;
    }

pub returns : goal.returns
returns c =
    let g = c.args in
    let many = cols-many g.drawn c.requires.up_to_seventy in
    let all : c.loop-i.i ≡ g.drawn.count = omega (arith, many) in
    let bar : Column → ℕ = λ x. bar_in g.p (releases_of g.rs) (uses_told g.list.now g.stints) g.days g.place x.first in
    record {
      exact = ap (λ k. take k c.loop-i.cells) (sym all) ∙ c.loop-i.invariant.same
          ∙ ap (map bar) (take_all c.loop-i.i (cols_of g.drawn) (omega (arith, many)));
    }
