-- `bars::cells::is_left` meets its contract: a release that is drawn, and less work than it needs.
use Rattle.base.proofs.Prelude.{◌≡◌, true, false, sym, ap, ◌∙◌, ltb, rules}
use Rattle.bars.specs.Bars.{drawn_on}
use Rattle.bars.proofs.cells.is_left.Statement.{statement}
use Rattle.bars.proofs.cells.is_left.Tie as tie

returns : tie.Need-returns-then-is_drawn
returns c =
    let asked = c.before.before.before in
    let g = asked.args in
    let here : drawn_on g.p g.place g.going g.t g.r ≡ true = sym asked.is_drawn.ensures ∙ c.if-is_drawn.true in
    rw here (ap (λ n. ltb n g.r.need.0) c.worked_before.ensures)

returns-2 : tie.Need-returns
returns-2 c =
    let asked = c.before in
    let g = asked.args in
    let other : drawn_on g.p g.place g.going g.t g.r ≡ false = sym asked.is_drawn.ensures ∙ c.if-is_drawn.false in
    rw other

pub is_left_spec : {M : Type 1} → statement M
is_left_spec = tie.close (tie.spec (λ c κs. c.requires) (λ c κs. search rules) returns returns-2)
