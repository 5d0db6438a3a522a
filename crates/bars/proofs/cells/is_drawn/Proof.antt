-- `bars::cells::is_drawn` meets its contract: the place decides first, then the day.
use Rattle.base.proofs.Prelude.{◌+◌, ◌-◌, ◌≡◌, sym, ap, ◌∙◌, eqb, arith, rules, eq-eqb, ne_eqb, get_or, get_or-take}
use Rattle.rules.specs.{Plan.{string_at, no_string}}
use Rattle.bars.specs.Bars.{drawn_on}
use Rattle.bars.proofs.cells.is_drawn.Statement.{statement}
use Rattle.bars.proofs.cells.is_drawn.Tie as tie

returns : tie.Need-returns-then-r-place
unfolding drawn_on
returns c =
    let g = c.args in
    rw (ne_eqb g.r.place g.place c.if-r-place.true)

returns-2 : tie.Need-returns-then-going
unfolding drawn_on
returns-2 c =
    let g = c.args in
    rw (eq-eqb g.r.place g.place c.if-r-place.false, c.if-going.true)

returns-3 : tie.Need-returns
unfolding drawn_on
returns-3 c =
    let other = c.before.before.before.before in
    let start = other.before.before.before in
    let g = start.args in
    let same = other.if-r-place.false in
    let string : string_at g.p g.r.place ≡ get_or g.p.strings (g.place - 1) no_string =
    ap (string_at g.p) same
    ∙ get_or-take g.p.n g.p.strings (g.place - 1) no_string (omega (arith, start.requires.0, start.requires.1.0)) in
    rw (eq-eqb g.r.place g.place same, other.if-going.false) (ap (λ s. eqb (g.r.due.0 + s.d.0) g.t) (sym string))

pub is_drawn_spec : {M : Type 1} → statement M
is_drawn_spec =
    tie.close (tie.spec
    returns returns-2 (λ c. search rules) (λ c. search rules) (λ c. search rules) (λ c. search rules) (λ c. search rules)
    (λ c. search rules) returns-3)
