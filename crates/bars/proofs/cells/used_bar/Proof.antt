-- `bars::cells::used_bar` meets its contract: the use decides, where it is for the place.
use Rattle.base.proofs.Prelude.{rules, eq-eqb, ne_eqb}
use Rattle.bars.proofs.cells.used_bar.Statement.{statement}
use Rattle.bars.proofs.cells.used_bar.Tie as tie

returns : tie.Need-returns-then-for_place-place
returns c = rw (c.in-Work.is, eq-eqb _ _ c.if-for_place-place.true)

returns-2 : tie.Need-returns-then-for_place-place-2
returns-2 c = rw (c.in-Move.is, eq-eqb _ _ c.if-for_place-place-2.true)

returns-4 : tie.Need-returns-else-for_place-place
returns-4 c = rw (c.in-Work.is, ne_eqb _ _ c.if-for_place-place.false)

returns-5 : tie.Need-returns-else-for_place-place-2
returns-5 c = rw (c.in-Move.is, ne_eqb _ _ c.if-for_place-place-2.false)

pub used_bar_spec : {M : Type 1} → statement M
used_bar_spec =
    tie.close (tie.spec
    (λ c. search rules) (λ c. search rules) returns (λ c. search rules) returns-2 (λ c. search rules) returns-4 returns-5)
