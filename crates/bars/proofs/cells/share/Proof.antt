-- `bars::cells::share` meets its contract: all days where the work is for the release, and none elsewhere.
use Rattle.base.proofs.Prelude.{rules, eq-eqb, ne_eqb}
use Rattle.bars.proofs.cells.share.Statement.{statement}
use Rattle.bars.proofs.cells.share.Tie as tie

returns : tie.Need-returns-then-serves-k
returns c = rw (c.in-Work.is, eq-eqb _ _ c.if-serves-k.true)

returns-3 : tie.Need-returns-else-serves-k
returns-3 c = rw (c.in-Work.is, ne_eqb _ _ c.if-serves-k.false)

pub share_spec : {M : Type 1} → statement M
share_spec =
    tie.close (tie.spec
    (λ c. search rules) (λ c. search rules) returns (λ c. search rules) (λ c. search rules) returns-3 λ c. search rules)
