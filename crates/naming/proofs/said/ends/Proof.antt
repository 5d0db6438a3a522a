-- `naming::said::ends` meets its contract: the test is the definition's.
use Rattle.base.proofs.Prelude.{eq-eqb, ne_eqb}
use Rattle.naming.proofs.said.ends.Statement.{statement}
use Rattle.naming.proofs.said.ends.Tie as tie

pub ends_spec : {M : Type 1} → statement M
ends_spec = tie.close (tie.spec (λ c. rw (eq-eqb _ 10 c.if-b-eq10.true)) (λ c. rw (ne_eqb _ 10 c.if-b-eq10.false)))
