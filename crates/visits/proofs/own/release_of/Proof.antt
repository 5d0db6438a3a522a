-- `release_of` meets its contract: each arm is the definition's, and what it serves fits.
use Rattle.base.proofs.Prelude.{arith, rules}
use Rattle.visits.proofs.own.release_of.Statement.{statement}
use Rattle.visits.proofs.own.release_of.Tie as tie

cast-result : tie.Need-overflow_cast-result
cast-result c = omega (arith, rw c.in-Work.is at c.requires)

cast-result-2 : tie.Need-overflow_cast-result-in-Move
cast-result-2 c = omega (arith, rw c.in-Move.is at c.requires)

pub release_of_spec : {M : Type 1} → statement M
release_of_spec =
    tie.close (tie.spec
    (λ c. search rules) (λ c. search rules) cast-result (λ c. search rules) cast-result-2 (λ c. search rules) (λ c. search rules)
    (λ c. search rules))
