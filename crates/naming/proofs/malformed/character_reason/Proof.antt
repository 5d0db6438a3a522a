-- `naming::malformed::character_reason` meets its contract: each test is the definition's.
use Rattle.base.proofs.Prelude.{arith}
use Rattle.naming.proofs.Chosen.{is-return, is-space, is-low, is-high, is-capital}
use Rattle.naming.proofs.malformed.character_reason.Statement.{statement}
use Rattle.naming.proofs.malformed.character_reason.Tie as tie

pub character_reason_spec : {M : Type 1} → statement M
character_reason_spec =
    tie.close (tie.spec
    (λ c. is-return _ _ (omega arith)) (λ c. is-space _ _ (omega arith))
    (λ c. is-low _ _ (λ e. omega arith) (λ e. omega arith) (omega arith)) (λ c. is-high _ _ (omega arith))
    (λ c. is-capital _ _ (omega arith) (omega arith)))
