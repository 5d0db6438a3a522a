-- `naming::malformed::malformed_reason` meets its contract: each test is the definition's.
use Rattle.base.proofs.Prelude.{◌∙◌, arith, rules}
use Rattle.naming.proofs.Chosen.{is-empty, is-other, is-unended, is_odd}
use Rattle.naming.proofs.malformed.malformed_reason.Statement.{statement}
use Rattle.naming.proofs.malformed.malformed_reason.Tie as tie

pub malformed_reason_spec : {M : Type 1} → statement M
malformed_reason_spec =
    tie.close (tie.spec
    (λ c. is-empty _ (omega arith)) (λ c κs. search rules) (λ c. search rules) (λ c. omega arith) (λ c κs. search rules)
    (λ c. c.character_reason.ensures ∙ is-other _ _ c.other_at-at.ensures (omega arith))
    (λ c. is-unended _ _ c.other_at-at.ensures (omega arith) (λ e. omega arith) (omega arith))
    (λ c. is_odd _ _ c.other_at-at.ensures (omega arith) (λ e. omega arith) (λ e. omega arith)))
