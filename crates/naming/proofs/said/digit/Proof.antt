-- `naming::said::digit` meets its contract: the tests say between which bytes this one lies.
use Rattle.base.proofs.Prelude.{sym, arith, rules}
use Rattle.reading.proofs.Hex.{digit_of-number, digit_of-letter, digit_of-other}
use Rattle.naming.proofs.said.digit.Statement.{statement}
use Rattle.naming.proofs.said.digit.Tie as tie

pub digit_spec : {M : Type 1} → statement M
digit_spec =
    tie.close (tie.spec
    (λ c. sym (digit_of-other _ (λ h k. omega arith) (λ h k. omega arith)))
    (λ c. sym (digit_of-number _ (omega arith) (omega arith)))
    (λ c. sym (digit_of-other _ (λ h k. omega arith) (λ h k. omega arith))) (λ c. search rules)
    (λ c. sym (digit_of-letter _ (omega arith) (omega arith)))
    (λ c. sym (digit_of-other _ (λ h k. omega arith) (λ h k. omega arith))))
