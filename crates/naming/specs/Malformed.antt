-- Refusal 2, by name: the line is empty; else its first character that is no digit; else an odd number of them; else it lacks its 0a. A
-- character comes ahead of the odd number, since a carriage return makes every line odd.
--     other_at bytes              how many digits stand ahead of the first other character; all of them where there is none
--     character_reason i b        the character b, which is the i-th of its line: a carriage return, a space, a capital letter, or another
--     malformed_reason bytes      of a line, by its bytes
use Rattle.std.specs.Prelude.{ℕ, suc, ◌%◌, cond, List, ltb, leb, eqb, length, get_or}
use Rattle.faults.specs.Checks.{in_bounds}
use Rattle.base.specs.Count.{least_from}
use Rattle.rules.specs.Text.{digit_of}
use Rattle.lines.specs.declared.reasons.Reason.{Reason}
use Rattle.lines.specs.declared.reasons.Reason.TheVariants.{Empty, CarriageReturn, Space, Capital, NoDigit, OddNumber, Unended}

unfoldable pub other_at : List ℕ → ℕ
other_at bytes = least_from (λ i. leb 16 (digit_of (get_or bytes i 0))) 0 (length bytes)

unfoldable pub character_reason : ℕ → ℕ → Reason
character_reason i b =
    cond (eqb b 0x0d) (CarriageReturn i) (cond (eqb b 0x20) (Space i) (cond (in_bounds 0x41 b 0x5a) (Capital i) (NoDigit i)))

unfoldable pub malformed_reason : List ℕ → Reason
malformed_reason bytes =
    cond (eqb (length bytes) 0) Empty
    (cond (ltb (other_at bytes) (length bytes)) (character_reason (suc (other_at bytes)) (get_or bytes (other_at bytes) 0))
    (cond (eqb (length bytes % 2) 0) Unended (OddNumber (length bytes))))
