-- the length of the rows so far
use Rattle.base.proofs.Prelude.{◌*◌, ◌≤◌, ◌≡◌, length, take}
use Rattle.rules.specs.Plan.{strings_of}
use Rattle.register.proofs.RowTexts.{rows_text}
use Rattle.register.proofs.rows.rows_length.Given as goal

abbrev pub invariant-loop-s : goal.invariant-loop-s
invariant-loop-s l =
    record { small : l.length ≤ 256 * l.s-index; rows : l.length ≡ length (rows_text (take l.s-index (strings_of l.fn.p))) }
