-- the digits of the bytes so far stand at the head of the part
use Rattle.base.proofs.Prelude.{◌≡◌}
use Rattle.writing.specs.Written.{byte_text, number_bytes}
use Rattle.writing.proofs.Rows.{Rows}
use Rattle.writing.proofs.digits.put_number.Given as goal

abbrev pub invariant-loop-i : goal.invariant-loop-i
invariant-loop-i l =
    record {
      bytes : l.b-items ≡ number_bytes l.fn.size l.fn.n;
      stand : Rows byte_text (number_bytes l.fn.size l.fn.n) l.initial.part l.part l.i;
    }
