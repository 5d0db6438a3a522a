-- the rows of the strings so far stand at the head of the part
use Rattle.base.proofs.Prelude.{◌≡◌, length, take}
use Rattle.rules.specs.Plan.{strings_of}
use Rattle.writing.proofs.Texts.{TextStands}
use Rattle.register.proofs.RowTexts.{rows_text}
use Rattle.register.proofs.rows.put_rows.Given as goal

abbrev pub invariant-loop-s : goal.invariant-loop-s
invariant-loop-s l =
    record {
      long : l.at ≡ length (rows_text (take l.s-index (strings_of l.fn.p)));
      rows : TextStands l.initial.part (rows_text (take l.s-index (strings_of l.fn.p))) l.part;
    }
