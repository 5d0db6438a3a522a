-- the lines of the strings so far stand at the head of the part
use Rattle.rules.specs.Plan.{strings_of}
use Rattle.layouts.specs.inner.Versions.{meant_by}
use Rattle.writing.specs.Written.{string_text}
use Rattle.writing.proofs.Rows.{Rows}
use Rattle.writing.proofs.lines.put_strings.Given as goal

abbrev pub invariant-loop-i : goal.invariant-loop-i
invariant-loop-i l = Rows (string_text (meant_by l.fn.version)) (strings_of l.fn.p) l.initial.part l.part l.i
