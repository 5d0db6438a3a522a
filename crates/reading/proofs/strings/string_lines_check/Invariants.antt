-- The lines that are left, from the one reached on, give what all of them give.
use Rattle.std.proofs.Common.{◌≡◌, ◌+◌, ◌*◌, ◌≤◌, length}
use Rattle.rules.specs.Text.{string_lines_check}
use Rattle.layouts.specs.inner.Versions.{meant_by}
use Rattle.reading.specs.inner.Positions.{lines_from, line_at}
use Rattle.reading.proofs.StringLines.{strings_left}
use Rattle.reading.proofs.strings.string_lines_check.Given as goal

abbrev pub invariant-loop-i : goal.invariant-loop-i
invariant-loop-i l =
    record {
      inside : l.start + l.i * l.line ≤ length l.text;
      left : strings_left (meant_by l.fn.version) l.text l.line l.start l.fn.n l.i
          ≡ string_lines_check (meant_by l.fn.version) (line_at l.text 0) 2 l.fn.n (lines_from l.text l.start);
    }
