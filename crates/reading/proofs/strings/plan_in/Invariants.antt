-- The array holds the strings read so far, and the filler behind them.
use Rattle.std.proofs.Common.{◌≡◌, map}
use Rattle.base.specs.Count.{filled}
use Rattle.rules.specs.{Plan.no_string, Text.string_of}
use Rattle.layouts.specs.inner.Versions.{meant_by}
use Rattle.reading.specs.inner.Positions.{line_at, lines_at}
use Rattle.reading.proofs.strings.plan_in.Given as goal

abbrev pub invariant-loop-i : goal.invariant-loop-i
invariant-loop-i l =
    l.strings
    ≡ filled 10 no_string (map (string_of (meant_by l.fn.version) (line_at l.text 0)) (lines_at l.text l.start l.layouts.string.line l.i))
