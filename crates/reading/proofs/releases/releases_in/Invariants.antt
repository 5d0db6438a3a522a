-- The array holds the releases read so far, and the filler behind them.
use Rattle.std.proofs.Common.{◌≡◌, map}
use Rattle.base.specs.Count.{filled}
use Rattle.rules.specs.{Release.no_release, Text.release_of}
use Rattle.layouts.specs.inner.Versions.{meant_by}
use Rattle.reading.specs.inner.Positions.{lines_at}
use Rattle.reading.proofs.releases.releases_in.Given as goal

abbrev pub invariant-loop-i : goal.invariant-loop-i
invariant-loop-i l = l.list ≡ filled 1000 no_release (map (release_of (meant_by l.fn.version)) (lines_at l.text l.start l.line l.i))
