-- the list holds the releases up to the place, and the filler behind them
use Rattle.std.proofs.Common.{◌≡◌, ◌*◌, map}
use Rattle.base.specs.Count.{up_from, filled}
use Rattle.rules.specs.Release.{no_release}
use Rattle.entries.specs.Given.{release_from}
use Rattle.entries.proofs.given.releases_given.Given as goal

abbrev pub invariant-loop-i : goal.invariant-loop-i
invariant-loop-i l = l.list ≡ filled 1000 no_release (map (λ k. release_from l.numbers (k * 4)) (up_from 0 l.i))
