-- the array holds the strings up to the place, and the filler behind them
use Rattle.std.proofs.Common.{◌≡◌, ◌+◌, ◌*◌, map}
use Rattle.base.specs.Count.{up_from, filled}
use Rattle.rules.specs.Plan.{no_string}
use Rattle.entries.specs.Given.{string_from}
use Rattle.entries.proofs.given.plan_given.Given as goal

abbrev pub invariant-loop-i : goal.invariant-loop-i
invariant-loop-i l = l.strings ≡ filled 10 no_string (map (λ k. string_from l.numbers (1 + k * 6)) (up_from 0 l.i))
