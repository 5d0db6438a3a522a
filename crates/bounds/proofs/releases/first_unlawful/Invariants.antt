-- what is remembered is what the releases seen say
use Rattle.std.proofs.Common.{◌≡◌}
use Rattle.rules.specs.Release.{releases_of}
use Rattle.bounds.proofs.ReleaseWalk.{Walk}
use Rattle.bounds.proofs.releases.first_unlawful.Given as goal

abbrev pub invariant-loop-i : goal.invariant-loop-i
invariant-loop-i l = record { counted : l.r-items ≡ releases_of l.fn.rs; walk : Walk l.fn.p l.r-items l.last l.latest l.i }
