-- The bytes read so far write the number so far, and each is below 256.
use Rattle.std.proofs.Common.{◌≡◌, ◌<◌, ◌^◌}
use Rattle.reading.specs.inner.Positions.{number_in}
use Rattle.reading.proofs.digits.field_of.Given as goal

abbrev pub invariant-loop-i : goal.invariant-loop-i
invariant-loop-i l = record { read : l.number ≡ number_in l.frame 0 l.field.at l.i; below : l.number < 256 ^ l.i }
