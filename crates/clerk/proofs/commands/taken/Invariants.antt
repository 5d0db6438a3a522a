use Rattle.std.proofs.Common.{◌≤◌, length}
use Rattle.clerk.proofs.commands.taken.Given as goal

abbrev pub invariant-loop-i : goal.invariant-loop-i
invariant-loop-i l = l.at ≤ length l.room
