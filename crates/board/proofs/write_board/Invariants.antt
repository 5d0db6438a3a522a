use Rattle.std.proofs.Common.{◌-◌, ◌≤◌}
use Rattle.board.proofs.write_board.Given as goal

abbrev pub invariant-loop-from : goal.invariant-loop-from
invariant-loop-from l = l.from ≤ 146097

abbrev pub decreases-loop-from : goal.decreases-loop-from
decreases-loop-from l = 146097 - l.from
