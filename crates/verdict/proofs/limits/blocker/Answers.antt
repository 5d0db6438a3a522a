-- E is a day at least.
use Rattle.base.proofs.Prelude.{arith}
use Rattle.laws.proofs.Demand.{hold_of-work}
use Rattle.verdict.proofs.limits.blocker.Goals as goal

pub overflow_sub-result : goal.overflow_sub-result
overflow_sub-result c = omega (arith, c.hold.ensures, hold_of-work c.args.p c.args.s, c.requires.lawful.c_pos)
