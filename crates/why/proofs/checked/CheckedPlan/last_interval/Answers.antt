-- the largest D and H are small, and H is not 0
use Rattle.std.proofs.Common.{arith}
use Rattle.laws.proofs.Lawful.{d_max-le}
use Rattle.why.proofs.Walking.{ready}
use Rattle.why.proofs.checked.CheckedPlan.last_interval.Goals as goal

pub overflow_add-result : goal.overflow_add-result
overflow_add-result c =
    let p = c.args.self.now in
    omega (arith, (ready p).lawful.h_max, d_max-le p.plan (ready p).lawful)

pub overflow_sub-result : goal.overflow_sub-result
overflow_sub-result c = omega (arith, (ready c.args.self.now).lawful.h_pos)
