use Rattle.std.proofs.Common.{arith}
use Rattle.laws.proofs.Lawful.{plan_check-lawful}
use Rattle.why.proofs.checked.CheckedPlan.strings.Goals as goal

pub shared_ref_as_front-result : goal.shared_ref_as_front-result
shared_ref_as_front-result c = omega (arith, (plan_check-lawful _ c.args.self.now.lawful).n_max)
