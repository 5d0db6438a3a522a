-- The demand is the blocking and what the two kinds of strings ask, and it fits.
use Rattle.base.proofs.Prelude.{◌-◌, arith}
use Rattle.verdict.proofs.Asked.{asked_by-le, demand-parts}
use Rattle.verdict.proofs.ready.ReadyPlan.demand_at.Goals as goal

pub overflow_add-result : goal.overflow_add-result
overflow_add-result c =
    let kept = asked_by-le c.args.self.plan 0 c.args.l c.args.self.ready.lawful (omega arith) in
    omega arith

pub overflow_add-result-2 : goal.overflow_add-result-2
overflow_add-result-2 c =
    let p = c.args.self.plan in
    let lawful = c.args.self.ready.lawful in
    let kept = asked_by-le p 0 c.args.l lawful (omega arith) in
    let took = asked_by-le p 1 (c.args.l - c.args.b) lawful (omega arith) in
    omega arith

pub returns : goal.returns
returns c = omega (arith, demand-parts c.args.self.plan c.args.l c.args.b c.args.self.ready.lawful)
