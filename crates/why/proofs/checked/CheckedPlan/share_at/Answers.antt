-- the place is one of the plan's
use Rattle.base.proofs.Prelude.{ℕ, ◌-◌, ◌≤◌, ◌<◌, arith}
use Rattle.std.proofs.Common.{rules}
use Rattle.std.proofs.lemmas.Grind.{common_steps}
use Rattle.verdict.proofs.StringSums.{string-at}
use Rattle.why.proofs.Walking.{ready}
use Rattle.why.proofs.checked.CheckedPlan.share_at.Goals as goal

pub offset_bounds-self-place : goal.offset_bounds-self-place
offset_bounds-self-place c =
    let few : c.args.self.now.plan.n ≤ 10 = (ready c.args.self.now).lawful.n_max in
    grind (arith, common_steps)

pub bounds-self-place : goal.bounds-self-place
bounds-self-place c =
    let few : c.args.self.now.plan.n ≤ 10 = (ready c.args.self.now).lawful.n_max in
    search rules

pub jobs_within-requires : goal.jobs_within-requires
jobs_within-requires c =
    let p = c.args.self.now in
    let there : c.args.place - 1 < p.plan.n = search rules in
    (string-at p.plan (ready p) (c.args.place - 1) there).lawful

pub hold_of-requires : goal.hold_of-requires
hold_of-requires c =
    let p = c.args.self.now in
    let there : c.args.place - 1 < p.plan.n = search rules in
    string-at p.plan (ready p) (c.args.place - 1) there
