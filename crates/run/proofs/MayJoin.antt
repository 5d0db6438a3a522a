-- A lawful release may join: its string is one of the plan's, so its deadline is a day of the code.
use Rattle.base.proofs.Prelude.{◌-◌, ◌<◌, ◌≡◌, arith, length, length-take-le}
use Rattle.rules.specs.{declared.Plan.Plan, declared.Release.Release, Plan.{strings_of, no_string}}
use Rattle.base.proofs.Lists.{all-at}
use Rattle.laws.proofs.{Lawful.{LawfulString, LawfulPlan}, ReleaseList.LawfulRelease}
use Rattle.run.specs.inner.Join.{Joins}

pub listed-joins : (p : Plan) (r : Release) → LawfulPlan p → length p.strings ≡ 10 → LawfulRelease p r → Joins p r
listed-joins p r plan ten listed =
    let count = length-take-le p.n p.strings (omega (arith, plan.n_max)) in
    let some : r.place - 1 < length (strings_of p) = omega (arith, listed.place_pos, listed.place_max) in
    let string = all-at LawfulString (strings_of p) no_string plan.each (r.place - 1) some in
    record {
      n_max = plan.n_max;
      low = listed.place_pos;
      high = listed.place_max;
      due = omega (arith, string.t_max, string.d_max, listed.early, plan.run_max);
    }
