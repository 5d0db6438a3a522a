-- What the numbers of one string are, as the code reckons them, and that they are small.
use Rattle.base.proofs.Prelude.{ℕ, ◌+◌, ◌-◌, ◌*◌, ◌/◌, ◌≤◌, ◌<◌, ◌≡◌, sym, ap, ◌∙◌, arith, mul-le-mul, get_or}
use Rattle.rules.specs.{declared.BatteryString.BatteryString, declared.Plan.Plan, Plan.no_string, Demand.{moving_cost, hold_of, jobs, need, blocker_hold}}
use Rattle.laws.proofs.{Jobs.{jobs-short, jobs-from}, Lawful.{LawfulString, PlanString}, Demand.{hold_of-le, hold_of-work, blocker_hold-early, blocker_hold-late}}
use Rattle.exact.specs.Missing.{delay_of, most_late}
use Rattle.exact.proofs.{Freely.delay_of-le, Exact.most_late-le}
use Rattle.verdict.specs.inner.Asked.{Ready}
use Rattle.verdict.proofs.{Asked.{jobs-le, work-le}, StringSums.string-at}
use Rattle.tries.proofs.SharpBreaks.{need-own}

module _ (p : Plan) (s : BatteryString) (ok : PlanString p s) where
  pub moving_small : moving_cost p s * s.x ≤ 1000
  moving_small = omega (arith, mul-le-mul ok.cost_max ok.lawful.x_max)

  pub hold_small : hold_of p s ≤ 2000
  hold_small = hold_of-le p s ok

  pub hold_some : 1 ≤ hold_of p s
  hold_some = omega (arith, hold_of-work p s, ok.lawful.c_pos)

module _ (s : BatteryString) (w : ℕ) (ok : LawfulString s) where
  pub jobs_none : w < s.d.0 - s.j.0 → jobs s w ≡ 0
  jobs_none h = jobs-short s w (omega (arith, ok.j_max))

  pub jobs_some : s.d.0 - s.j.0 ≤ w → jobs s w ≡ (w - (s.d.0 - s.j.0)) / s.t.0 + 1
  jobs_some h =
      let late = ok.j_max in
      let same : w + s.j.0 - s.d.0 ≡ w - (s.d.0 - s.j.0) = omega arith in
      jobs-from s w (omega arith) ∙ ap (λ n. n / s.t.0 + 1) same

  pub jobs_few : jobs s w ≤ w
  jobs_few = jobs-le s w ok

pub delay_small : (b : ℕ) (s : BatteryString) → delay_of b s ≤ b
delay_small = delay_of-le

pub need_is : (p : Plan) (l b : ℕ) (s : BatteryString) → PlanString p s → need p l b s ≡ jobs s (l - delay_of b s) * hold_of p s
need_is p l b s ok = need-own p l b s ok.lawful.x_max

pub work_small : (p : Plan) (w : ℕ) (s : BatteryString) → PlanString p s → w ≤ 101000 → jobs s w * hold_of p s ≤ 202000000
work_small = work-le

pub ruleset holds = (moving_small, hold_small, hold_some)

pub ruleset windows = (jobs_none, jobs_some, jobs_few)

pub ruleset asked = (delay_small, need_is, work_small)

-- ---- The days before the first release, and the string at a place

pub most_small : (p : Plan) → Ready p → most_late p ≤ 999
most_small p ready = most_late-le p ready.lawful

pub of_plan : (p : Plan) → Ready p → (i : ℕ) → i < p.n → PlanString p (get_or p.strings i no_string)
of_plan = string-at

pub ruleset begins = (most_small, of_plan, hold_small, hold_some)
