-- When the loops of this crate may start.
use Rattle.base.proofs.Prelude.{ℕ, ◌≡◌, length}
use Rattle.faults.specs.Checks.{Lawful}
use Rattle.rules.specs.{declared.Plan.Plan, Refusal.{plan_check, set_check}, Search.with_set}
use Rattle.laws.proofs.{Answers.set-plan, Lawful.plan_check-lawful}
use Rattle.verdict.specs.inner.Asked.{Ready}
use Rattle.verdict.proofs.Permit.{ready_with}

-- a plan that the check finds lawful is ready
pub ready_plan : (p : Plan) → plan_check p ≡ Lawful → length p.strings ≡ 10 → Ready p
ready_plan p h ten = record { lawful = plan_check-lawful p h; ten = ten }

-- and so is the plan with a set, where the check finds that lawful
pub ready_set : (p : Plan) (m : ℕ) → set_check p m ≡ Lawful → length p.strings ≡ 10 → Ready (with_set p m)
ready_set p m h ten = ready_with p m (ready_plan p (set-plan p m h) ten)
