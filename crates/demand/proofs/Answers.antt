-- The answers of the quick entries: the check decides, and a lawful plan gets the quick verdict.
use Rattle.base.proofs.Prelude.{ℕ, ◌≡◌}
use Rattle.faults.specs.Checks.{Refused, Lawful}
use Rattle.std.specs.Prelude.{Ok}
use Rattle.rules.specs.{declared.Plan.Plan, Search.with_set, Refusal.{plan_check, set_check}}
use Rattle.faults.specs.declared.Fault.{Fault}
use Rattle.demand.specs.Quick.{quick_of, quick_answer, quick_set_answer}

pub quick-lawful : (p : Plan) → plan_check p ≡ Lawful → quick_answer p ≡ Ok (quick_of p)
unfolding quick_answer
quick-lawful p h = rw h

pub quick-refused : (p : Plan) (f : Fault) (at : ℕ) → plan_check p ≡ Refused f at → quick_answer p ≡ Refused f at
unfolding quick_answer
quick-refused p f at h = rw h

pub quick-set-lawful : (p : Plan) (m : ℕ) → set_check p m ≡ Lawful → quick_set_answer p m ≡ Ok (quick_of (with_set p m))
unfolding quick_set_answer
quick-set-lawful p m h = rw h

pub quick-set-refused : (p : Plan) (m : ℕ) (f : Fault) (at : ℕ) → set_check p m ≡ Refused f at → quick_set_answer p m ≡ Refused f at
unfolding quick_set_answer
quick-set-refused p m f at h = rw h
