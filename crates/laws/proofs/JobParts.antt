-- The days of work and of moving that are left in a job, apart: stopping and giving change none of them, and a day on the bank adds none.
--     work_of job, moving_of job    the days of work and of moving that are left
use Rattle.base.proofs.Prelude.{ℕ, ◌+◌, ◌-◌, ◌≤◌, ◌≡◌, refl, arith, eqb-true, eqb, ltb}
use Rattle.days.specs.{declared.Length.Length, Days.days}
use Rattle.rules.specs.{declared.Job.Job, declared.Job.TheVariants.{Empty, Waiting, OnBank}, Run.{left, stopped, charged, seated, spent_job, on_or_gone}}
use Rattle.base.proofs.Lists.{by_bool}

abbrev pub work_of : Job → ℕ
work_of Empty = 0
work_of (Waiting w m) = w.0
work_of (OnBank w m) = w.0

abbrev pub moving_of : Job → ℕ
moving_of Empty = 0
moving_of (Waiting w m) = m.0
moving_of (OnBank w m) = m.0

pub parts-left : (job : Job) → work_of job + moving_of job ≡ left job
parts-left Empty = refl
parts-left (Waiting w m) = refl
parts-left (OnBank w m) = refl

pub stopped-parts : (job : Job) → (work_of (stopped job) ≡ work_of job) × (moving_of (stopped job) ≡ moving_of job)
stopped-parts Empty = (refl, refl)
stopped-parts (Waiting w m) = (refl, refl)
stopped-parts (OnBank w m) = (refl, refl)

pub on_or_gone-parts : (w m : Length) → (work_of (on_or_gone w m) ≡ w.0) × (moving_of (on_or_gone w m) ≡ m.0)
on_or_gone-parts w m =
    by_bool (eqb (w.0 + m.0) 0)
    (λ t.
    let none : w.0 + m.0 ≡ 0 = eqb-true _ _ t in
    (rw t (omega arith), rw t (omega arith)))
    (λ f. (rw f, rw f))

pub seated-parts : (job : Job) → (work_of (seated job) ≡ work_of job) × (moving_of (seated job) ≡ moving_of job)
seated-parts Empty = (refl, refl)
seated-parts (Waiting w m) = (refl, refl)
seated-parts (OnBank w m) = (refl, refl)

pub charged-moving : (a : ℕ) (job : Job) → moving_of (charged a job) ≤ moving_of job + a
charged-moving a Empty = omega arith
charged-moving a (Waiting w m) = omega arith
charged-moving a (OnBank w m) = omega arith

pub spent-moving : (job : Job) → moving_of (spent_job job) ≤ moving_of job
spent-moving Empty = omega arith
spent-moving (Waiting w m) = omega arith
spent-moving (OnBank w m) =
    let one = (on_or_gone-parts w (days (m.0 - 1))).1 in
    let same = (on_or_gone-parts (days (w.0 - 1)) m).1 in
    by_bool (ltb 0 m.0) (λ t. rw t (omega arith)) (λ e. rw e (omega arith))
