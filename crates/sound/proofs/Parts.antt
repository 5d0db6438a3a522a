-- A day on the bank takes one day of work or one of moving off the job.
--     counted b                   1 for a day that is so used, else 0
use Rattle.base.proofs.Prelude.{ℕ, ◌+◌, ◌-◌, ◌≤◌, ◌<◌, ◌≡◌, refl, ◌≢◌, Bool, cond, arith, eq-eqb, ne_eqb, ltb-true, ltb-false, ltb}
use Rattle.days.specs.{declared.Length.Length, Days.days}
use Rattle.rules.specs.{declared.Job.Job, declared.Job.TheVariants.{Empty, Waiting, OnBank}, Run.{left, seated, spent_job, used_for}}
use Rattle.base.proofs.Lists.{by_bool}
use Rattle.laws.proofs.JobParts.{work_of, moving_of, on_or_gone-parts}
use Rattle.sound.specs.Served.{works_for, moves_for}

-- 1 for a day that is so used
abbrev pub counted_if : Bool → ℕ
counted_if b = cond b 1 0

-- a day for the release k takes one day of work or one of moving off the job
abbrev pub Parts : ℕ → ℕ → Job → Job → Type 0
Parts i k before after =
    (counted_if (works_for k (used_for i k before)) + work_of after ≡ work_of before)
    × (counted_if (moves_for k (used_for i k before)) + moving_of after ≡ moving_of before)

spent-parts-on : (i k : ℕ) (w m : Length) → 1 ≤ w.0 + m.0 → Parts i k (OnBank w m) (spent_job (OnBank w m))
spent-parts-on i k w m some =
    by_bool (ltb 0 m.0)
    (λ t.
    let moving : 0 < m.0 = ltb-true _ _ t in
    let parts = on_or_gone-parts w (days (m.0 - 1)) in
    (rw t (omega (arith, parts.0)), rw (t, eq-eqb k k refl) (omega (arith, parts.1))))
    (λ f.
    let still : m.0 ≤ 0 = ltb-false _ _ f in
    let parts = on_or_gone-parts (days (w.0 - 1)) m in
    (rw (f, eq-eqb k k refl) (omega (arith, parts.0)), rw f (omega (arith, parts.1))))

pub spent-parts : (i k : ℕ) (job : Job) → 1 ≤ left job → Parts i k (seated job) (spent_job (seated job))
spent-parts i k Empty some = absurd (omega arith)
spent-parts i k (Waiting w m) some = spent-parts-on i k w m some
spent-parts i k (OnBank w m) some = spent-parts-on i k w m some

-- a day for another release is none for this one
pub other-use : (i serves k : ℕ) (job : Job) → serves ≢ k
    → (counted_if (works_for k (used_for i serves job)) ≡ 0) × (counted_if (moves_for k (used_for i serves job)) ≡ 0)
other-use i serves k Empty other = (refl, refl)
other-use i serves k (Waiting w m) other = (refl, refl)
other-use i serves k (OnBank w m) other =
    by_bool (ltb 0 m.0)
    (λ t. (rw t, rw (t, ne_eqb serves k other)))
    (λ f. (rw (f, ne_eqb serves k other), rw f))
