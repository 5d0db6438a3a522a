-- What an answer says determines the answer: one case each. A refusal says none of what an answer that is given says.
use Rattle.base.proofs.Prelude.{ℕ, ◌≡◌, refl, ap, arith}
use Rattle.rules.specs.declared.Outcome.{Outcome}
use Rattle.faults.specs.Checks.{Lawful, Checked}
use Rattle.faults.specs.declared.Refusal.{Refusal}
use Rattle.std.specs.Prelude.{Ok, Err, Result, Some, None}
use Rattle.rules.specs.Found.{Assign}
use Rattle.days.specs.Days.{day, days}
use Rattle.rules.specs.declared.Verdict.{Verdict}
use Rattle.rules.specs.Said.{lawful, overload, fail, pass, takers, none, miss, clean, checked_says, verdict_says, asked_verdict_says, asked_assign_says, asked_outcome_says}
use Rattle.rules.specs.declared.Verdict.TheVariants as verdict
use Rattle.rules.specs.declared.Outcome.TheVariants as outcome

never : ◌≡◌ {A = ℕ} 0 1 → ⊥
never z = omega arith

pub says-lawful : (c : Checked) → checked_says c ≡ lawful → c ≡ Lawful
says-lawful (Ok _) h = refl
says-lawful (Err e) h = absurd (never (cc))

-- ---- The verdict

pub says-pass : (v : Verdict) (k : ℕ) → verdict_says v ≡ pass k → v ≡ verdict.Pass k
says-pass verdict.Overload k h = absurd (never (cc))
says-pass (verdict.Fail l b d j) k h = absurd (never (cc))
says-pass (verdict.Pass j) k h =
    let same : j ≡ k = cc in
    ap verdict.Pass same

pub asked-pass : (v : Result Verdict Refusal) (k : ℕ) → asked_verdict_says v ≡ pass k → v ≡ Ok (verdict.Pass k)
asked-pass (Err e) k h = absurd (never (cc))
asked-pass (Ok v) k h = ap Ok (says-pass v k h)

pub asked-overload : (v : Result Verdict Refusal) (k : ℕ) → asked_verdict_says v ≡ overload k → v ≡ Ok verdict.Overload
asked-overload (Err e) k h = absurd (never (cc))
asked-overload (Ok verdict.Overload) k h = refl
asked-overload (Ok (verdict.Fail l b d j)) k h = absurd (never (cc))
asked-overload (Ok (verdict.Pass j)) k h = absurd (never (cc))

pub asked-fail : (v : Result Verdict Refusal) (l b d k : ℕ) → asked_verdict_says v ≡ fail l b d k
    → v ≡ Ok (verdict.Fail (days l) (days b) (days d) k)
asked-fail (Err e) l b d k h = absurd (never (cc))
asked-fail (Ok verdict.Overload) l b d k h = absurd (never (cc))
asked-fail (Ok (verdict.Fail i c e j)) l b d k h =
    let interval : i.0 ≡ l = cc in
    let blocking : c.0 ≡ b = cc in
    let asked : e.0 ≡ d = cc in
    let count : j ≡ k = cc in
    rw (← interval, ← blocking, ← asked, ← count)
asked-fail (Ok (verdict.Pass j)) l b d k h = absurd (never (cc))

-- ---- The search

pub asked-takers : (a : Result Assign Refusal) (m : ℕ) → asked_assign_says a ≡ takers m → a ≡ Ok (Some m)
asked-takers (Err e) m h = absurd (never (cc))
asked-takers (Ok (Some k)) m h =
    let same : k ≡ m = cc in
    ap (λ n. Ok (Some n)) same
asked-takers (Ok None) m h = absurd (never (cc))

pub asked-none : (a : Result Assign Refusal) → asked_assign_says a ≡ none → a ≡ Ok None
asked-none (Err e) h = absurd (never (cc))
asked-none (Ok (Some k)) h = absurd (never (cc))
asked-none (Ok None) h = refl

-- ---- The run

pub asked-miss : (o : Result Outcome Refusal) (t i : ℕ) → asked_outcome_says o ≡ miss t i → o ≡ Ok (outcome.Miss (day t) i)
asked-miss (Err e) t i h = absurd (never (cc))
asked-miss (Ok (outcome.Miss s j)) t i h =
    let days-same : s.0 ≡ t = cc in
    let places_same : j ≡ i = cc in
    rw (← days-same, ← places_same)
asked-miss (Ok (outcome.Clean a b d)) t i h = absurd (never (cc))

pub asked-clean : (o : Result Outcome Refusal) (w m i : ℕ) → asked_outcome_says o ≡ clean w m i
    → o ≡ Ok (outcome.Clean (days w) (days m) (days i))
asked-clean (Err e) w m i h = absurd (never (cc))
asked-clean (Ok (outcome.Miss s j)) w m i h = absurd (never (cc))
asked-clean (Ok (outcome.Clean a b d)) w m i h =
    let works : a.0 ≡ w = cc in
    let moves : b.0 ≡ m = cc in
    let rests : d.0 ≡ i = cc in
    rw (← works, ← moves, ← rests)
