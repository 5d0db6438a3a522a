-- The answer of the run: for a plan that passes and releases that are lawful it is clean, and a clean answer counts the run's days.
use Rattle.base.proofs.Prelude.{ℕ, suc, ◌≡◌, ap, ◌∙◌, arith, leb, List}
use Rattle.faults.specs.Checks.{Refused, Lawful, Checked}
use Rattle.std.specs.Prelude.{Result, Ok, Err}
use Rattle.faults.specs.declared.Refusal.{Refusal}
use borrow.Author.Tests.{leb-false}
use Rattle.days.specs.declared.Length.{Length}
use Rattle.base.proofs.Lists.{by_bool}
use Rattle.faults.specs.declared.Fault.{Fault}
use Rattle.rules.specs.declared.Release.{Release}
use Rattle.rules.specs.declared.Plan.{Plan}
use Rattle.rules.specs.declared.Releases.{Releases}
use Rattle.rules.specs.declared.Outcome.{Outcome}
use Rattle.rules.specs.declared.Outcome.TheVariants.{Clean}
use Rattle.rules.specs.Release.{releases_of}
use Rattle.rules.specs.Demand.{Passes}
use Rattle.rules.specs.Refusal.{on_outcome, run_check, run_answer}
use Rattle.rules.specs.Run.{days_of, is_work, is_move, is_idle, miss_day, run_of}
use Rattle.faults.proofs.Checks.{or_refused-lawful}
use Rattle.laws.proofs.{Releases.run_check-lawful, Answers.run-lawful, History.miss_day-before}
use Rattle.sound.proofs.Clean.{Punctual, run-clean}

pub never-misses : (p : Plan) (rs : Releases) → run_check p rs ≡ Lawful → Passes p
    → run_answer p rs ≡ Ok (Clean (days_of p (releases_of rs) is_work) (days_of p (releases_of rs) is_move)
    (days_of p (releases_of rs) is_idle))
never-misses p rs h passes =
    let good = run_check-lawful p rs h in
    run-lawful p rs h ∙ ap Ok (run-clean p (releases_of rs) good.plan good.none_bad passes)

module _ (p : Plan) (w m i : Length) where
  -- how a run that ends clean is counted
  run_of-clean-days : (rs : List Release) → run_of p rs ≡ Clean w m i
      → Clean (days_of p rs is_work) (days_of p rs is_move) (days_of p rs is_idle) ≡ Clean w m i
  unfolding run_of
  run_of-clean-days rs h =
      by_bool (leb (miss_day p rs) p.run.0)
      (λ t.
      let missed = rw t at h in
      let z : ◌≡◌ {A = ℕ} 0 1 = cc in
      absurd (omega arith))
      (λ e. rw e at h)

  -- a run that ends clean is late on no day, day N among them
  run_of-clean-punctual : (rs : List Release) → run_of p rs ≡ Clean w m i → Punctual p rs (suc p.run.0)
  unfolding run_of
  run_of-clean-punctual rs h =
      by_bool (leb (miss_day p rs) p.run.0)
      (λ t.
      let missed = rw t at h in
      let z : ◌≡◌ {A = ℕ} 0 1 = cc in
      absurd (omega arith))
      (λ e d early. miss_day-before p rs d (omega (arith, leb-false (miss_day p rs) p.run.0 e)))

  -- the same of the answer: the plan and the releases are lawful
  pub answer-clean : (rs : Releases) → run_answer p rs ≡ Ok (Clean w m i)
      → (run_check p rs ≡ Lawful) × Punctual p (releases_of rs) (suc p.run.0)
  unfolding run_answer
  answer-clean rs h =
      let given = or_refused-lawful (Refused {A = Outcome}) (run_check p rs) (Ok (run_of p (releases_of rs))) (Ok (Clean w m i))
      no-refusal h in
      let clean : run_of p (releases_of rs) ≡ Clean w m i = taken_out (run_of p (releases_of rs)) given.1 in
      (given.0, run_of-clean-punctual (releases_of rs) clean)
    where
      no-refusal : (f : Fault) (at : ℕ) → Refused f at ≡ Ok (Clean w m i) → ⊥
      no-refusal f at e =
          let z : ◌≡◌ {A = ℕ} 0 1 = cc in
          omega arith

      taken_out : (o : Outcome) → ◌≡◌ {A = Result Outcome Refusal} (Ok o) (Ok (Clean w m i)) → o ≡ Clean w m i
      taken_out o e = cc

  pub answer-clean-days : (rs : Releases) → run_answer p rs ≡ Ok (Clean w m i)
      → Clean (days_of p (releases_of rs) is_work) (days_of p (releases_of rs) is_move) (days_of p (releases_of rs) is_idle) ≡ Clean w m i
  unfolding run_answer
  answer-clean-days rs h = go (run_check p rs) h
    where
      go : (c : Checked) → on_outcome c (run_of p (releases_of rs)) ≡ Ok (Clean w m i)
          → Clean (days_of p (releases_of rs) is_work) (days_of p (releases_of rs) is_move) (days_of p (releases_of rs) is_idle)
          ≡ Clean w m i
      go (Ok _) e = run_of-clean-days (releases_of rs) (cc)
      go (Err e') e =
          let z : ◌≡◌ {A = ℕ} 0 1 = cc in
          absurd (omega arith)
