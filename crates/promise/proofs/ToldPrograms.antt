-- Demand 3 of what a C program is told: where `desk_verdict` returned pass (1), `desk_run` never returns a miss (7) for the same numbers,
-- whatever releases it is lent. Nor does it where `desk_can_miss` returned that no list misses (13, 14).
use Rattle.base.proofs.Prelude.{ℕ, ◌≡◌, refl, sym, ap, ◌∙◌, ◌⊎◌, inl, inr, List, arith, ltb, length}
use Rattle.days.specs.Days.{day}
use Rattle.base.proofs.Lists.{by_bool}
use Rattle.faults.proofs.Checks.{by-checked}
use Rattle.rules.specs.{declared.Plan.Plan, declared.Releases.Releases, declared.Outcome.Outcome, Release.releases_of, Run.run_of, Refusal.{verdict_answer, run_check, run_answer}, Said.{Said, lawful, refused, overload, fail, pass, takers, none, miss, clean, outcome_says, asked_verdict_says, asked_outcome_says}}
use Rattle.laws.proofs.{Releases.run_check-lawful, Answers.run-lawful}
use Rattle.std.specs.Prelude.{Result, Ok, Err}
use Rattle.faults.specs.declared.Refusal.{Refusal}
use Rattle.exact.specs.Missing.{NeverMisses}
use Rattle.exact.proofs.Longer.{miss-soon}
use Rattle.tries.specs.{declared.Missing.Missing, Tries.missing_answer}
use Rattle.tries.proofs.Meaning.{answer-passes-never, answer-never}
use Rattle.entries.specs.{Given.{plan_given, releases_given}, Told.{row_of, missing_row, kind_told}}
use Rattle.promise.proofs.NeverMisses.{pass-never-misses}
use Rattle.entries.proofs.desk_verdict.Reads as desk-verdict
use Rattle.entries.proofs.desk_run.Reads as desk-run
use Rattle.entries.proofs.desk_can_miss.Reads as desk-can-miss
use Rattle.rules.specs.declared.Outcome.TheVariants as outcome
use Rattle.tries.specs.declared.Missing.TheVariants as missing
use contract.Lifetimes.{Lfts}

-- a kind that is not 9 is that of what was said
row-kind : (r : _) (places : List ℕ) (kind : ℕ) → (kind ≡ 9 → ⊥) → kind ≡ kind_told r places → r.kind ≡ kind
unfolding kind_told
row-kind r places kind room told =
    by_bool (ltb (length places) 4) (λ t. absurd (room (told ∙ rw t))) (λ e. sym (told ∙ rw e))

kind-pass : (s : Said) → (row_of s).kind ≡ 1 → (k : ℕ) × (s ≡ pass k)
kind-pass (pass k) h = (k, refl)
kind-pass lawful h = absurd (omega arith)
kind-pass (refused n at) h = absurd (omega arith)
kind-pass (overload k) h = absurd (omega arith)
kind-pass (fail l b d k) h = absurd (omega arith)
kind-pass (takers m) h = absurd (omega arith)
kind-pass none h = absurd (omega arith)
kind-pass (miss t i) h = absurd (omega arith)
kind-pass (clean w m i) h = absurd (omega arith)

kind-miss : (s : Said) → (row_of s).kind ≡ 7 → (t : ℕ) × ((i : ℕ) × (s ≡ miss t i))
kind-miss (miss t i) h = (t, (i, refl))
kind-miss lawful h = absurd (omega arith)
kind-miss (refused n at) h = absurd (omega arith)
kind-miss (overload k) h = absurd (omega arith)
kind-miss (fail l b d k) h = absurd (omega arith)
kind-miss (pass k) h = absurd (omega arith)
kind-miss (takers m) h = absurd (omega arith)
kind-miss none h = absurd (omega arith)
kind-miss (clean w m i) h = absurd (omega arith)

-- a and b are what is lent to the two calls
pub told-pass-no-miss : (κs : Lfts 2) (a : _) (e : _) → desk-verdict.Learnt κs a 1 e
    → (λs : Lfts 3) (b : _) (f : _) → desk-run.Learnt λs b 7 f → b.0.now ≡ a.0.now → ⊥
told-pass-no-miss κs a e passed λs b f missed same =
    let p = plan_given a.0.now in
    let rs = releases_given b.1.0.now in
    let verdict-says = asked_verdict_says (verdict_answer p) in
    let run-says = asked_outcome_says (run_answer p rs) in
    let room = b.1.1.0.now in
    let run-told = missed.0 ∙ ap (λ ns. kind_told (row_of (asked_outcome_says (run_answer (plan_given ns) rs))) room) same in
    let is-pass = kind-pass verdict-says (row-kind (row_of verdict-says) a.1.0.now 1 (λ h. omega arith) passed.0) in
    let is-miss = kind-miss run-says (row-kind (row_of run-says) room 7 (λ h. omega arith) run-told) in
    pass-never-misses tt p (p, tt) (verdict_answer p) refl is-pass.0 is-pass.1 tt rs (p, (rs, tt)) (run_answer p rs) refl
    is-miss.0 is-miss.1.0 is-miss.1.1

-- ---- Where no list misses

kind-none : (m : Result Missing Refusal) → ((missing_row m).kind ≡ 13) ⊎ ((missing_row m).kind ≡ 14)
    → (m ≡ Ok missing.Passes) ⊎ (m ≡ Ok missing.Never)
kind-none (Ok missing.Passes) h = inl refl
kind-none (Ok missing.Never) h = inr refl
kind-none (Err e) (inl h) = absurd (omega arith)
kind-none (Err e) (inr h) = absurd (omega arith)
kind-none (Ok missing.NoneFound) (inl h) = absurd (omega arith)
kind-none (Ok missing.NoneFound) (inr h) = absurd (omega arith)
kind-none (Ok missing.TooMany) (inl h) = absurd (omega arith)
kind-none (Ok missing.TooMany) (inr h) = absurd (omega arith)
kind-none (Ok (missing.Found n rs)) (inl h) = absurd (omega arith)
kind-none (Ok (missing.Found n rs)) (inr h) = absurd (omega arith)

never-by : (p : Plan) → (missing_answer p ≡ Ok missing.Passes) ⊎ (missing_answer p ≡ Ok missing.Never) → NeverMisses p
never-by p (inl h) = answer-passes-never p h
never-by p (inr h) = answer-never p h

outcome-miss : (o : Outcome) (t i : ℕ) → outcome_says o ≡ miss t i → o ≡ outcome.Miss (day t) i
outcome-miss (outcome.Miss d j) t i h =
    let on : d.0 ≡ t = cc in
    let place : j ≡ i = cc in
    ap (λ n. outcome.Miss (day n) j) on ∙ ap (outcome.Miss (day t)) place
outcome-miss (outcome.Clean w m k) t i h =
    let z : ◌≡◌ {A = ℕ} 0 1 = cc in
    absurd (omega arith)

-- what is answered with a miss is a lawful list that misses
no-miss-answered : (p : Plan) (rs : Releases) (t i : ℕ) → NeverMisses p → asked_outcome_says (run_answer p rs) ≡ miss t i → ⊥
unfolding run_answer
no-miss-answered p rs t i never said =
    by-checked (run_check p rs)
    (λ e.
    let lawful = run_check-lawful p rs e in
    let ends = outcome-miss (run_of p (releases_of rs)) t i (ap asked_outcome_says (sym (run-lawful p rs e)) ∙ said) in
    never p.run.0 lawful.plan.run_pos lawful.plan.run_max (releases_of rs)
    (record {
      listed = lawful.none_bad;
      t = t;
      place = i;
      soon = miss-soon p (releases_of rs) (day t) i ends;
      ends = ends;
    }))
    (λ f at e.
    let refused-is = rw e at said in
    let z : ◌≡◌ {A = ℕ} 0 1 = cc in
    omega arith)

pub told-none-no-miss : (κs : Lfts 2) (a : _) (e : _) (kind : ℕ) → desk-can-miss.Learnt κs a kind e → (kind ≡ 13) ⊎ (kind ≡ 14)
    → (λs : Lfts 3) (b : _) (f : _) → desk-run.Learnt λs b 7 f → b.0.now ≡ a.0.now → ⊥
told-none-no-miss κs a e kind told cannot λs b f missed same =
    let p = plan_given a.0.now in
    let rs = releases_given b.1.0.now in
    let run-says = asked_outcome_says (run_answer p rs) in
    let room = b.1.1.0.now in
    let run-told = missed.0 ∙ ap (λ ns. kind_told (row_of (asked_outcome_says (run_answer (plan_given ns) rs))) room) same in
    let is-miss = kind-miss run-says (row-kind (row_of run-says) room 7 (λ h. omega arith) run-told) in
    let answered = missing_answer p in
    let never = never-by p (kind-none answered (kinds cannot)) in
    no-miss-answered p rs is-miss.0 is-miss.1.0 never is-miss.1.1
  where
    kinds : (kind ≡ 13) ⊎ (kind ≡ 14)
        → ((missing_row (missing_answer (plan_given a.0.now))).kind ≡ 13)
        ⊎ ((missing_row (missing_answer (plan_given a.0.now))).kind ≡ 14)
    kinds (inl h) = inl (row-kind _ a.1.0.now kind (λ z. omega arith) told.0 ∙ h)
    kinds (inr h) = inr (row-kind _ a.1.0.now kind (λ z. omega arith) told.0 ∙ h)
