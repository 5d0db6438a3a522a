-- Demand 3 of the code's own answers: what said pass cannot say miss, and each job has had its days. `Learnt` is what a function's
-- contract says of its
-- answer. By numbers; with a permission set; with the set that the search found; and for a text.
use Rattle.base.proofs.Prelude.{ℕ, ◌≤◌, ◌≡◌, refl, sym, ap, ◌∙◌, List, arith, le_refl, length}
use Rattle.faults.specs.Checks.{Refused, Lawful, Checked}
use Rattle.faults.specs.declared.Refusal.{Refusal}
use Rattle.std.specs.Prelude.{Ok, Err, Result}
use Rattle.rules.specs.Answer.{Answered}
use Rattle.rules.specs.declared.Answers.{Answers}
use Rattle.rules.specs.Found.{Assign}
use Rattle.faults.specs.declared.Fault.{Fault}
use Rattle.rules.specs.declared.Plan.{Plan}
use Rattle.rules.specs.declared.Releases.{Releases}
use Rattle.rules.specs.declared.Verdict.{Verdict}
use Rattle.rules.specs.declared.Outcome.{Outcome}
use Rattle.rules.specs.Demand.{Passes}
use Rattle.rules.specs.Verdict.{verdict_of, is_pass}
use Rattle.rules.specs.Search.{with_set, search_of}
use Rattle.rules.specs.Release.{releases_of}
use Rattle.rules.specs.Run.{run_of}
use Rattle.rules.specs.Refusal.{on_verdict, plan_check, set_check, run_check, verdict_answer}
use Rattle.rules.specs.Text.{reading_of}
use Rattle.rules.specs.Answer.{answered, answer_of}
use Rattle.rules.specs.Said.{pass, takers, miss, clean, verdict_says, outcome_says, asked_verdict_says, asked_assign_says, asked_outcome_says}
use Rattle.laws.specs.Lawful.{LawfulRun}
use Rattle.laws.proofs.{Lawful.plan_check-lawful, Answers.run-refused, Says.{says-pass, asked-pass}, Releases.run_check-lawful, ReadLawful.read-lawful}
use Rattle.demand.proofs.Verdict.{passes-of-pass}
use Rattle.sound.specs.Served.{released, due_of, Served}
use Rattle.sound.proofs.{Clean.run-clean, CleanAnswer.never-misses, Served.served}
use Rattle.promise.specs.NeverMiss.{NeverMiss}
use Rattle.promise.proofs.UserWords.{search-finds, verdict-with-is}
use Rattle.rules.specs.declared.Verdict.TheVariants as verdict-is
use Rattle.verdict.proofs.verdict.Reads as verdict
use Rattle.verdict.proofs.verdict_with.Reads as verdict-with
use Rattle.verdict.proofs.search.Reads as search-takers
use Rattle.run.proofs.run.Reads as run
use Rattle.answers.proofs.answer.Reads as answer
use contract.Lifetimes.{Lfts}

-- ---- A verdict that says pass means the rule at every interval

pub passed : (c : Checked) (v : Verdict) (k : ℕ) → on_verdict c v ≡ Ok (verdict-is.Pass k)
    → (c ≡ Lawful) × (v ≡ verdict-is.Pass k)
passed (Ok _) v k h = (refl, cc)
passed (Err e) v k h =
    absurd
    (let z : ◌≡◌ {A = ℕ} 0 1 = cc in
    omega arith)

pub pass-means : (p : Plan) (k : ℕ) → asked_verdict_says (verdict_answer p) ≡ pass k → Passes p
unfolding verdict_answer is_pass
pass-means p k h =
    let both = passed (plan_check p) (verdict_of p) k (asked-pass (verdict_answer p) k h) in
    passes-of-pass p (plan_check-lawful p both.0) (ap is_pass both.1)

-- ---- A plan that passes, over any releases

clean-no-miss : (o : Result Outcome Refusal) (t i w m d : ℕ) → asked_outcome_says o ≡ clean w m d → asked_outcome_says o ≡ miss t i → ⊥
clean-no-miss o t i w m d h k =
    let z : ◌≡◌ {A = ℕ} 0 1 = cc in
    omega arith

refused-no-miss : (f : Fault) (at : ℕ) (o : Result Outcome Refusal) (t i : ℕ) → o ≡ Refused f at → asked_outcome_says o ≡ miss t i → ⊥
refused-no-miss f at o t i h k =
    let said = ap asked_outcome_says h in
    let z : ◌≡◌ {A = ℕ} 0 1 = cc in
    omega arith

pub rule-never-misses : (p : Plan) → Passes p → NeverMiss p
rule-never-misses p passes κs rs e o ran t i said = go (run_check p rs) refl
  where
    go : (c : Checked) → run_check p rs ≡ c → ⊥
    go (Ok _) lawful = clean-no-miss o t i _ _ _ (ap asked_outcome_says (ran ∙ never-misses p rs lawful passes)) said
    go (Err e) is = refused-no-miss e.fault e.at o t i (ran ∙ run-refused p rs e.fault e.at is) said

-- ---- By numbers

module _ (κs : Lfts 0) (p : Plan) (e : _) (v : Result Verdict Refusal) (answered-is : verdict.Learnt κs (p, tt) v e) (k : ℕ)
    (said : asked_verdict_says v ≡ pass k) where
  rule : Passes p
  rule = pass-means p k (ap asked_verdict_says (sym answered-is) ∙ said)

  -- what said pass never says miss, whatever is released
  pub pass-never-misses : NeverMiss p
  pass-never-misses = rule-never-misses p rule

  -- over lawful releases the run ends clean
  pub pass-runs-clean : (rs : Releases) (f : _) (o : Result Outcome Refusal) → run.Learnt κs (p, (rs, tt)) o f → run_check p rs ≡ Lawful
      → (w : ℕ) × ((m : ℕ) × ((i : ℕ) × (asked_outcome_says o ≡ clean w m i)))
  pass-runs-clean rs f o ran lawful = (_, (_, (_, ap asked_outcome_says (ran ∙ never-misses p rs lawful rule))))

  module _ (rs : Releases) (lawful : run_check p rs ≡ Lawful) (i : ℕ) (low : 1 ≤ i) (high : i ≤ length (releases_of rs)) where
    -- the i-th release has had all its work, and any moving it caused, before its deadline, and no other day later
    pub pass-served : (d : ℕ) → due_of p (released (releases_of rs) i) ≤ d → Served p (releases_of rs) i d
    pass-served d due =
        let run_is = run_check-lawful p rs lawful in
        served p (releases_of rs) run_is.plan run_is.none_bad rule i d low high due

    -- in the user's words: each job whose deadline is day N or earlier has had them in the run, before its deadline
    pub pass-served-in-run : due_of p (released (releases_of rs) i) ≤ p.run.0
        → Served p (releases_of rs) i (due_of p (released (releases_of rs) i)) × Served p (releases_of rs) i p.run.0
    pass-served-in-run due = (pass-served (due_of p (released (releases_of rs) i)) (le_refl _), pass-served p.run.0 due)

-- ---- With a permission set, given or found

pub set-never-misses : (κs : Lfts 0) (p : Plan) (m : ℕ) (e : _) (v : Result Verdict Refusal) → verdict-with.Learnt κs (p, (m, tt)) v e
    → set_check p m ≡ Lawful
    → (k : ℕ) → asked_verdict_says v ≡ pass k → NeverMiss (with_set p m)
set-never-misses κs p m e v answered-is ok k said =
    rule-never-misses (with_set p m)
    (pass-means (with_set p m) k (ap asked_verdict_says (sym (verdict-with-is κs p m e v answered-is ok)) ∙ said))

pub found-never-misses : (κs : Lfts 0) (p : Plan) (e : _) (a : Result Assign Refusal) → search-takers.Learnt κs (p, tt) a e
    → plan_check p ≡ Lawful
    → (m : ℕ) → asked_assign_says a ≡ takers m → NeverMiss (with_set p m)
found-never-misses κs p e a answered-is ok m said =
    rule-never-misses (with_set p m) ((search-finds κs p e a answered-is ok m).0 said).passes

-- ---- For a text

refused-not-answered : (f : Fault) (at : ℕ) (v : Verdict) (a : Assign) (o : Outcome) → Refused f at ≡ Answered v a o → ⊥
refused-not-answered f at v a o h =
    let z : ◌≡◌ {A = ℕ} 0 1 = cc in
    omega arith

-- an answer with three lines comes of a reading that is lawful, and each line is what the rules give
record AnswerParts (text : List ℕ) (v : Verdict) (a : Assign) (o : Outcome) : Type 0 where
  pub lawful : (reading_of text).checked ≡ Lawful
  pub verdict-is : verdict_of (reading_of text).plan ≡ v
  pub outcome-is : run_of (reading_of text).plan (releases_of (reading_of text).releases) ≡ o

answered-parts : (text : List ℕ) (v : Verdict) (a : Assign) (o : Outcome)
    → answer_of text ≡ Answered v a o → AnswerParts text v a o
unfolding answer_of answered
answered-parts text v a o h = go (reading_of text).checked refl
  where
    go : (c : Checked) → (reading_of text).checked ≡ c → AnswerParts text v a o
    go (Ok _) e =
        let same = sym (ap (λ c. answered c (reading_of text)) e) ∙ h in
        let p = (reading_of text).plan in
        let told : Answers = record
        { verdict = verdict_of p; assign = search_of p; outcome = run_of p (releases_of (reading_of text).releases) } in
        let one : told ≡ record { verdict = v; assign = a; outcome = o } = cc in
        record { lawful = e; verdict-is = ap (λ (x : Answers). x.verdict) one; outcome-is = ap (λ (x : Answers). x.outcome) one }
    go (Err e') e = absurd (refused-not-answered e'.fault e'.at v a o (sym (ap (λ c. answered c (reading_of text)) e) ∙ h))

-- the code answered a text with three lines, of which the first says pass
module _ (κs : Lfts 1) (lent : _) (e : _) (r : Result Answers Refusal) (answered-is : answer.Learnt κs lent r e) (v : Verdict)
    (a : Assign) (o : Outcome)
    (three : r ≡ Answered v a o) (k : ℕ) (said : verdict_says v ≡ pass k) where
  -- what the text writes
  abbrev pub plan_given_for : Plan
  plan_given_for = (reading_of lent.0.now).plan

  abbrev pub list_given : Releases
  list_given = (reading_of lent.0.now).releases

  parts : AnswerParts lent.0.now v a o
  parts = answered-parts lent.0.now v a o (sym answered-is.0 ∙ three)

  run_is : LawfulRun plan_given_for list_given
  run_is = run_check-lawful plan_given_for list_given (read-lawful lent.0.now parts.lawful)

  file-rule : Passes plan_given_for
  unfolding is_pass
  file-rule = passes-of-pass plan_given_for run_is.plan (ap is_pass (parts.verdict-is ∙ says-pass v k said))

  -- its third line says clean
  pub file-never-misses : (w : ℕ) × ((m : ℕ) × ((i : ℕ) × (outcome_says o ≡ clean w m i)))
  file-never-misses = (
    _,
    (
      _,
      (
        _,
        ap outcome_says
            (sym parts.outcome-is ∙ run-clean plan_given_for (releases_of list_given) run_is.plan run_is.none_bad file-rule),
      ),
    ),
  )

  -- and each of its releases has had all its work, and any moving it caused, before its deadline
  pub file-served : (i d : ℕ) → 1 ≤ i → i ≤ length (releases_of list_given) → due_of plan_given_for (released (releases_of list_given) i)
      ≤ d
      → Served plan_given_for (releases_of list_given) i d
  file-served i d low high due = served plan_given_for (releases_of list_given) run_is.plan run_is.none_bad file-rule i d low high due
