-- What is read decides the answer: a refusal is the answer, and of what is read lawfully there are the three answers, none of them refused.
use Rattle.base.proofs.Prelude.{ℕ, ◌≡◌, sym, ap, ◌∙◌, List}
use Rattle.std.specs.Prelude.{Result, Ok, Err}
use Rattle.faults.specs.{declared.Refusal.Refusal, Checks.{Refused, Lawful, Checked, or_refused}}
use Rattle.faults.proofs.Checks.{then-first, err-not-ok, or_refused-lawful}
use Rattle.rules.specs.{declared.PlanFile.PlanFile, declared.Verdict.Verdict, declared.Outcome.Outcome, Found.Assign, Verdict.verdict_of, Search.search_of, Release.releases_of, Run.run_of, Refusal.{plan_check, releases_check, run_check, verdict_answer, search_answer, run_answer}, Text.{Reading, reading_of, said_in}, Answer.{Answered, answered, answer_of}}
use Rattle.laws.proofs.{Answers.{verdict-lawful, search-lawful, run-lawful}, ReadLawful.read-lawful}

-- what the code has of what is read
abbrev file_of : Reading → PlanFile
file_of r = record { plan = r.plan; releases = r.releases }

refused : (e : Refusal) (k : Checked) (r : Reading) → Err e ≡ or_refused Refused k (Ok (file_of r)) → Err e ≡ answered k r
unfolding answered
refused e (Ok _) r h = absurd (err-not-ok e _ h)
refused e (Err d) r h =
    let there : ◌≡◌ {A = Result PlanFile Refusal} (Err e) (Err d) = h in
    let same : e ≡ d = cc in
    ap Err same

pub file-refused : (text : List ℕ) (e : Refusal) → Err e ≡ said_in (reading_of text) → Err e ≡ answer_of text
unfolding answer_of
file-refused text e h = refused e (reading_of text).checked (reading_of text) h

module _ (text : List ℕ) (file : PlanFile) (read : Ok file ≡ said_in (reading_of text)) where
  abbrev said : Reading
  said = reading_of text

  abbrev found : Result PlanFile Refusal
  found = Ok (file_of said)

  facts : (said.checked ≡ Lawful) × (found ≡ Ok file)
  facts = or_refused-lawful Refused said.checked _ _ (λ f at h. err-not-ok _ _ h) (sym read)

  is : file_of said ≡ file
  is =
      let same : ◌≡◌ {A = Result PlanFile Refusal} (Ok (file_of said)) (Ok file) = facts.1 in
      cc

  run-let-through : run_check file.plan file.releases ≡ Lawful
  run-let-through = ap (λ (f : PlanFile). run_check f.plan f.releases) (sym is) ∙ read-lawful text facts.0

  plan-let-through : plan_check file.plan ≡ Lawful
  unfolding run_check
  plan-let-through = then-first (plan_check file.plan) (releases_check file.plan file.releases) run-let-through

  pub verdict-given : (e : Refusal) → Err e ≡ verdict_answer file.plan → ⊥
  verdict-given e h = err-not-ok e _ (h ∙ verdict-lawful file.plan plan-let-through)

  pub search-given : (e : Refusal) → Err e ≡ search_answer file.plan → ⊥
  search-given e h = err-not-ok e _ (h ∙ search-lawful file.plan plan-let-through)

  pub run-given : (e : Refusal) → Err e ≡ run_answer file.plan file.releases → ⊥
  run-given e h = err-not-ok e _ (h ∙ run-lawful file.plan file.releases run-let-through)

  whole : Answered (verdict_of file.plan) (search_of file.plan) (run_of file.plan (releases_of file.releases)) ≡ answer_of text
  unfolding answer_of answered
  whole =
      ap (λ (f : PlanFile). Answered (verdict_of f.plan) (search_of f.plan) (run_of f.plan (releases_of f.releases))) (sym is)
      ∙ ap (λ k. answered k said) (sym facts.0)

  pub three-given : (v : Verdict) (a : Assign) (o : Outcome) → Ok v ≡ verdict_answer file.plan → Ok a ≡ search_answer file.plan
      → Ok o ≡ run_answer file.plan file.releases → Answered v a o ≡ answer_of text
  three-given v a o ev ea eo =
      let judged = ev ∙ verdict-lawful file.plan plan-let-through in
      let searched = ea ∙ search-lawful file.plan plan-let-through in
      let ran = eo ∙ run-lawful file.plan file.releases run-let-through in
      let v_is : v ≡ verdict_of file.plan = cc in
      let a_is : a ≡ search_of file.plan = cc in
      let o_is : o ≡ run_of file.plan (releases_of file.releases) = cc in
      rw (v_is, a_is, o_is) whole
