-- The wrong programs of document 01, "What the promises have to say": no program with such answers meets the contracts. A program is a
-- function of its
-- input; `after` is what it leaves at its return, and `meets` says that the function's own contract (`Learnt`) holds for every input.
use Rattle.base.proofs.Prelude.{ℕ, ◌≡◌, refl, sym, ap, ◌∙◌, subst, [], ◌∷◌, map, arith, length, get_or}
use Rattle.faults.specs.Checks.{Lawful, Checked}
use Rattle.faults.specs.declared.Refusal.{Refusal}
use Rattle.std.specs.Prelude.{Ok, Err, Result}
use Rattle.rules.specs.Answer.{Answered}
use Rattle.rules.specs.declared.Answers.{Answers}
use Rattle.rules.specs.Found.{Assign}
use Rattle.rules.specs.declared.Plan.{Plan}
use Rattle.rules.specs.declared.Releases.{Releases}
use Rattle.rules.specs.declared.PlanFile.{PlanFile}
use Rattle.rules.specs.Text.{reading_of}
use Rattle.promise.specs.FileSaid.{file_says}
use Rattle.promise.proofs.Given.{file-says}
use Rattle.rules.specs.declared.Verdict.{Verdict}
use Rattle.rules.specs.declared.Outcome.{Outcome}
use Rattle.rules.specs.Verdict.{all_pairs, compared}
use Rattle.rules.specs.Search.{with_set}
use Rattle.rules.specs.Refusal.{on_verdict, on_assign, on_outcome, plan_check, set_check, run_check, verdict_answer, set_answer, search_answer, run_answer}
use Rattle.rules.specs.Answer.{answered, answer_of}
use Rattle.rules.specs.Said.{Said, lawful, fail, pass, takers, clean, checked_says, asked_verdict_says, asked_assign_says, asked_outcome_says}
use Rattle.rules.proofs.Worked.{table, row, release, releases, two, level, sample, worked}
use Rattle.laws.proofs.Says.{says-lawful}
use Rattle.demand.proofs.Permissions.{set-is-plan}
use Rattle.promise.specs.Wrong.{Refuses, SaysPass, SaysFail, fails, overloads, WorksAtMost, misses, ends}
use Rattle.promise.proofs.UserWords.{verdict-counts, verdict-fails}
use Rattle.rules.proofs.Worked as page
use Rattle.reading.proofs.read.Reads as read
use Rattle.verdict.proofs.verdict.Reads as verdict
use Rattle.verdict.proofs.verdict_with.Reads as verdict-with
use Rattle.verdict.proofs.search.Reads as search-takers
use Rattle.run.proofs.run.Reads as run
use Rattle.answers.proofs.answer.Reads as answer
use contract.Lifetimes.{Lfts}

-- ---- Rows of the worked table

-- the i-th row, as the page says it
at : (i : ℕ)
    → get_or (map (λ r. page.answered r.asked) table) i (page.Answer.written []) ≡ get_or (map (λ r. r.said) table) i
    (page.Answer.written [])
at i = ap (λ rows. get_or rows i (page.Answer.written [])) worked

p1-with : asked_verdict_says (set_answer two 1) ≡ pass 39
unfolding table row page.answered
p1-with =
    let e = at 0 in
    cc

p3-with : asked_verdict_says (set_answer two 0) ≡ fail 5 3 6 8
unfolding table row page.answered
p3-with =
    let e = at 3 in
    cc

-- the search for P1's strings
p1-search : asked_assign_says (search_answer two) ≡ takers 1
unfolding table row page.answered
p1-search =
    let e = at 20 in
    cc

abbrev list : Releases
list = releases (release 0 1 5 ∷ release 1 2 3 ∷ [])

run-of-eight : asked_outcome_says (run_answer (with_set level 2) list) ≡ clean 8 0 12
unfolding table row page.answered
run-of-eight =
    let e = at 18 in
    cc

sample-read : (reading_of sample).checked ≡ Lawful
sample-read = says-lawful (reading_of sample).checked said
  where
    said : checked_says (reading_of sample).checked ≡ lawful
    said = unfold table row page.answered in
        let e = at 13 in
        cc

-- ---- What is not refused was lawful

never : ◌≡◌ {A = ℕ} 0 1 → ⊥
never z = omega arith

set-was-lawful : (c : Checked) (v : Verdict) (s : Said) → asked_verdict_says (on_verdict c v) ≡ s → (Refuses s → ⊥) → c ≡ Lawful
set-was-lawful (Ok _) v s h not = refl
set-was-lawful (Err e) v s h not = absurd (not (_, (_, sym h)))

assign-was-lawful : (c : Checked) (a : Assign) (s : Said) → asked_assign_says (on_assign c a) ≡ s → (Refuses s → ⊥) → c ≡ Lawful
assign-was-lawful (Ok _) a s h not = refl
assign-was-lawful (Err e) a s h not = absurd (not (_, (_, sym h)))

run-was-lawful : (c : Checked) (o : Outcome) (s : Said) → asked_outcome_says (on_outcome c o) ≡ s → (Refuses s → ⊥) → c ≡ Lawful
run-was-lawful (Ok _) o s h not = refl
run-was-lawful (Err e) o s h not = absurd (not (_, (_, sym h)))

pass-not-refused : (k : ℕ) → Refuses (pass k) → ⊥
pass-not-refused k (n, (at, h)) = never (cc)

fail-not-refused : (l b d k : ℕ) → Refuses (fail l b d k) → ⊥
fail-not-refused l b d k (n, (at, h)) = never (cc)

takers-not-refused : (m : ℕ) → Refuses (takers m) → ⊥
takers-not-refused m (n, (at, h)) = never (cc)

clean-not-refused : (w m i : ℕ) → Refuses (clean w m i) → ⊥
clean-not-refused w m i (n, (at, h)) = never (cc)

p1-set : set_check two 1 ≡ Lawful
unfolding set_answer
p1-set = set-was-lawful (set_check two 1) _ (pass 39) p1-with (pass-not-refused 39)

p3-set : set_check two 0 ≡ Lawful
unfolding set_answer
p3-set = set-was-lawful (set_check two 0) _ (fail 5 3 6 8) p3-with (fail-not-refused 5 3 6 8)

-- the same plans with the set in their X
p1 : asked_verdict_says (verdict_answer (with_set two 1)) ≡ pass 39
p1 = ap asked_verdict_says (sym (set-is-plan two 1 p1-set)) ∙ p1-with

p3 : asked_verdict_says (verdict_answer (with_set two 0)) ≡ fail 5 3 6 8
p3 = ap asked_verdict_says (sym (set-is-plan two 0 p3-set)) ∙ p3-with

p1-lawful : plan_check (with_set two 1) ≡ Lawful
unfolding verdict_answer
p1-lawful = set-was-lawful (plan_check (with_set two 1)) _ (pass 39) p1 (pass-not-refused 39)

p3-lawful : plan_check (with_set two 0) ≡ Lawful
unfolding verdict_answer
p3-lawful = set-was-lawful (plan_check (with_set two 0)) _ (fail 5 3 6 8) p3 (fail-not-refused 5 3 6 8)

two-lawful : plan_check two ≡ Lawful
unfolding search_answer
two-lawful = assign-was-lawful (plan_check two) _ (takers 1) p1-search (takers-not-refused 1)

run-lawful : run_check (with_set level 2) list ≡ Lawful
unfolding run_answer
run-lawful = run-was-lawful (run_check (with_set level 2) list) _ (clean 8 0 12) run-of-eight (clean-not-refused 8 0 12)

pass-no-fail : (k : ℕ) (s : Said) → s ≡ pass k → SaysFail s → ⊥
pass-no-fail k s h (fails l b d j) = never (cc)
pass-no-fail k s h (overloads j) = never (cc)

-- ---- `verdict`

module _ (κs : Lfts 0) (program : Plan → Result Verdict Refusal) (after : Plan → _)
    (meets : (p : Plan) → verdict.Learnt κs (p, tt) (program p) (after p)) where
  -- refuses every plan
  pub verdict-refusing-all : ((p : Plan) → Refuses (asked_verdict_says (program p))) → ⊥
  verdict-refusing-all wrong =
      pass-not-refused 39 (subst Refuses (ap asked_verdict_says (meets (with_set two 1)) ∙ p1) (wrong (with_set two 1)))

  -- says pass of every lawful plan, whatever it does with the others
  pub verdict-passing-all : ((p : Plan) → plan_check p ≡ Lawful → SaysPass (asked_verdict_says (program p))) → ⊥
  verdict-passing-all wrong =
      let said = wrong (with_set two 0) p3-lawful in
      let is = sym said.1 ∙ ap asked_verdict_says (meets (with_set two 0)) ∙ p3 in
      never (cc)

  -- fails every lawful plan
  pub verdict-failing-all : ((p : Plan) → plan_check p ≡ Lawful → SaysFail (asked_verdict_says (program p))) → ⊥
  verdict-failing-all wrong =
      pass-no-fail 39 (asked_verdict_says (program (with_set two 1))) (ap asked_verdict_says (meets (with_set two 1)) ∙ p1)
      (wrong (with_set two 1) p1-lawful)

  -- gives no pair count but the defined one, of any lawful plan
  pub verdict-count-of-pass : (p : Plan) → plan_check p ≡ Lawful → (k : ℕ) → asked_verdict_says (program p) ≡ pass k
      → k ≡ length (all_pairs p)
  verdict-count-of-pass p ok k said = verdict-counts κs p (after p) (program p) (meets p) ok k said

  pub verdict-count-of-fail : (p : Plan) → plan_check p ≡ Lawful → (l b d k : ℕ) → asked_verdict_says (program p) ≡ fail l b d k
      → k ≡ length (compared p (all_pairs p))
  verdict-count-of-fail p ok l b d k said = ((verdict-fails κs p (after p) (program p) (meets p) ok l b d k).0 said).3

-- ---- `verdict_with`

module _ (κs : Lfts 0) (program : Plan → ℕ → Result Verdict Refusal) (after : Plan → ℕ → _)
    (meets : (p : Plan) (m : ℕ) → verdict-with.Learnt κs (p, (m, tt)) (program p m) (after p m)) where
  pub with-refusing-all : ((p : Plan) (m : ℕ) → Refuses (asked_verdict_says (program p m))) → ⊥
  with-refusing-all wrong = pass-not-refused 39 (subst Refuses (ap asked_verdict_says (meets two 1) ∙ p1-with) (wrong two 1))

  pub with-passing-all : ((p : Plan) (m : ℕ) → set_check p m ≡ Lawful → SaysPass (asked_verdict_says (program p m))) → ⊥
  with-passing-all wrong =
      let said = wrong two 0 p3-set in
      let is = sym said.1 ∙ ap asked_verdict_says (meets two 0) ∙ p3-with in
      never (cc)

  pub with-failing-all : ((p : Plan) (m : ℕ) → set_check p m ≡ Lawful → SaysFail (asked_verdict_says (program p m))) → ⊥
  with-failing-all wrong =
      pass-no-fail 39 (asked_verdict_says (program two 1)) (ap asked_verdict_says (meets two 1) ∙ p1-with) (wrong two 1 p1-set)

-- ---- `search`

module _ (κs : Lfts 0) (program : Plan → Result Assign Refusal) (after : Plan → _)
    (meets : (p : Plan) → search-takers.Learnt κs (p, tt) (program p) (after p)) where
  pub search-refusing-all : ((p : Plan) → Refuses (asked_assign_says (program p))) → ⊥
  search-refusing-all wrong = takers-not-refused 1 (subst Refuses (ap asked_assign_says (meets two) ∙ p1-search) (wrong two))

  -- answers set 0 for every lawful plan
  pub search-nobody-takes : ((p : Plan) → plan_check p ≡ Lawful → asked_assign_says (program p) ≡ takers 0) → ⊥
  search-nobody-takes wrong =
      let is = sym (wrong two two-lawful) ∙ ap asked_assign_says (meets two) ∙ p1-search in
      never (cc)

-- ---- `run`

module _ (κs : Lfts 0) (program : Plan → Releases → Result Outcome Refusal) (after : Plan → Releases → _)
    (meets : (p : Plan) (rs : Releases) → run.Learnt κs (p, (rs, tt)) (program p rs) (after p rs)) where
  pub run-refusing-all : ((p : Plan) (rs : Releases) → Refuses (asked_outcome_says (program p rs))) → ⊥
  run-refusing-all wrong =
      clean-not-refused 8 0 12
      (subst Refuses (ap asked_outcome_says (meets (with_set level 2) list) ∙ run-of-eight) (wrong (with_set level 2) list))

  -- idles every day, or works one day and then idles, and reports what it likes: a miss, or a clean run with at most a day of work
  pub run-idling : ((p : Plan) (rs : Releases) → run_check p rs ≡ Lawful → WorksAtMost 1 (asked_outcome_says (program p rs))) → ⊥
  run-idling wrong =
      idles (asked_outcome_says (program (with_set level 2) list)) (ap asked_outcome_says (meets (with_set level 2) list) ∙ run-of-eight)
      (wrong (with_set level 2) list run-lawful)
    where
      idles : (s : Said) → s ≡ clean 8 0 12 → WorksAtMost 1 s → ⊥
      idles s h (misses t i) = never (cc)
      idles s h (ends w m i few) =
          let eight-days : w ≡ 8 = cc in
          omega arith

-- ---- `read` and `answer`: a call with the sample file's text

pub read-refusing-all : (κs : Lfts 1) (lent : _) (e : _) (r : Result PlanFile Refusal) → read.Learnt κs lent r e → lent.0.now ≡ sample
    → Refuses (file_says r) → ⊥
read-refusing-all κs lent e r meets text wrong =
    let is : (reading_of lent.0.now).checked ≡ Lawful = ap (λ t. (reading_of t).checked) text ∙ sample-read in
    let said = wrong.1.1 in
    let spoken = ap file_says meets.0 ∙ file-says (reading_of lent.0.now) ∙ ap checked_says is in
    never (cc)

-- `answer` does not refuse it either: it gives the three answers
pub answer-refusing-all : (κs : Lfts 1) (lent : _) (e : _) (r : Result Answers Refusal) → answer.Learnt κs lent r e → lent.0.now ≡ sample
    → (v : Verdict) × ((a : Assign) × ((o : Outcome) × (r ≡ Answered v a o)))
unfolding answer_of answered
answer-refusing-all κs lent e r meets text =
    (_, (_, (_, meets.0 ∙ ap answer_of text ∙ ap (λ c. answered c (reading_of sample)) sample-read)))
