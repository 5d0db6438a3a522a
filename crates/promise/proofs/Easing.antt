-- Easing never hurts (document 02, W-212), of what the code answered. Where an engine said pass of a plan, and some C fall, some T grow,
-- some D grow, some moving costs fall, some strings are dropped, any number of these at once, the permissions staying, it says pass of the
-- new plan, if that is lawful; with a set the same, the set carried along past a dropped string. So what passed is never late, and stays
-- never late. A string dropped from a plan of two or more leaves a lawful plan. Permissions are not on the list: P9, P1 and P3.
use Rattle.base.proofs.Prelude.{ℕ, ◌≤◌, ◌≡◌, refl, sym, ap, ◌∙◌, arith, length}
use Rattle.rules.specs.declared.Outcome.{Outcome}
use Rattle.rules.specs.declared.Verdict.{Verdict}
use Rattle.faults.specs.Checks.{Lawful}
use Rattle.faults.specs.declared.Refusal.{Refusal}
use Rattle.std.specs.Prelude.{Ok, Err, Result}
use Rattle.rules.specs.declared.Plan.{Plan}
use Rattle.rules.specs.declared.Releases.{Releases}
use Rattle.rules.specs.Demand.{Passes}
use Rattle.rules.specs.Verdict.{verdict_of, is_pass}
use Rattle.rules.specs.Search.{with_set}
use Rattle.rules.specs.Release.{releases_of}
use Rattle.rules.specs.Refusal.{plan_check, set_check, run_check, verdict_answer, set_answer}
use Rattle.rules.specs.Said.{overload, fail, pass, clean, asked_verdict_says, asked_outcome_says}
use Rattle.laws.specs.Lawful.{LawfulPlan}
use Rattle.laws.proofs.{Lawful.plan_check-lawful, LawfulChecked.lawful-checked, Answers.{verdict-lawful, set-plan}, Says.asked-pass, Releases.run_check-lawful}
use Rattle.demand.specs.Quick.{apart_from_pairs, asked_apart, quick_answer, quick_set_answer}
use Rattle.demand.proofs.{Sets.with_set-lawful, Verdict.{passes-of-pass, pass-of-passes, pass-count}, Agreeing.{quick-answer-agrees, quick-set-answer-agrees}, Permissions.set-is-plan}
use Rattle.sound.specs.Served.{released, due_of, Served}
use Rattle.sound.proofs.{CleanAnswer.never-misses, Served.served}
use Rattle.results.specs.{Easing.EasedPlan, Change.{Change, Hurts, Dropped}}
use Rattle.results.proofs.{NeverHurts.{eased-passes, eased-keeps-rule}, Dropping.{dropped-lawful, dropped-eases}, Permissions.{giving, taking, giving-hurts, taking-hurts}}
use Rattle.promise.specs.{NeverMiss.NeverMiss, Wrong.SaysPass}
use Rattle.promise.proofs.NeverMisses.{passed, rule-never-misses}
use Rattle.rules.specs.declared.Verdict.TheVariants as verdict-is
use Rattle.verdict.proofs.verdict.Reads as verdict
use Rattle.verdict.proofs.verdict_with.Reads as verdict-with
use Rattle.verdict.proofs.quick.Reads as quick
use Rattle.verdict.proofs.quick_with.Reads as quick-with
use Rattle.run.proofs.run.Reads as run
use contract.Lifetimes.{Lfts}

-- ---- What it is to say pass

never : ◌≡◌ {A = ℕ} 0 1 → ⊥
never z = omega arith

pass-apart : (v : Result Verdict Refusal) → SaysPass (asked_verdict_says v) → asked_apart v ≡ Ok (verdict-is.Pass 0)
unfolding apart_from_pairs
pass-apart v (k, said) = ap asked_apart (asked-pass v k said)

apart-pass : (v : Result Verdict Refusal) → asked_apart v ≡ Ok (verdict-is.Pass 0) → SaysPass (asked_verdict_says v)
unfolding apart_from_pairs
apart-pass (Err e) h = absurd (never (cc))
apart-pass (Ok verdict-is.Overload) h = absurd (never (cc))
apart-pass (Ok (verdict-is.Fail l b d k)) h = absurd (never (cc))
apart-pass (Ok (verdict-is.Pass k)) h = (k, refl)

-- two answers that agree apart from their counts both say pass, or neither does
pass-of-apart : (v w : Result Verdict Refusal) → asked_apart v ≡ asked_apart w → SaysPass (asked_verdict_says v)
    → SaysPass (asked_verdict_says w)
pass-of-apart v w same said = apart-pass w (sym same ∙ pass-apart v said)

-- ---- Over the answers' definitions

plan-checked : (p : Plan) → SaysPass (asked_verdict_says (verdict_answer p)) → plan_check p ≡ Lawful
unfolding verdict_answer
plan-checked p (k, said) = (passed (plan_check p) (verdict_of p) k (asked-pass (verdict_answer p) k said)).0

-- what says pass is lawful, and the rule holds
lawful-rule : (p : Plan) → SaysPass (asked_verdict_says (verdict_answer p)) → LawfulPlan p × Passes p
unfolding verdict_answer is_pass
lawful-rule p (k, said) =
    let both = passed (plan_check p) (verdict_of p) k (asked-pass (verdict_answer p) k said) in
    let ok = plan_check-lawful p both.0 in
    (ok, passes-of-pass p ok (ap is_pass both.1))

rule-says : (q : Plan) → plan_check q ≡ Lawful → Passes q → SaysPass (asked_verdict_says (verdict_answer q))
rule-says q lawful rule =
    let is = pass-count q (pass-of-passes q (plan_check-lawful q lawful) rule) in
    (_, ap asked_verdict_says (verdict-lawful q lawful ∙ ap Ok is))

answer-eased : (p q : Plan) → EasedPlan p q → plan_check q ≡ Lawful → SaysPass (asked_verdict_says (verdict_answer p))
    → SaysPass (asked_verdict_says (verdict_answer q))
answer-eased p q easier lawful said =
    let old = lawful-rule p said in
    rule-says q lawful (eased-passes p q old.0 (plan_check-lawful q lawful) easier old.1)

-- with a set, the plan is the one with that set
set-checked : (p : Plan) (m : ℕ) → SaysPass (asked_verdict_says (set_answer p m)) → set_check p m ≡ Lawful
unfolding set_answer
set-checked p m (k, said) = (passed (set_check p m) (verdict_of (with_set p m)) k (asked-pass (set_answer p m) k said)).0

set-answer-eased : (p q : Plan) (m k : ℕ) → EasedPlan (with_set p m) (with_set q k) → set_check q k ≡ Lawful
    → SaysPass (asked_verdict_says (set_answer p m)) → SaysPass (asked_verdict_says (set_answer q k))
set-answer-eased p q m k easier lawful said =
    let plan_is = set-is-plan p m (set-checked p m said) in
    let New-is = set-is-plan q k lawful in
    let new-lawful = lawful-checked (with_set q k) (with_set-lawful q k (plan_check-lawful q (set-plan q k lawful))) in
    rw New-is (answer-eased (with_set p m) (with_set q k) easier new-lawful (rw plan_is at said))

-- ---- Of what the code answered

module _ (κs : Lfts 0) (p q : Plan) (e f : _) (v w : Result Verdict Refusal) where
  module _ (easier : EasedPlan p q) (lawful : plan_check q ≡ Lawful) where
    pub verdict-eased : verdict.Learnt κs (p, tt) v e → verdict.Learnt κs (q, tt) w f
        → SaysPass (asked_verdict_says v) → SaysPass (asked_verdict_says w)
    verdict-eased h k said = rw k (answer-eased p q easier lawful (rw h at said))

    pub quick-eased : quick.Learnt κs (p, tt) v e → quick.Learnt κs (q, tt) w f
        → SaysPass (asked_verdict_says v) → SaysPass (asked_verdict_says w)
    quick-eased h k said =
        let old = pass-of-apart (quick_answer p) (verdict_answer p) (quick-answer-agrees p) (rw h at said) in
        rw k (pass-of-apart (verdict_answer q) (quick_answer q) (sym (quick-answer-agrees q)) (answer-eased p q easier lawful old))

  -- the set k of q gives each string that is left the permission that the set m of p gave it; every set has such a one (`set-carried`)
  module _ (m k : ℕ) (easier : EasedPlan (with_set p m) (with_set q k)) (lawful : set_check q k ≡ Lawful) where
    pub verdict-with-eased : verdict-with.Learnt κs (p, (m, tt)) v e → verdict-with.Learnt κs (q, (k, tt)) w f
        → SaysPass (asked_verdict_says v) → SaysPass (asked_verdict_says w)
    verdict-with-eased h j said = rw j (set-answer-eased p q m k easier lawful (rw h at said))

    pub quick-with-eased : quick-with.Learnt κs (p, (m, tt)) v e → quick-with.Learnt κs (q, (k, tt)) w f
        → SaysPass (asked_verdict_says v) → SaysPass (asked_verdict_says w)
    quick-with-eased h j said =
        let old = pass-of-apart (quick_set_answer p m) (set_answer p m) (quick-set-answer-agrees p m) (rw h at said) in
        rw j
        (pass-of-apart (set_answer q k) (quick_set_answer q k) (sym (quick-set-answer-agrees q k))
        (set-answer-eased p q m k easier lawful old))

  -- a string is dropped from a plan of two or more: nothing else is asked
  pub verdict-dropped : (i : ℕ) → Dropped p q i → verdict.Learnt κs (p, tt) v e → verdict.Learnt κs (q, tt) w f
      → SaysPass (asked_verdict_says v) → SaysPass (asked_verdict_says w)
  verdict-dropped i without h k (n, said) =
      let ok = plan-checked p (n, ap asked_verdict_says (sym h) ∙ said) in
      verdict-eased (dropped-eases p q i without) (dropped-lawful p q i without ok) h k (n, said)

-- ---- With demand 3

-- what passed is never late, and eased it is never late
module _ (κs : Lfts 0) (p q : Plan) (e : _) (v : Result Verdict Refusal) (answered-is : verdict.Learnt κs (p, tt) v e)
    (said : SaysPass (asked_verdict_says v)) (easier : EasedPlan p q) where
  new-rule : Passes q
  new-rule =
      let old = lawful-rule p (rw answered-is at said) in
      eased-keeps-rule p q old.0 easier old.1

  pub eased-never-misses : NeverMiss q
  eased-never-misses = rule-never-misses q new-rule

  -- over lawful releases its run ends clean
  pub eased-runs-clean : (rs : Releases) (f : _) (o : Result Outcome Refusal) → run.Learnt κs (q, (rs, tt)) o f → run_check q rs ≡ Lawful
      → (w : ℕ) × ((m : ℕ) × ((i : ℕ) × (asked_outcome_says o ≡ clean w m i)))
  eased-runs-clean rs f o ran lawful = (_, (_, (_, ap asked_outcome_says (ran ∙ never-misses q rs lawful new-rule))))

  -- and each of its jobs has had all its work, and any moving it caused, before its deadline
  pub eased-served : (rs : Releases) → run_check q rs ≡ Lawful → (i : ℕ) → 1 ≤ i → i ≤ length (releases_of rs) → (d : ℕ)
      → due_of q (released (releases_of rs) i) ≤ d → Served q (releases_of rs) i d
  eased-served rs lawful i low high d due =
      let run_is = run_check-lawful q rs lawful in
      served q (releases_of rs) run_is.plan run_is.none_bad new-rule i d low high due

-- ---- Permissions are not on the list

module _ (κs : Lfts 0) (e f : _) (v w : Result Verdict Refusal) where
  turned : (c : Change) → Hurts c → verdict.Learnt κs (c.before, tt) v e → verdict.Learnt κs (c.after, tt) w f
      → (asked_verdict_says v ≡ c.said) × (asked_verdict_says w ≡ c.says)
  turned c hurt h k = (ap asked_verdict_says h ∙ hurt.both.was, ap asked_verdict_says k ∙ hurt.both.is)

  -- P9: giving one turns pass into overload
  pub giving-turns : verdict.Learnt κs (giving.before, tt) v e → verdict.Learnt κs (giving.after, tt) w f
      → (asked_verdict_says v ≡ pass 3) × (asked_verdict_says w ≡ overload 0)
  unfolding giving
  giving-turns = turned giving giving-hurts

  -- P1 and P3: taking one away turns pass into fail
  pub taking-turns : verdict.Learnt κs (taking.before, tt) v e → verdict.Learnt κs (taking.after, tt) w f
      → (asked_verdict_says v ≡ pass 39) × (asked_verdict_says w ≡ fail 5 3 6 8)
  unfolding taking
  taking-turns = turned taking taking-hurts
