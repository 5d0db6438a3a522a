-- Easing never hurts (document 02, W-212) of one number: with which values a plan is lawful and passes.
use Rattle.base.proofs.Prelude.{ℕ, zero, suc, ◌-◌, ◌≤◌, ◌<◌, ◌≡◌, refl, sym, ap, ◌∙◌, true, List, [], ◌∷◌, arith, le_refl, eqb-true, length, get_or, take, set, length-set, length-take-le, get_or-take, get_or-set_same}
use Rattle.faults.specs.Checks.{Lawful, Checked}
use Rattle.faults.specs.declared.Refusal.{Refusal}
use Rattle.std.specs.Prelude.{Ok, Err, Result}
use Rattle.base.proofs.Lists.{true-not-false, all-at}
use Rattle.rules.specs.declared.BatteryString.{BatteryString}
use Rattle.rules.specs.declared.Plan.{Plan}
use Rattle.rules.specs.declared.Verdict.{Verdict}
use Rattle.rules.specs.Plan.{strings_of, no_string}
use Rattle.rules.specs.Verdict.{verdict_of, is_pass}
use Rattle.rules.specs.Refusal.{plan_check, on_verdict, verdict_answer}
use Rattle.laws.proofs.{Lawful.{LawfulString, plan_check-lawful}}
use Rattle.demand.specs.Quick.{apart_from_pairs, asked_apart, quick_answer}
use Rattle.demand.proofs.{Verdict.pass-exactly, Agreeing.quick-answer-agrees}
use Rattle.results.specs.Easing.{Eased, EasedPlan}
use Rattle.results.proofs.{Changes.one-eased, NeverHurts.eased-passes}
use Rattle.slack.specs.{declared.Letter.Letter, Slack.{string_with, plan_with, says_pass, passes_with}, Beyond.{Harder, gapless, LawfulWith, RuleWith}, inner.Values.{finds_nothing, lawful_with}}
use Rattle.slack.specs.declared.Letter.TheVariants as letter
use Rattle.rules.specs.declared.Verdict.TheVariants as verdict-is

-- ---- What it is to pass with a value

says_both : (c : Checked) (v : Verdict) → says_pass (on_verdict c v) ≡ true → (c ≡ Lawful) × (is_pass v ≡ true)
says_both (Ok _) v h = (refl, h)
says_both (Err e) v h = absurd (true-not-false (sym h))

module _ (p : Plan) (i : ℕ) (x : Letter) (v : ℕ) where
  pub lawful-with : lawful_with p i x v ≡ true → LawfulWith p i x v
  unfolding lawful_with
  lawful-with h = finds (plan_check (plan_with p i x v)) h
    where
      finds : (c : Checked) → finds_nothing c ≡ true → c ≡ Lawful
      finds (Ok _) t = refl
      finds (Err e) t = absurd (true-not-false (sym t))

  pub with-lawful : LawfulWith p i x v → lawful_with p i x v ≡ true
  unfolding lawful_with
  with-lawful h = rw h

  pub passes-rule : passes_with p i x v ≡ true → LawfulWith p i x v × RuleWith p i x v
  unfolding passes_with verdict_answer
  passes-rule h =
      let both = says_both (plan_check (plan_with p i x v)) (verdict_of (plan_with p i x v)) h in
      (both.0, (pass-exactly (plan_with p i x v) (plan_check-lawful (plan_with p i x v) both.0)).0 both.1)

  pub rule-passes : LawfulWith p i x v → RuleWith p i x v → passes_with p i x v ≡ true
  unfolding passes_with verdict_answer
  rule-passes lawful rule = rw lawful ((pass-exactly (plan_with p i x v) (plan_check-lawful (plan_with p i x v) lawful)).1 rule)

-- a quick verdict says so too
says-apart : (a : Result Verdict Refusal) → says_pass (asked_apart a) ≡ says_pass a
unfolding apart_from_pairs is_pass
says-apart (Err e) = refl
says-apart (Ok verdict-is.Overload) = refl
says-apart (Ok (verdict-is.Fail l b d k)) = refl
says-apart (Ok (verdict-is.Pass k)) = refl

pub quick-says : (p : Plan) (i : ℕ) (x : Letter) (v : ℕ) (q : Plan) (a : Result Verdict Refusal) → q ≡ plan_with p i x v → a
    ≡ quick_answer q
    → says_pass a ≡ passes_with p i x v
unfolding passes_with
quick-says p i x v q a changed asked =
    ap says_pass asked
    ∙ sym (says-apart (quick_answer q))
    ∙ ap says_pass (quick-answer-agrees q)
    ∙ says-apart (verdict_answer q)
    ∙ ap (λ r. says_pass (verdict_answer r)) changed

pub check-finds : (p : Plan) (i : ℕ) (x : Letter) (v : ℕ) (q : Plan) (c : Checked) → q ≡ plan_with p i x v → c ≡ plan_check q
    → finds_nothing c ≡ lawful_with p i x v
unfolding lawful_with
check-finds p i x v q c changed checked = ap finds_nothing checked ∙ ap (λ r. finds_nothing (plan_check r)) changed

-- ---- The string at its place

set-again {ℓ} : {B : Type ℓ} (n k : ℕ) (xs : List B) (a b : B) → set (take n (set xs k a)) k b ≡ take n (set xs k b)
set-again zero k xs a b = refl
set-again (suc n) k [] a b = refl
set-again (suc n) zero (y ∷ xs) a b = refl
set-again (suc n) (suc k) (y ∷ xs) a b = ap (λ ys. y ∷ ys) (set-again n k xs a b)

module _ (p : Plan) (i : ℕ) (x : Letter) (low : 1 ≤ i) (high : i ≤ p.n) (room : p.n ≤ length p.strings) where
  abbrev here : BatteryString
  here = get_or p.strings (i - 1) no_string

  changed-is : (v : ℕ) → get_or (strings_of (plan_with p i x v)) (i - 1) no_string ≡ string_with x v here
  unfolding plan_with
  changed-is v =
      get_or-take p.n (set p.strings (i - 1) (string_with x v here)) (i - 1) no_string (omega arith)
      ∙ get_or-set_same p.strings (i - 1) (string_with x v here) no_string (omega arith)

  -- it is lawful where the plan is, so that no lawful value is over 1,000
  pub changed-lawful : (v : ℕ) → LawfulWith p i x v → LawfulString (string_with x v here)
  unfolding plan_with
  changed-lawful v lawful =
      let q = plan_with p i x v in
      let many : length (strings_of q) ≡ p.n =
      length-take-le p.n q.strings (omega (arith, length-set p.strings (i - 1) (string_with x v here))) in
      rw (changed-is v) at (all-at LawfulString (strings_of q) no_string (plan_check-lawful q lawful).each (i - 1) (omega arith))

-- one number is easier, and the others are as they were
eases : (old new : BatteryString) → new.c.0 ≤ old.c.0 → old.t.0 ≤ new.t.0 → old.d.0 ≤ new.d.0 → new.j.0 ≤ old.j.0
    → new.a.0 ≤ old.a.0 → (old.d.0 < new.d.0 → new.j.0 ≡ 0) → new.x ≡ old.x → Eased old new
eases old new c t d j a only x = record { work = c; apart = t; due = d; late = j; grown = only; moving = a; permission = x }

eased-with : (x : Letter) (s : BatteryString) (v w : ℕ) → gapless x s ≡ true → Harder x v w → Eased (string_with x v s) (string_with x w s)
eased-with letter.C s v w g h =
    eases _ _ (omega arith) (le_refl _) (le_refl _) (le_refl _) (le_refl _) (λ more. absurd (omega arith)) refl
eased-with letter.D s v w g h =
    eases _ _ (le_refl _) (le_refl _) (omega arith) (le_refl _) (le_refl _) (λ more. eqb-true s.j.0 0 g) refl
eased-with letter.T s v w g h =
    eases _ _ (le_refl _) (omega arith) (le_refl _) (le_refl _) (le_refl _) (λ more. absurd (omega arith)) refl
eased-with letter.A s v w g h =
    eases _ _ (le_refl _) (le_refl _) (le_refl _) (le_refl _) (omega arith) (λ more. absurd (omega arith)) refl
eased-with letter.J s v w g h =
    eases _ _ (le_refl _) (le_refl _) (le_refl _) (omega arith) (le_refl _) (λ more. absurd (omega arith)) refl

small : (x : Letter) (s : BatteryString) (v : ℕ) → LawfulString (string_with x v s) → v ≤ 1000
small letter.C s v ok = omega (arith, ok.c_max, ok.d_max, ok.t_max)
small letter.D s v ok = omega (arith, ok.d_max, ok.t_max)
small letter.T s v ok = ok.t_max
small letter.A s v ok = ok.a_max
small letter.J s v ok = omega (arith, ok.j_max, ok.d_max, ok.t_max)

module _ (p : Plan) (i : ℕ) (x : Letter) (low : 1 ≤ i) (high : i ≤ p.n) (room : p.n ≤ length p.strings) where
  pub lawful-small : (v : ℕ) → LawfulWith p i x v → v ≤ 1000
  lawful-small v lawful = small x (get_or p.strings (i - 1) no_string) v (changed-lawful p i x low high room v lawful)

  -- where a value passes, every easier lawful one does
  module _ (no_gaps : gapless x (get_or p.strings (i - 1) no_string) ≡ true) (v w : ℕ) (easier : Harder x v w) where
    with-eased : EasedPlan (plan_with p i x v) (plan_with p i x w)
    unfolding plan_with
    with-eased =
        let s = get_or p.strings (i - 1) no_string in
        one-eased (plan_with p i x v) (plan_with p i x w) (i - 1) (string_with x w s)
        (rw (changed-is p i x low high room v) (eased-with x s v w no_gaps easier))
        (sym (set-again p.n (i - 1) p.strings (string_with x v s) (string_with x w s)))

    pub easier-passes : LawfulWith p i x v → LawfulWith p i x w → RuleWith p i x v → RuleWith p i x w
    easier-passes hard easy =
        eased-passes (plan_with p i x v) (plan_with p i x w) (plan_check-lawful (plan_with p i x v) hard)
        (plan_check-lawful (plan_with p i x w) easy) with-eased
