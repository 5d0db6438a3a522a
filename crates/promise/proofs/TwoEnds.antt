-- The two ends of the rule, of what the code answered (source, lemmas 1 and 3). Of a plan within its bounds: with everybody permitted the
-- verdict is a pass exactly by the rule of windows, with nobody exactly by np-EDF's; where either passes the search finds a set, and where
-- nobody needs a permission it gives none.
use Rattle.base.proofs.Prelude.{ℕ, ◌≡◌, sym, ap, ◌∙◌, ◌⊎◌, ◌↔◌, length}
use Rattle.rules.specs.declared.Verdict.{Verdict}
use Rattle.faults.specs.Checks.{Lawful}
use Rattle.faults.specs.declared.Refusal.{Refusal}
use Rattle.std.specs.Prelude.{Ok, Result, Some}
use Rattle.rules.specs.Found.{Assign}
use Rattle.rules.specs.declared.Plan.{Plan}
use Rattle.rules.specs.Verdict.{all_pairs}
use Rattle.rules.specs.Search.{with_set, search_of}
use Rattle.rules.specs.Refusal.{plan_check, set_check}
use Rattle.rules.specs.Said.{pass, takers, asked_verdict_says, asked_assign_says}
use Rattle.laws.proofs.{Lawful.plan_check-lawful, Answers.{set-plan, search-lawful}, Says.asked-takers}
use Rattle.results.specs.TwoEnds.{everybody, EverybodyRule, NobodyRule}
use Rattle.results.proofs.TwoEnds.{everybody-exactly, nobody-exactly, nobody-found, never-worse}
use Rattle.verdict.proofs.verdict_with.Reads as verdict-with
use Rattle.verdict.proofs.search.Reads as search-takers
use Rattle.promise.proofs.UserWords.{verdict-with-passes}
use contract.Lifetimes.{Lfts}

-- ---- The verdict at either end

module _ (κs : Lfts 0) (p : Plan) (e : _) (v : Result Verdict Refusal) where
  pub everybody-passes : verdict-with.Learnt κs (p, (everybody p, tt)) v e → set_check p (everybody p) ≡ Lawful
      → (asked_verdict_says v ≡ pass (length (all_pairs (with_set p (everybody p))))) ↔ EverybodyRule p
  everybody-passes answered ok =
      let says = verdict-with-passes κs p (everybody p) e v answered ok in
      let rule = everybody-exactly p (plan_check-lawful p (set-plan p (everybody p) ok)) in
      (λ h. rule.0 (says.0 h), λ h. says.1 (rule.1 h))

  pub nobody-passes : verdict-with.Learnt κs (p, (0, tt)) v e → set_check p 0 ≡ Lawful
      → (asked_verdict_says v ≡ pass (length (all_pairs (with_set p 0)))) ↔ NobodyRule p
  nobody-passes answered ok =
      let says = verdict-with-passes κs p 0 e v answered ok in
      let rule = nobody-exactly p (plan_check-lawful p (set-plan p 0 ok)) in
      (λ h. rule.0 (says.0 h), λ h. says.1 (rule.1 h))

-- ---- The search

module _ (κs : Lfts 0) (p : Plan) (e : _) (a : Result Assign Refusal) (answered : search-takers.Learnt κs (p, tt) a e)
    (ok : plan_check p ≡ Lawful) where
  said : (m : ℕ) → search_of p ≡ Some m → asked_assign_says a ≡ takers m
  said m found = ap asked_assign_says (answered ∙ search-lawful p ok ∙ ap Ok found)

  -- never worse than everybody's set, nor than nobody's
  pub search-never-worse : EverybodyRule p ⊎ NobodyRule p → (m : ℕ) × (asked_assign_says a ≡ takers m)
  search-never-worse rule =
      let found = never-worse p (plan_check-lawful p ok) rule in
      (found.0, said found.0 found.1)

  pub search-gives-none : (asked_assign_says a ≡ takers 0) ↔ NobodyRule p
  search-gives-none =
      let exactly = nobody-found p (plan_check-lawful p ok) in
      (λ h. exactly.1 (told (asked-takers a 0 h)), λ rule. said 0 (exactly.0 rule))
    where
      told : a ≡ Ok (Some 0) → search_of p ≡ Some 0
      told h =
          let both = sym (search-lawful p ok) ∙ sym answered ∙ h in
          cc
