-- Demand 2 in the user's words, of what the code answered: `Learnt` is what a function's own contract says of its answer. Of a plan within
-- its bounds:
--     the verdict says pass, with all pairs, exactly where the demand is at most l for every whole l ≥ 1 and every blocking; there is no
-- upper end
--     it says overload, with pair count 0, exactly where the plan is overloaded
--     it says fail exactly with the first break, the demand there and the pairs compared
--     the search says a set exactly if it is the best one, and none exactly if the plan passes with none of the 2^n sets; X plays no part
--     the days of a clean run count its history, and their sum is N
use Rattle.base.proofs.Prelude.{ℕ, ◌+◌, ◌^◌, ◌<◌, ◌≡◌, sym, ap, ◌∙◌, ◌↔◌, Bool, true, false, arith, length}
use Rattle.rules.specs.declared.Outcome.{Outcome}
use Rattle.faults.specs.Checks.{Lawful}
use Rattle.faults.specs.declared.Refusal.{Refusal}
use Rattle.std.specs.Prelude.{Ok, Result}
use Rattle.rules.specs.Found.{Assign}
use Rattle.base.specs.Count.{count_of}
use Rattle.base.proofs.Lists.{by_bool, true-not-false}
use Rattle.days.specs.Days.{days}
use Rattle.rules.specs.declared.Plan.{Plan}
use Rattle.rules.specs.declared.Releases.{Releases}
use Rattle.rules.specs.declared.Use.{Use}
use Rattle.rules.specs.declared.Verdict.{Verdict}
use Rattle.rules.specs.Demand.{Passes, demand, overloaded}
use Rattle.rules.specs.Verdict.{all_pairs, compared, verdict_of, is_pass}
use Rattle.rules.specs.Search.{with_set, set_passes, search_of}
use Rattle.rules.specs.Release.{releases_of}
use Rattle.rules.specs.Run.{history, days_of, is_work, is_move, is_idle}
use Rattle.rules.specs.Refusal.{plan_check, set_check, verdict_answer}
use Rattle.rules.specs.Said.{overload, fail, pass, takers, none, clean, outcome_says, asked_verdict_says, asked_assign_says, asked_outcome_says}
use Rattle.laws.proofs.{Lawful.plan_check-lawful, LawfulChecked.lawful-checked, Answers.{verdict-lawful, set-plan, search-lawful}, Says.{asked-pass, asked-overload, asked-fail, asked-takers, asked-none, asked-clean}, History.kinds-add-up}
use Rattle.demand.specs.FirstBreak.{FirstBreak}
use Rattle.demand.proofs.{Sets.with_set-lawful, Verdict.{pass-exactly, pass-count, overload-exactly, fail-names, fail-not-overloaded, break-fails}}
use Rattle.demand.specs.BestSet.{BestSet}
use Rattle.demand.proofs.{Search.{set_passes-exactly, Best, best-of-search, search-of-best, none-of-nobody, nobody-of-none}, Permissions.{set-is-plan, search-blind-to-x}}
use Rattle.sound.proofs.CleanAnswer.{answer-clean-days}
use Rattle.rules.specs.declared.Outcome.TheVariants as outcome-is
use Rattle.verdict.proofs.verdict.Reads as verdict
use Rattle.verdict.proofs.verdict_with.Reads as verdict-with
use Rattle.verdict.proofs.search.Reads as search-takers
use Rattle.run.proofs.run.Reads as run
use contract.Lifetimes.{Lfts}

-- ---- The verdict

-- over the answer's definition; the contracts below cite these
module _ (p : Plan) (ok : plan_check p ≡ Lawful) where
  -- the verdict that is given is the rules'
  given : (w : Verdict) → verdict_answer p ≡ Ok w → verdict_of p ≡ w
  given w h =
      let both = sym (verdict-lawful p ok) ∙ h in
      cc

  answer-passes : (asked_verdict_says (verdict_answer p) ≡ pass (length (all_pairs p))) ↔ Passes p
  unfolding is_pass
  answer-passes =
      let same = verdict-lawful p ok in
      let rule = pass-exactly p (plan_check-lawful p ok) in (
        λ h. rule.0 (ap is_pass (given _ (asked-pass (verdict_answer p) _ h))),
        λ h. ap asked_verdict_says (same ∙ ap Ok (pass-count p (rule.1 h))),
      )

  answer-overload : (asked_verdict_says (verdict_answer p) ≡ overload 0) ↔ (overloaded p ≡ true)
  answer-overload =
      let same = verdict-lawful p ok in
      let over = overload-exactly p in (
        λ h. over.0 (given _ (asked-overload (verdict_answer p) 0 h)),
        λ h. ap asked_verdict_says (same ∙ ap Ok (over.1 h)),
      )

  answer-fails : (l b d k : ℕ)
      → (asked_verdict_says (verdict_answer p) ≡ fail l b d k)
      ↔ ((overloaded p ≡ false) × FirstBreak p l b × (d ≡ demand p l b) × (k ≡ length (compared p (all_pairs p))))
  answer-fails l b d k =
      let same = verdict-lawful p ok in (
        λ h.
            let fails = given _ (asked-fail (verdict_answer p) l b d k h) in
            let named = fail-names p (days l) (days b) (days d) k fails in
            (fail-not-overloaded p (days l) (days b) (days d) k fails, named.0, ap (λ n. n.0) named.1, named.2),
        λ h.
            ap asked_verdict_says (same ∙ ap Ok (break-fails p (plan_check-lawful p ok) l b h.0 h.1))
            ∙ rw (h.2, h.3),
      )

module _ (κs : Lfts 0) (p : Plan) (e : _) (v : Result Verdict Refusal) (answered : verdict.Learnt κs (p, tt) v e)
    (ok : plan_check p ≡ Lawful) where
  pub verdict-passes : (asked_verdict_says v ≡ pass (length (all_pairs p))) ↔ Passes p
  verdict-passes = rw answered (answer-passes p ok)

  -- a pass has that count and no other
  pub verdict-counts : (k : ℕ) → asked_verdict_says v ≡ pass k → k ≡ length (all_pairs p)
  verdict-counts k h = days_with (ap asked_verdict_says (sym answered) ∙ h)
    where
      days_with : asked_verdict_says (verdict_answer p) ≡ pass k → k ≡ length (all_pairs p)
      days_with says = unfold is_pass in
          let is = given p ok _ (asked-pass (verdict_answer p) k says) in
          let all = sym is ∙ pass-count p (ap is_pass is) in
          cc

  pub verdict-overload : (asked_verdict_says v ≡ overload 0) ↔ (overloaded p ≡ true)
  verdict-overload = rw answered (answer-overload p ok)

  pub verdict-fails : (l b d k : ℕ)
      → (asked_verdict_says v ≡ fail l b d k)
      ↔ ((overloaded p ≡ false) × FirstBreak p l b × (d ≡ demand p l b) × (k ≡ length (compared p (all_pairs p))))
  verdict-fails l b d k = rw answered (answer-fails p ok l b d k)

-- with a lawful set, the verdict is that of the plan with the set: all of the above holds of it
module _ (κs : Lfts 0) (p : Plan) (m : ℕ) (e : _) (v : Result Verdict Refusal) (answered : verdict-with.Learnt κs (p, (m, tt)) v e)
    (ok : set_check p m ≡ Lawful) where
  pub verdict-with-is : v ≡ verdict_answer (with_set p m)
  verdict-with-is = answered ∙ set-is-plan p m ok

  pub verdict-with-passes : (asked_verdict_says v ≡ pass (length (all_pairs (with_set p m)))) ↔ Passes (with_set p m)
  verdict-with-passes =
      let lawful = lawful-checked (with_set p m) (with_set-lawful p m (plan_check-lawful p (set-plan p m ok))) in
      rw verdict-with-is (answer-passes (with_set p m) lawful)

-- ---- The search

module _ (κs : Lfts 0) (p : Plan) (e : _) (a : Result Assign Refusal) (answered : search-takers.Learnt κs (p, tt) a e)
    (ok : plan_check p ≡ Lawful) where
  -- the set that is given is the rules'
  found : (w : Assign) → a ≡ Ok w → search_of p ≡ w
  found w h =
      let both = sym (search-lawful p ok) ∙ sym answered ∙ h in
      cc

  rule : (k : ℕ) → (set_passes p k ≡ true) ↔ Passes (with_set p k)
  rule k = set_passes-exactly p (plan_check-lawful p ok) k

  best_set-of-best : (m : ℕ) → Best p m → BestSet p m
  best_set-of-best m best =
      record {
        below = best.below;
        passes = (rule m).0 best.passes;
        fewest = λ k h t. best.fewest k h ((rule k).1 t);
        smallest = λ k h t e. best.smallest k h ((rule k).1 t) e;
      }

  best-of-best_set : (m : ℕ) → BestSet p m → Best p m
  best-of-best_set m best =
      record {
        passes = (rule m).1 best.passes;
        below = best.below;
        fewest = λ k h t. best.fewest k h ((rule k).0 t);
        smallest = λ k h t e. best.smallest k h ((rule k).0 t) e;
      }

  pub search-finds : (m : ℕ) → (asked_assign_says a ≡ takers m) ↔ BestSet p m
  search-finds m = (
    λ h. best_set-of-best m (best-of-search p m (found _ (asked-takers a m h))),
    λ best. ap asked_assign_says (answered ∙ search-lawful p ok ∙ ap Ok (search-of-best p m (best-of-best_set m best))),
  )

  pub search-nobody : (asked_assign_says a ≡ none) ↔ ((k : ℕ) → k < 2 ^ p.n → Passes (with_set p k) → ⊥)
  search-nobody = (
    λ h k below passes. true-not-false
        (sym ((rule k).1 passes) ∙ none-of-nobody p (found _ (asked-none a h)) k below),
    λ nobody.
        ap asked_assign_says
        (answered ∙ search-lawful p ok ∙ ap Ok (nobody-of-none p
        (λ k below. by_bool (set_passes p k) (λ t. absurd (nobody k below ((rule k).0 t))) (λ f. f)))),
  )

  -- the X of the plan plays no part: another lawful plan that differs in X alone is answered alike
  pub search-ignores-x : (q : Plan) (f : _) (b : Result Assign Refusal) → search-takers.Learnt κs (q, tt) b f → plan_check q ≡ Lawful
      → with_set p 0 ≡ with_set q 0
      → a ≡ b
  search-ignores-x q f b also ok_q same = answered ∙ search-blind-to-x p q ok ok_q same ∙ sym also

-- ---- The run

module _ (κs : Lfts 0) (p : Plan) (rs : Releases) (e : _) (o : Result Outcome Refusal) (answered : run.Learnt κs (p, (rs, tt)) o e)
    (w m i : ℕ)
    (said : asked_outcome_says o ≡ clean w m i) where
  -- how many days of the run's history are of a kind
  abbrev pub days_with : (Use → Bool) → ℕ
  days_with kind = count_of kind (history p (releases_of rs) p.run.0)

  days-are : outcome-is.Clean (days_of p (releases_of rs) is_work) (days_of p (releases_of rs) is_move) (days_of p (releases_of rs) is_idle)
      ≡ outcome-is.Clean (days w) (days m) (days i)
  days-are = answer-clean-days p (days w) (days m) (days i) rs (sym answered ∙ asked-clean o w m i said)

  pub clean-counts : (w ≡ days_with is_work) × (m ≡ days_with is_move) × (i ≡ days_with is_idle)
  unfolding days_of
  clean-counts =
      let same = ap outcome_says days-are in
      (cc, cc, cc)

  pub clean-sum : w + m + i ≡ p.run.0
  clean-sum = omega (arith, clean-counts, kinds-add-up p (releases_of rs) p.run.0)
