-- The quick verdict agrees with the full one apart from its count of pairs: the first pair that is broken is one at which a count grows, so
-- both find it. Only that each string is lawful is used: the strings may be any number, H and N any numbers.
use Rattle.base.proofs.Prelude.{ℕ, ◌≡◌, refl, sym, ap, ◌∙◌, true, List, Option, none, some, length}
use Rattle.faults.specs.Checks.{Lawful, Checked}
use Rattle.std.specs.Prelude.{Ok, Err}
use Rattle.rules.specs.declared.Plan.{Plan}
use Rattle.rules.specs.declared.Verdict.{Verdict}
use Rattle.rules.specs.declared.Verdict.TheVariants.{Overload, Fail, Pass}
use Rattle.rules.specs.Plan.{strings_of, leeway_min}
use Rattle.rules.specs.Demand.{block_limit, overloaded}
use Rattle.rules.specs.Verdict.{Pair, all_pairs, broken, first_broken, compared, judged, verdict_of, verdict_over, is_pass}
use Rattle.rules.specs.Search.{with_set}
use Rattle.rules.specs.Refusal.{plan_check, set_check, on_verdict, verdict_answer, set_answer}
use Rattle.base.proofs.{Lists.{All, by_bool}, FirstOf.first_of-keep}
use Rattle.laws.proofs.{Lawful.{LawfulString, plan_check-lawful}, Answers.set-plan}
use Rattle.demand.proofs.{Verdict.first_broken-names, Sets.with_set-lawful}
use Rattle.demand.specs.Quick.{grows, quick_pairs, quick_of, quick_answer, quick_set_answer, apart_from_pairs, asked_apart}
use Rattle.demand.proofs.{Counts.early-no-jobs, Growing.first-grows, BlockingLimit.limit-fits}

-- ---- The same break

pub same-break : (p : Plan) → All LawfulString (strings_of p) → first_broken p (quick_pairs p) ≡ first_broken p (all_pairs p)
unfolding quick_pairs
same-break p each = first_of-keep (broken p) (grows p) (all_pairs p) kept
  where
    kept : (q : Pair) → first_broken p (all_pairs p) ≡ some q → grows p q ≡ true
    kept q h =
        first-grows p each (block_limit p) (leeway_min p) (early-no-jobs p) (limit-fits p) q.l q.b
        (first_broken-names p q.l q.b h)

-- ---- The same verdict

-- by lists with the same first broken pair the verdicts are the same, apart from their counts
module _ (p : Plan) where
  judged-apart : (first : Option Pair) (k m : ℕ) → apart_from_pairs (judged p first k) ≡ apart_from_pairs (judged p first m)
  unfolding judged apart_from_pairs
  judged-apart none k m = refl
  judged-apart (some q) k m = refl

  verdict_over-apart :
      (qs rs : List Pair) → first_broken p qs ≡ first_broken p rs → apart_from_pairs (verdict_over p qs)
      ≡ apart_from_pairs (verdict_over p rs)
  unfolding verdict_over
  verdict_over-apart qs rs same =
      by_bool (overloaded p)
      (λ t. rw t)
      (λ e. rw (e, same) (judged-apart (first_broken p rs) (length (compared p qs)) (length (compared p rs))))

pub quick-agrees : (p : Plan) → All LawfulString (strings_of p) → apart_from_pairs (quick_of p) ≡ apart_from_pairs (verdict_of p)
quick-agrees p each = verdict_over-apart p (quick_pairs p) (all_pairs p) (same-break p each)

-- whether it is a pass does not depend on the count
is_pass-apart : (v : Verdict) → is_pass (apart_from_pairs v) ≡ is_pass v
unfolding apart_from_pairs is_pass
is_pass-apart Overload = refl
is_pass-apart (Fail l b d k) = refl
is_pass-apart (Pass k) = refl

-- the quick verdict passes exactly the plans that the full one passes
pub quick-passes : (p : Plan) → All LawfulString (strings_of p) → is_pass (quick_of p) ≡ is_pass (verdict_of p)
quick-passes p each = sym (is_pass-apart (quick_of p)) ∙ ap is_pass (quick-agrees p each) ∙ is_pass-apart (verdict_of p)

-- ---- The same answer, for any input

answers-apart :
    (c : Checked) (v w : Verdict) → (c ≡ Lawful → apart_from_pairs v ≡ apart_from_pairs w)
    → asked_apart (on_verdict c v) ≡ asked_apart (on_verdict c w)
answers-apart (Ok _) v w same = ap Ok (same refl)
answers-apart (Err e) v w same = refl

pub quick-answer-agrees : (p : Plan) → asked_apart (quick_answer p) ≡ asked_apart (verdict_answer p)
unfolding quick_answer verdict_answer
quick-answer-agrees p = answers-apart (plan_check p) (quick_of p) (verdict_of p) (λ h. quick-agrees p (plan_check-lawful p h).each)

pub quick-set-answer-agrees : (p : Plan) (m : ℕ) → asked_apart (quick_set_answer p m) ≡ asked_apart (set_answer p m)
unfolding quick_set_answer set_answer
quick-set-answer-agrees p m =
    answers-apart (set_check p m) (quick_of (with_set p m)) (verdict_of (with_set p m)) (λ h.
    quick-agrees (with_set p m) (with_set-lawful p m (plan_check-lawful p (set-plan p m h))).each)
