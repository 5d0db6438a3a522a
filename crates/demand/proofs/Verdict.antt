-- The verdict's definition means what document 01 says: Pass exactly where the plan passes, with all pairs counted; and a Fail
-- names the first pair, in order of l, then b, that breaks the rule.
use Rattle.base.proofs.Prelude.{ℕ, ◌+◌, ◌-◌, ◌≤◌, zero-le, ◌≡◌, refl, sym, ap, ◌∙◌, ◌⊎◌, inl, inr, ◌↔◌, true, false, Option, none, some, arith, dec_le, le_antisymm, length}
use native.Mathlib.Nat.{le_trans}
use Rattle.days.specs.{Days.days, declared.Length.Length}
use Rattle.rules.specs.{declared.Plan.Plan, declared.Verdict.TheVariants.{Overload, Fail, Pass}, Plan.{multiple_of, d_max}, Demand.{block_limit, demand, Passes, overloaded}, Verdict.{Pair, all_pairs, broken, first_broken, compared, judged, verdict_of, verdict_over, is_pass}}
use Rattle.base.proofs.{Lists.{by_bool, true-not-false}, FirstOf.{first_of-none, first_of-passes, first_of-in, first_of-least}}
use Rattle.laws.proofs.Lawful.{LawfulPlan}
use Rattle.demand.proofs.{Pairs.{pair, broken-no, broken-over, unbroken-holds, scan_from, verdict_over-overload, verdict_over-scan}, Range.{overload-at-period, range-suffices}, PairList.{Within, Before, all-pairs, each-of-pairs, pairs-rising, compared-all}, Unbroken.passes-of-none}
use Rattle.demand.specs.FirstBreak.{FirstBreak}

-- ---- Verdicts

overload-no-pass : is_pass Overload ≡ true → ⊥
unfolding is_pass
overload-no-pass h = true-not-false (sym h)

judged-pass : (p : Plan) (first : Option Pair) (k : ℕ) → is_pass (judged p first k) ≡ true → first ≡ none
unfolding judged is_pass
judged-pass p none k h = refl
judged-pass p (some q) k h = absurd (true-not-false (sym h))

pub judged-fail :
    (p : Plan) (first : Option Pair) (pairs : ℕ) (l b d : Length) (k : ℕ) → judged p first pairs ≡ Fail l b d k
    → (first ≡ some (pair l.0 b.0)) × (d ≡ days (demand p l.0 b.0)) × (pairs ≡ k)
unfolding judged
judged-fail p none pairs l b d k h =
    let z : ◌≡◌ {A = ℕ} 0 1 = cc in
    absurd (omega arith)
judged-fail p (some q) pairs l b d k h =
    let interval : days q.l ≡ l = cc in
    let blocking : days q.b ≡ b = cc in
    let asked : days (demand p q.l q.b) ≡ d = cc in
    let count : pairs ≡ k = cc in
    let interval-days : q.l ≡ l.0 = ap (λ n. n.0) interval in
    let blocking-days : q.b ≡ b.0 = ap (λ n. n.0) blocking in (
      rw (← interval-days, ← blocking-days),
      rw (← interval-days, ← blocking-days) (sym asked),
      count,
    )

-- ---- Pass

module _ (p : Plan) where
  pass-not-overloaded : is_pass (verdict_of p) ≡ true → overloaded p ≡ false
  pass-not-overloaded h =
      by_bool (overloaded p) (λ t. absurd (overload-no-pass (sym (ap is_pass (verdict_over-overload p (all_pairs p) t)) ∙ h))) (λ e. e)

  pass-none-broken : is_pass (verdict_of p) ≡ true → first_broken p (all_pairs p) ≡ none
  unfolding verdict_over
  pass-none-broken h =
      let light = pass-not-overloaded h in
      judged-pass p (first_broken p (all_pairs p)) (length (compared p (all_pairs p))) (rw light at h)

  -- a pass counts all pairs
  pub pass-count : is_pass (verdict_of p) ≡ true → verdict_of p ≡ Pass (length (all_pairs p))
  unfolding verdict_over judged
  pass-count h =
      let light = pass-not-overloaded h in
      let none_is = pass-none-broken h in
      let whole = compared-all p (all_pairs p) ((first_of-none (broken p) (all_pairs p)).0 none_is) in
      rw (light, none_is, whole)

module _ (p : Plan) (ok : LawfulPlan p) where
  pub passes-of-pass : is_pass (verdict_of p) ≡ true → Passes p
  passes-of-pass h =
      range-suffices p ok (pass-not-overloaded p h) (λ l b low high limit.
      unbroken-holds p (pair l b) (whole l b low high limit))
    where
      whole : (l b : ℕ) → 1 ≤ l → l ≤ d_max p + multiple_of p - 1 → b ≤ block_limit p l → broken p (pair l b) ≡ false
      whole = each-of-pairs p (λ q. broken p q ≡ false) ((first_of-none (broken p) (all_pairs p)).0 (pass-none-broken p h))

  pub pass-of-passes : Passes p → is_pass (verdict_of p) ≡ true
  unfolding verdict_over judged is_pass
  pass-of-passes rule =
      let light : overloaded p ≡ false =
      by_bool (overloaded p)
      (λ t. absurd (omega (arith, overload-at-period p ok t, rule (multiple_of p) 0 ok.h_pos zero-le)))
      (λ e. e) in
      let none_is = (first_of-none (broken p) (all_pairs p)).1 (all-pairs p (λ q. broken p q ≡ false) (λ l b low high limit.
      broken-no p (pair l b) (rule l b low limit))) in
      rw (light, none_is)

  -- the verdict is Pass exactly where the plan passes
  pub pass-exactly : (is_pass (verdict_of p) ≡ true) ↔ Passes p
  pass-exactly = (passes-of-pass, pass-of-passes)

-- ---- Fail

module _ (p : Plan) where
  -- the first of all pairs that is broken is the first break
  pub first_broken-names : (l b : ℕ) → first_broken p (all_pairs p) ≡ some (pair l b) → FirstBreak p l b
  first_broken-names l b h =
      record {
        pos = within.0;
        allowed = within.2;
        breaks = broken-over p (pair l b) (first_of-passes (broken p) (all_pairs p) (pair l b) h);
        shorter = λ m c low under limit. holds m c low (le_trans (omega arith) within.1) limit (inl under);
        less = λ c under. holds l c within.0 within.1 (omega (arith, within.2)) (inr (refl, under));
      }
    where
      within : Within p (pair l b)
      within =
          first_of-in (broken p) (Within p) (all_pairs p) (pair l b) (all-pairs p (Within p) (λ i c low high limit. (low, high, limit))) h

      least :
          (m c : ℕ) → 1 ≤ m → m ≤ d_max p + multiple_of p - 1 → c ≤ block_limit p m
          → broken p (pair m c) ≡ true → (pair l b ≡ pair m c) ⊎ Before (pair l b) (pair m c)
      least =
          each-of-pairs p (λ r. broken p r ≡ true → (pair l b ≡ r) ⊎ Before (pair l b) r)
          (first_of-least (broken p) Before (all_pairs p) (pair l b) (pairs-rising p) h)

      not_after : (m c : ℕ) → Before (pair m c) (pair l b) → (pair l b ≡ pair m c) ⊎ Before (pair l b) (pair m c) → ⊥
      not_after m c (inl under) (inl e) = omega (arith, ap (λ q. q.l) e)
      not_after m c (inr under) (inl e) = omega (arith, ap (λ q. q.b) e)
      not_after m c (inl under) (inr (inl over)) = omega arith
      not_after m c (inl under) (inr (inr over)) = omega arith
      not_after m c (inr under) (inr (inl over)) = omega arith
      not_after m c (inr under) (inr (inr over)) = omega arith

      holds : (m c : ℕ) → 1 ≤ m → m ≤ d_max p + multiple_of p - 1 → c ≤ block_limit p m → Before (pair m c) (pair l b) → demand p m c ≤ m
      holds m c low high limit earlier =
          by_bool (broken p (pair m c))
          (λ t. absurd (not_after m c earlier (least m c low high limit t)))
          (λ e. unbroken-holds p (pair m c) e)

  -- it lies within the range
  pub first_broken-in-range : (l b : ℕ) → first_broken p (all_pairs p) ≡ some (pair l b) → l ≤ d_max p + multiple_of p - 1
  first_broken-in-range l b h =
      (first_of-in (broken p) (Within p) (all_pairs p) (pair l b) (all-pairs p (Within p) (λ i c low high limit. (low, high, limit))) h).1

  pub fail-not-overloaded : (l b d : Length) (k : ℕ) → verdict_of p ≡ Fail l b d k → overloaded p ≡ false
  fail-not-overloaded l b d k h = by_bool (overloaded p) (λ t. absurd (no-fail (sym (verdict_over-overload p (all_pairs p) t) ∙ h)))
      (λ e. e)
    where
      no-fail : Overload ≡ Fail l b d k → ⊥
      no-fail e =
          let z : ◌≡◌ {A = ℕ} 0 1 = cc in
          omega arith

  -- a fail names the first break and the demand there, and counts the pairs up to and including it
  pub fail-names :
      (l b d : Length) (k : ℕ) → verdict_of p ≡ Fail l b d k
      → FirstBreak p l.0 b.0 × (d ≡ days (demand p l.0 b.0)) × (k ≡ length (compared p (all_pairs p)))
  unfolding verdict_over
  fail-names l b d k h =
      let light = fail-not-overloaded l b d k h in
      let parts = judged-fail p (first_broken p (all_pairs p)) (length (compared p (all_pairs p))) l b d k (rw light at h) in
      (first_broken-names l.0 b.0 parts.0, parts.1, sym parts.2)

-- ---- Exactly

-- a plan has one first break at most
first_break-unique : (p : Plan) (l b m c : ℕ) → FirstBreak p l b → FirstBreak p m c → (l ≡ m) × (b ≡ c)
first_break-unique p l b m c one two =
    let interval : l ≡ m = le_antisymm (not-later l b m c one two) (not-later m c l b two one) in
    let here : FirstBreak p m b = rw interval at one in
    (interval, le_antisymm (not_more m b c here two) (not_more m c b two here))
  where
    not-later : (l b m c : ℕ) → FirstBreak p l b → FirstBreak p m c → l ≤ m
    not-later l b m c one two =
        elim (dec_le l m) [
          | yes h ↦ h
          | no h ↦ absurd (omega (arith, two.breaks, one.shorter m c two.pos (omega arith) two.allowed))
        ]

    not_more : (l b c : ℕ) → FirstBreak p l b → FirstBreak p l c → b ≤ c
    not_more l b c one two =
        elim (dec_le b c) [ yes h ↦ h | no h ↦ absurd (omega (arith, two.breaks, one.less c (omega arith))) ]

module _ (p : Plan) where
  -- a plan that is not overloaded and has a first break fails there: were no pair of the range broken, the rule would hold
  pub break-fails :
      LawfulPlan p → (l b : ℕ) → overloaded p ≡ false → FirstBreak p l b
      → verdict_of p ≡ Fail (days l) (days b) (days (demand p l b)) (length (compared p (all_pairs p)))
  unfolding verdict_over judged
  break-fails ok l b light first =
      let at = found (first_broken p (all_pairs p)) refl in
      rw (light, at)
    where
      found : (o : Option Pair) → first_broken p (all_pairs p) ≡ o → first_broken p (all_pairs p) ≡ some (pair l b)
      found none e =
          absurd (omega (arith, first.breaks, passes-of-none p ok e l b first.pos first.allowed))
      found (some q) e =
          let same = first_break-unique p q.l q.b l b (first_broken-names p q.l q.b e) first in
          let interval : q.l ≡ l = same.0 in
          let blocking : q.b ≡ b = same.1 in
          let pair_is : q ≡ pair l b = ap (λ i. pair i q.b) interval ∙ ap (pair l) blocking in
          e ∙ ap (λ r. some r) pair_is

  -- the verdict is Overload exactly where the plan is overloaded
  pub overload-exactly : (verdict_of p ≡ Overload) ↔ (overloaded p ≡ true)
  unfolding judged
  overload-exactly = (overload-only, verdict_over-overload p (all_pairs p))
    where
      not-judged : (first : Option Pair) (k : ℕ) → judged p first k ≡ Overload → ⊥
      not-judged none k h =
          let z : ◌≡◌ {A = ℕ} 0 1 = cc in
          omega arith
      not-judged (some q) k h =
          let z : ◌≡◌ {A = ℕ} 0 1 = cc in
          omega arith

      overload-only : verdict_of p ≡ Overload → overloaded p ≡ true
      overload-only h =
          by_bool (overloaded p) (λ t. t) (λ e.
          absurd
          (not-judged (first_broken p (all_pairs p)) (0 + length (compared p (all_pairs p)))
          (unfold scan_from in (sym (verdict_over-scan p (all_pairs p) e) ∙ h))))
