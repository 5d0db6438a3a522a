-- Where the quick verdict on the plan with nobody permitted names a pair with no blocking, no set passes: with any set the work is there.
use Rattle.base.proofs.Prelude.{ℕ, ◌<◌, ◌≡◌, sym, ◌∙◌, subst, true, false, Option, none, some, arith, length, eqb-true}
use Rattle.days.specs.declared.Length.{Length}
use Rattle.rules.specs.{declared.Plan.Plan, declared.Verdict.Verdict, declared.Verdict.TheVariants.{Overload, Fail, Pass}, Demand.{demand, overloaded}, Verdict.{Pair, all_pairs, first_broken, compared, judged, verdict_over}, Search.{with_set, set_passes}}
use Rattle.base.proofs.Lists.{by_bool, true-not-false}
use Rattle.laws.proofs.Lawful.{LawfulPlan}
use Rattle.demand.proofs.{Verdict.{judged-fail, first_broken-names}, Pairs.verdict_over-overload, Agreeing.same-break, Sets.with_set-lawful, Alone.{work-alone-breaks, overload-alone-breaks}}
use Rattle.demand.specs.Quick.{quick_pairs, quick_of}
use Rattle.verdict.specs.inner.Unblocked.{names_unblocked}

-- what is judged by pairs is no overload
judged-no-overload : (p : Plan) (first : Option Pair) (k : ℕ) → judged p first k ≡ Overload → ⊥
unfolding judged
judged-no-overload p none k e =
    let z : ◌≡◌ {A = ℕ} 0 1 = cc in
    omega arith
judged-no-overload p (some q) k e =
    let z : ◌≡◌ {A = ℕ} 0 1 = cc in
    omega arith

overload-said : (p : Plan) → quick_of p ≡ Overload → overloaded p ≡ true
unfolding verdict_over
overload-said p e =
    by_bool (overloaded p)
    (λ t. t)
    (λ f. absurd (judged-no-overload p (first_broken p (quick_pairs p)) (length (compared p (quick_pairs p))) (rw f at e)))

fail-not-over : (p : Plan) (l b d : Length) (k : ℕ) → quick_of p ≡ Fail l b d k → overloaded p ≡ false
fail-not-over p l b d k h =
    by_bool (overloaded p) (λ t. absurd (no-fail (sym (verdict_over-overload p (quick_pairs p) t) ∙ h))) (λ e. e)
  where
    no-fail : Overload ≡ Fail l b d k → ⊥
    no-fail e =
        let z : ◌≡◌ {A = ℕ} 0 1 = cc in
        omega arith

-- the pair of a fail is the first of all pairs that is broken
fail-first : (p : Plan) → LawfulPlan p → (l b d : Length) (k : ℕ) → quick_of p ≡ Fail l b d k
    → first_broken p (all_pairs p) ≡ some (record { l = l.0; b = b.0 })
unfolding verdict_over
fail-first p ok l b d k h =
    let light = fail-not-over p l b d k h in
    sym (same-break p ok.each)
    ∙ (judged-fail p (first_broken p (quick_pairs p)) (length (compared p (quick_pairs p))) l b d k (rw light at h)).0

module _ (p : Plan) (ok : LawfulPlan p) where
  pub unblocked-none : (v : Verdict) → v ≡ quick_of (with_set p 0) → names_unblocked v ≡ true → (m : ℕ) → set_passes p m ≡ false
  unblocked-none Overload e t = overload-alone-breaks p ok (overload-said (with_set p 0) (sym e))
  unblocked-none (Fail l b d k) e t =
      let lawful = with_set-lawful p 0 ok in
      let break = first_broken-names (with_set p 0) l.0 b.0 (fail-first (with_set p 0) lawful l b d k (sym e)) in
      let none-blocks = eqb-true b.0 0 t in
      work-alone-breaks p ok l.0 break.pos (subst (λ c. l.0 < demand (with_set p 0) l.0 c) none-blocks break.breaks)
  unblocked-none (Pass k) e t = absurd (true-not-false (sym t))
