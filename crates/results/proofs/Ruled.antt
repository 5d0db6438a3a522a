-- What a rule says of a lawful plan that is not overloaded: it is looked at up to Dmax + H − 1, and that decides every interval, since from
-- the largest D on nothing blocks, whatever the blocker.
use Rattle.base.proofs.Prelude.{ℕ, suc, ◌+◌, ◌-◌, ◌≤◌, ◌≡◌, sym, ◌∙◌, Bool, true, false, cond, arith, le-ltb, le-leb, leb-true, leb}
use Rattle.rules.specs.{declared.Plan.Plan, Plan.{multiple_of, leeway_min, d_max}, Demand.{demand, overloaded}}
use Rattle.base.specs.Count.{every, up_from}
use Rattle.base.proofs.{Lists.{by_bool, true-not-false, all-of-every, every-of-all}, Order.{all-up_from, each-of-up_from}}
use Rattle.laws.proofs.Lawful.{LawfulPlan}
use Rattle.demand.proofs.Range.{range-suffices-for}
use Rattle.results.specs.{Blockers.{Blocker, limit_by, PassesBy}, Rows.{Ruling, passes, fails, Truly}}

-- every pair of the interval l holds
unfoldable pub keeps_at : Blocker → Plan → ℕ → Bool
keeps_at h p l = every (λ b. leb (demand p l b) l) (up_from 0 (suc (limit_by h p l)))

-- and every pair of the range
unfoldable pub keeps : Blocker → Plan → Bool
keeps h p = every (keeps_at h p) (up_from 1 (d_max p + multiple_of p - 1))

unfoldable pub ruling : Blocker → Plan → Ruling
ruling h p = cond (keeps h p) passes fails

module _ (h : Blocker) (p : Plan) where
  limit-late : (l : ℕ) → d_max p ≤ l → limit_by h p l ≡ 0
  unfolding limit_by
  limit-late l after =
      let late = le-ltb l (d_max p) after in
      by_bool (leb (leeway_min p) l) (λ t. rw (t, late)) (λ e. rw e)

  -- a rule that passes is kept on the range
  keeps-of-passes_by : PassesBy h p → keeps h p ≡ true
  unfolding keeps keeps_at
  keeps-of-passes_by rule =
      every-of-all (keeps_at h p) (up_from 1 (d_max p + multiple_of p - 1))
      (all-up_from (λ l. keeps_at h p l ≡ true) 1 (d_max p + multiple_of p - 1) (λ l low high.
      every-of-all (λ b. leb (demand p l b) l) (up_from 0 (suc (limit_by h p l)))
      (all-up_from (λ b. leb (demand p l b) l ≡ true) 0 (suc (limit_by h p l)) (λ b from under.
      le-leb (demand p l b) l (rule l b low (omega arith))))))

  module _ (ok : LawfulPlan p) (light : overloaded p ≡ false) where
    -- and one that is kept on the range passes
    passes_by-of-keeps : keeps h p ≡ true → PassesBy h p
    unfolding keeps keeps_at
    passes_by-of-keeps kept = range-suffices-for p ok (limit_by h p) limit-late light near
      where
        near : (l b : ℕ) → 1 ≤ l → l ≤ d_max p + multiple_of p - 1 → b ≤ limit_by h p l → demand p l b ≤ l
        near l b low high under =
            let rows = all-of-every (keeps_at h p) (up_from 1 (d_max p + multiple_of p - 1)) kept in
            let row : keeps_at h p l ≡ true =
            each-of-up_from (λ k. keeps_at h p k ≡ true) 1 (d_max p + multiple_of p - 1) rows l low (omega arith) in
            let holds : ℕ → Bool = λ k. leb (demand p l k) l in
            let pairs = all-of-every holds (up_from 0 (suc (limit_by h p l))) row in
            leb-true (demand p l b) l
            (each-of-up_from (λ k. holds k ≡ true) 0 (suc (limit_by h p l)) pairs b (omega arith) (omega arith))

    -- so a ruling is true at every interval
    pub ruling-true : Truly (ruling h p) h p
    unfolding ruling
    ruling-true =
        by_bool (keeps h p) (λ t. rw t (passes_by-of-keeps t)) (λ e. rw e (λ rule. true-not-false (sym (keeps-of-passes_by rule) ∙ e)))
