-- Which pairs the quick verdict looks at, as the code finds them: where the keepers ask for more than a day before, or the takers in the
-- days that a blocking leaves them; and what a look at a pair does to the walk.
--     Next p l left b       of the blockings that leave the takers less than `left` of l days, b is the first at which a count grows
use Rattle.base.proofs.Prelude.{ℕ, ◌+◌, ◌-◌, ◌≤◌, ◌<◌, ◌≡◌, sym, ap, ◌∙◌, true, false, cond, List, ◌++◌, arith, dec_le, ℕ_discrete, lt-ltb, le-ltb, ltb, length, set}
use Rattle.days.specs.Days.{days}
use Rattle.rules.specs.{declared.Plan.Plan, declared.Verdict.TheVariants.Fail, Plan.leeway_min, Demand.{block_limit, demand}, Verdict.Pair}
use Rattle.base.specs.Count.{keep}
use Rattle.base.proofs.Filling.{below_set}
use Rattle.laws.proofs.Lawful.{LawfulPlan}
use Rattle.demand.proofs.Pairs.{pair, row_from, scan_from, scan_from-good, scan_from-bad, broken-yes, broken-no}
use Rattle.demand.specs.Quick.{grows}
use Rattle.demand.proofs.Rising.{grows-yes, grows-no}
use Rattle.verdict.specs.{inner.Asked.asked_by, inner.Steps.{Mark, Looked}}
use Rattle.verdict.proofs.{Asked.{demand-parts, asked_by-mono}, Stepping.asked-early, KeptRows.{kept_here, kept-past}}

-- ---- Which pairs

module _ (p : Plan) (ok : LawfulPlan p) (l b : ℕ) (pos : 1 ≤ l) where
  before : demand p (l - 1) b ≡ b + asked_by p 0 (l - 1) + asked_by p 1 (l - b - 1)
  before =
      let days-left : l - 1 - b ≡ l - b - 1 = omega arith in
      demand-parts p (l - 1) b ok ∙ ap (λ w. b + asked_by p 0 (l - 1) + asked_by p 1 w) days-left

  keepers-rise : asked_by p 0 (l - 1) < asked_by p 0 l → grows p (pair l b) ≡ true
  keepers-rise more =
      let takers = asked_by-mono p 1 (l - b - 1) (l - b) ok (omega arith) in
      grows-yes p ok.each l b pos (omega (arith, before, demand-parts p l b ok))

  takers-rise : asked_by p 1 (l - b - 1) < asked_by p 1 (l - b) → grows p (pair l b) ≡ true
  takers-rise more =
      let keepers = asked_by-mono p 0 (l - 1) l ok (omega arith) in
      grows-yes p ok.each l b pos (omega (arith, before, demand-parts p l b ok))

  pub none-rises : asked_by p 0 l ≡ asked_by p 0 (l - 1) → asked_by p 1 (l - b) ≡ asked_by p 1 (l - b - 1) → grows p (pair l b) ≡ false
  none-rises keepers takers = grows-no p ok.each l b pos (omega (arith, before, demand-parts p l b ok))

-- before the smallest D − J none grows
pub early-still : (p : Plan) (ok : LawfulPlan p) (l b : ℕ) → 1 ≤ l → l < leeway_min p → grows p (pair l b) ≡ false
early-still p ok l b pos h =
    none-rises p ok l b pos (asked-early p 0 l h ∙ sym (asked-early p 0 (l - 1) (omega arith)))
    (asked-early p 1 (l - b) (omega arith) ∙ sym (asked-early p 1 (l - b - 1) (omega arith)))

pub record Next (p : Plan) (l left b : ℕ) : Type 0 where
  pub low : l + 1 ≤ left + b
  pub high : b ≤ l + 1
  pub passed : (e : ℕ) → l + 1 ≤ left + e → e < b → grows p (pair l e) ≡ false
  pub looked : b ≤ l → grows p (pair l b) ≡ true

-- the code's next blocking is the next to look at
pub next-looked :
    (p : Plan) (ok : LawfulPlan p) (l more left m b : ℕ) → 1 ≤ l → more + asked_by p 0 (l - 1) ≡ asked_by p 0 l → left ≤ l + 1
    → Mark p left m
    → b ≡ l + 1 - cond (ltb 0 more) left m → Next p l left b
next-looked p ok l more left m b pos kept within mark e =
    elim (dec_le 1 more) [
      | yes some ↦
          let same : b ≡ l + 1 - left = e ∙ ap (λ t. l + 1 - cond t left m) (lt-ltb 0 more some) in
          record {
            low = omega arith;
            high = omega arith;
            passed = λ d h k. absurd (omega arith);
            looked = λ h. keepers-rise p ok l b pos (omega arith);
          }
      | no none ↦
          let same : b ≡ l + 1 - m = e ∙ ap (λ t. l + 1 - cond t left m) (le-ltb 0 more (omega arith)) in
          let inside = mark.within in
          record {
            low = omega arith;
            high = omega arith;
            passed = λ d h k. none-rises p ok l d pos (omega arith) (mark.still (l - d) (omega arith) (omega arith));
            looked = λ h. takers-rise p ok l b pos (mark.rises (l - b) (omega arith));
          }
    ]

-- ---- Marks

-- before the smallest D − J there is none
pub mark-early : (p : Plan) (j : ℕ) → j ≤ leeway_min p → Mark p j 0
mark-early p j h = record {
  within = omega arith;
  still = λ w low high. asked-early p 1 w (omega arith) ∙ sym (asked-early p 1 (w - 1) (omega arith));
  rises = λ w e. absurd (omega arith);
}

pub mark-next :
    (p : Plan) (l more m : ℕ) → more + asked_by p 1 (l - 1) ≡ asked_by p 1 l → Mark p l m → Mark p (l + 1) (cond (ltb 0 more) (l + 1) m)
mark-next p l more m asked mark =
    elim (dec_le 1 more) [
      | yes some ↦
          rw (lt-ltb 0 more some) (record {
            within = omega arith;
            still = λ w low high. absurd (omega arith);
            rises = λ w e. risen w (omega arith) some;
          })
      | no none ↦
          let no_more : more ≤ 0 = omega arith in
          rw (le-ltb 0 more no_more) (record {
            within = omega (arith, mark.within);
            still = λ w low high. stays w low high no_more;
            rises = mark.rises;
          })
    ]
  where
    risen : (w : ℕ) → w ≡ l → 1 ≤ more → asked_by p 1 (w - 1) < asked_by p 1 w
    risen w e some = rw e (omega arith)

    stays : (w : ℕ) → m ≤ w → w < l + 1 → more ≤ 0 → asked_by p 1 w ≡ asked_by p 1 (w - 1)
    stays w low high none =
        elim (ℕ_discrete w l) [ yes same ↦ rw same (omega arith) | no other ↦ mark.still w low (omega arith) ]

-- one more day is known
pub looked-next :
    (p : Plan) (l v m : ℕ) (takers marks : List ℕ) → length takers ≡ 1024 → length marks ≡ 1024 → l ≤ 1000
    → v ≡ asked_by p 1 l → Mark p (l + 1) m → Looked p l takers marks
    → Looked p (l + 1) (set takers l v) (set marks (l + 1) m)
looked-next p l v m takers marks size count short e mark looked = record {
  known = below_set (λ w a. a ≡ asked_by p 1 w) takers l v 0 (omega arith) looked.known e;
  marked = below_set (λ j a. Mark p j a) marks (l + 1) m 0 (omega arith) looked.marked mark;
}

-- ---- A look

module _ (p : Plan) (k l b : ℕ) (qs : List Pair) (held : b ≤ block_limit p l) (looked : grows p (pair l b) ≡ true) where
  pub look-good :
      demand p l b ≤ l
      → scan_from p k (keep (grows p) (row_from p l b) ++ qs) ≡ scan_from p (k + 1) (keep (grows p) (row_from p l (b + 1)) ++ qs)
  look-good good =
      ap (λ row. scan_from p k (row ++ qs)) (kept_here p (grows p) l b held looked)
      ∙ scan_from-good p k (pair l b) (keep (grows p) (row_from p l (b + 1)) ++ qs) (broken-no p (pair l b) good)

  pub look-bad :
      l < demand p l b → scan_from p k (keep (grows p) (row_from p l b) ++ qs) ≡ Fail (days l) (days b) (days (demand p l b)) (k + 1)
  look-bad bad =
      ap (λ row. scan_from p k (row ++ qs)) (kept_here p (grows p) l b held looked)
      ∙ scan_from-bad p k (pair l b) (keep (grows p) (row_from p l (b + 1)) ++ qs) (broken-yes p (pair l b) bad)

pub look-end :
    (p : Plan) (k l b : ℕ) (qs : List Pair) → block_limit p l < b → scan_from p k (keep (grows p) (row_from p l b) ++ qs) ≡ scan_from p k qs
look-end p k l b qs past = ap (λ row. scan_from p k (row ++ qs)) (kept-past p (grows p) l b past)
