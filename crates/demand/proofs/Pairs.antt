-- Laws of the verdict's list of pairs, as a walk over it meets them: row by row, blocking by blocking, with a count of pairs.
--     pair l b              the pair (l, b)
--     row_from p l b         the pairs of interval l from blocking b on
--     rows p l m            the pairs of the m intervals from l on
--     scan_from p k qs       the verdict where the pairs qs are left and k were compared before them
-- A walk over intervals below an end cites scan-row, scan_good, scan-bad, scan-row-end and scan-end.
use Rattle.base.proofs.Prelude.{ℕ, suc, ◌+◌, ◌-◌, ◌≤◌, ◌<◌, ◌≡◌, refl, ap, ◌∙◌, true, false, List, [], ◌∷◌, ◌++◌, map, arith, add-one, lt-ltb, le-ltb, ltb-true, ltb-false, length}
use mathlib.Core.List.{flat_map}
use native.Mathlib.Nat.{add-zero}
use Rattle.days.specs.Days.{days}
use Rattle.rules.specs.{declared.Plan.Plan, declared.Verdict.Verdict, declared.Verdict.TheVariants.{Overload, Fail, Pass}, Plan.{multiple_of, d_max}, Demand.{block_limit, demand, overloaded}, Verdict.{Pair, pairs_at, all_pairs, broken, first_broken, compared, judged, verdict_over}}
use Rattle.base.specs.Count.{up_from, first_of}

abbrev pub pair : ℕ → ℕ → Pair
pair l b = record { l = l; b = b }

unfoldable pub row_from : Plan → ℕ → ℕ → List Pair
row_from p l b = map (pair l) (up_from b (suc (block_limit p l) - b))

unfoldable pub rows : Plan → ℕ → ℕ → List Pair
rows p l m = flat_map (pairs_at p) (up_from l m)

unfoldable pub scan_from : Plan → ℕ → List Pair → Verdict
scan_from p k qs = judged p (first_broken p qs) (k + length (compared p qs))

-- ---- Broken or not

pub broken-yes : (p : Plan) (q : Pair) → q.l < demand p q.l q.b → broken p q ≡ true
unfolding broken
broken-yes p q h = lt-ltb q.l (demand p q.l q.b) h

pub broken-no : (p : Plan) (q : Pair) → demand p q.l q.b ≤ q.l → broken p q ≡ false
unfolding broken
broken-no p q h = le-ltb q.l (demand p q.l q.b) h

pub broken-over : (p : Plan) (q : Pair) → broken p q ≡ true → q.l < demand p q.l q.b
unfolding broken
broken-over p q t = ltb-true q.l (demand p q.l q.b) t

pub unbroken-holds : (p : Plan) (q : Pair) → broken p q ≡ false → demand p q.l q.b ≤ q.l
unfolding broken
unbroken-holds p q e = ltb-false q.l (demand p q.l q.b) e

-- ---- The scan

module _ (p : Plan) (qs : List Pair) where
  pub verdict_over-overload : overloaded p ≡ true → verdict_over p qs ≡ Overload
  unfolding verdict_over
  verdict_over-overload t = rw t

  pub verdict_over-scan : overloaded p ≡ false → verdict_over p qs ≡ scan_from p 0 qs
  unfolding verdict_over scan_from
  verdict_over-scan e =
      let from-none : 0 + length (compared p qs) ≡ length (compared p qs) = omega arith in
      rw (e, from-none)

pub scan_from-end : (p : Plan) (k : ℕ) → scan_from p k [] ≡ Pass k
unfolding scan_from judged first_of compared
scan_from-end p k = ap Pass (add-zero k)

pub scan_from-good : (p : Plan) (k : ℕ) (q : Pair) (qs : List Pair) → broken p q ≡ false → scan_from p k (q ∷ qs) ≡ scan_from p (k + 1) qs
unfolding scan_from first_of compared
scan_from-good p k q qs e =
    let one_on : k + suc (length (compared p qs)) ≡ k + 1 + length (compared p qs) = omega arith in
    rw (e, one_on)

pub scan_from-bad :
    (p : Plan) (k : ℕ) (q : Pair) (qs : List Pair)
    → broken p q ≡ true
    → scan_from p k (q ∷ qs) ≡ Fail (days q.l) (days q.b) (days (demand p q.l q.b)) (k + 1)
unfolding scan_from first_of compared judged
scan_from-bad p k q qs t = rw t

-- ---- Rows

pub all_pairs-rows : (p : Plan) → all_pairs p ≡ rows p 1 (d_max p + multiple_of p - 1)
unfolding all_pairs rows
all_pairs-rows p = refl

pub rows_end : (p : Plan) (l : ℕ) → rows p l 0 ≡ []
unfolding rows up_from flat_map
rows_end p l = refl

pub rows_step : (p : Plan) (l m : ℕ) → rows p l (suc m) ≡ pairs_at p l ++ rows p (suc l) m
unfolding rows up_from flat_map
rows_step p l m = refl

pub row_from-all : (p : Plan) (l : ℕ) → row_from p l 0 ≡ pairs_at p l
unfolding row_from pairs_at
row_from-all p l =
    let whole : suc (block_limit p l) - 0 ≡ suc (block_limit p l) = omega arith in
    rw whole

pub row_from-step : (p : Plan) (l b : ℕ) → b ≤ block_limit p l → row_from p l b ≡ pair l b ∷ row_from p l (b + 1)
unfolding row_from up_from
row_from-step p l b h =
    let left : suc (block_limit p l) - b ≡ suc (suc (block_limit p l) - suc b) = omega arith in
    rw (add-one, left)

pub row_from-end : (p : Plan) (l b : ℕ) → block_limit p l < b → row_from p l b ≡ []
unfolding row_from up_from
row_from-end p l b h =
    let left : suc (block_limit p l) - b ≡ 0 = omega arith in
    rw left

-- ---- The walk: intervals from l to below an end, in the row of l from blocking b on, k pairs compared so far

module _ (p : Plan) (k l b : ℕ) where
  -- into a row
  pub scan-row :
      (end : ℕ) → l < end → scan_from p k (rows p l (end - l)) ≡ scan_from p k (row_from p l 0 ++ rows p (l + 1) (end - (l + 1)))
  scan-row end h =
      let left : end - l ≡ suc (end - suc l) = omega arith in
      rw (add-one, left, rows_step p l (end - suc l), row_from-all p l)

  pub scan_good :
      (qs : List Pair) → b ≤ block_limit p l → demand p l b ≤ l
      → scan_from p k (row_from p l b ++ qs) ≡ scan_from p (k + 1) (row_from p l (b + 1) ++ qs)
  scan_good qs h good =
      ap (λ row. scan_from p k (row ++ qs)) (row_from-step p l b h)
      ∙ scan_from-good p k (pair l b) (row_from p l (b + 1) ++ qs) (broken-no p (pair l b) good)

  pub scan-bad :
      (qs : List Pair) → b ≤ block_limit p l → l < demand p l b
      → scan_from p k (row_from p l b ++ qs) ≡ Fail (days l) (days b) (days (demand p l b)) (k + 1)
  scan-bad qs h bad =
      ap (λ row. scan_from p k (row ++ qs)) (row_from-step p l b h)
      ∙ scan_from-bad p k (pair l b) (row_from p l (b + 1) ++ qs) (broken-yes p (pair l b) bad)

  pub scan-row-end : (qs : List Pair) → block_limit p l < b → scan_from p k (row_from p l b ++ qs) ≡ scan_from p k qs
  scan-row-end qs h = ap (λ row. scan_from p k (row ++ qs)) (row_from-end p l b h)

  pub scan-end : (end : ℕ) → end ≤ l → scan_from p k (rows p l (end - l)) ≡ Pass k
  scan-end end h =
      let left : end - l ≡ 0 = omega arith in
      ap (λ m. scan_from p k (rows p l m)) left ∙ ap (scan_from p k) (rows_end p l) ∙ scan_from-end p k
