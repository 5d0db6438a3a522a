-- The walk over all pairs that keeps the first with the least to spare ends with the tightest pair.
use Rattle.base.proofs.Prelude.{ℕ, suc, ◌+◌, ◌-◌, ◌≤◌, ◌<◌, min, zero-le, ◌≡◌, refl, sym, ap, ◌∙◌, Bool, true, false, cond, List, [], ◌∷◌, ◌++◌, some, arith, add-one, dec_le, ℕ_discrete, ltb, eqb, lt-ltb, le-ltb, eq-eqb, ne_eqb}
use Rattle.base.specs.Count.{smallest, smallest_with, first_of}
use Rattle.base.proofs.{Lists.{by_bool, smallest_with-le}, FirstOf.{first_of-here, first_of-later}}
use Rattle.rules.specs.{declared.Plan.Plan, Plan.{multiple_of, d_max}, Demand.block_limit, Verdict.{Pair, all_pairs}}
use Rattle.demand.proofs.Pairs.{pair, row_from, rows, all_pairs-rows, rows_end, rows_step, row_from-all, row_from-step, row_from-end}
use Rattle.verdict.specs.inner.Asked.{Ready}
use Rattle.verdict.proofs.Onward.{d_max-pos}
use Rattle.why.specs.{declared.rows.Spot.Spot, Named.{spare, tightest}, Stairs.last_interval, inner.Best.best_from}

module _ (p : Plan) where
  smallest_with-min : (a b : ℕ) (qs : List Pair) → smallest_with (spare p) (min a b) qs ≡ min a (smallest_with (spare p) b qs)
  unfolding smallest_with
  smallest_with-min a b [] = refl
  smallest_with-min a b (q ∷ qs) = omega (arith, smallest_with-min a b qs)

  -- the first that leaves so many days
  abbrev leaves : ℕ → Pair → Bool
  leaves k q = eqb (spare p q) k

  best-first : (q : Pair) (qs : List Pair)
      → first_of (leaves (smallest_with (spare p) (spare p q) qs)) (q ∷ qs) ≡ some (best_from p q qs)
  unfolding best_from smallest_with
  best-first q [] = first_of-here (leaves (spare p q)) q [] (eq-eqb (spare p q) (spare p q) refl)
  best-first q (r ∷ qs) =
      elim (dec_le (spare p q) (spare p r)) [
        | yes stays ↦
            let rest = smallest_with (spare p) (spare p q) qs in
            let below = smallest_with-le (spare p) (spare p q) qs in
            let least : min (spare p r) rest ≡ rest = omega arith in
            let kept = best-first q qs in
            rw (least, le-ltb (spare p r) (spare p q) stays)
            (elim (ℕ_discrete (spare p q) rest) [
              | yes same ↦
                  let here = eq-eqb (spare p q) rest same in
                  first_of-here (leaves rest) q (r ∷ qs) here ∙ sym (first_of-here (leaves rest) q qs here) ∙ kept
              | no more ↦
                  let past = ne_eqb (spare p q) rest more in
                  let next = ne_eqb (spare p r) rest (λ e. more (omega arith)) in
                  first_of-later (leaves rest) q (r ∷ qs) past ∙ first_of-later (leaves rest) r qs next
                  ∙ sym (first_of-later (leaves rest) q qs past) ∙ kept
            ])
        | no goes ↦
            let rest = smallest_with (spare p) (spare p r) qs in
            let below = smallest_with-le (spare p) (spare p r) qs in
            let two : min (spare p r) (spare p q) ≡ spare p r = omega arith in
            let least : min (spare p r) (smallest_with (spare p) (spare p q) qs) ≡ rest =
            sym (smallest_with-min (spare p r) (spare p q) qs) ∙ ap (λ m. smallest_with (spare p) m qs) two in
            let past = ne_eqb (spare p q) rest (λ e. goes (omega arith)) in
            rw (least, lt-ltb (spare p r) (spare p q) (omega arith)) (first_of-later (leaves rest) q (r ∷ qs) past ∙ best-first r qs)
      ]

  -- once more, from the first pair on
  again : (q : Pair) (qs : List Pair) → best_from p q (q ∷ qs) ≡ best_from p q qs
  unfolding best_from
  again q qs = rw (le-ltb (spare p q) (spare p q) (omega arith))

  pub tightest-best : Ready p → tightest p ≡ some (best_from p (pair 1 0) (all_pairs p))
  unfolding tightest smallest
  tightest-best ok =
      let range = d_max p + multiple_of p - 1 in
      let some-range : range ≡ suc (range - 1) = omega (arith, ok.lawful.h_pos, d_max-pos p ok) in
      let first : all_pairs p ≡ pair 1 0 ∷ (row_from p 1 1 ++ rows p 2 (range - 1)) =
      all_pairs-rows p ∙ ap (rows p 1) some-range ∙ rows_step p 1 (range - 1)
      ∙ ap (λ row. row ++ rows p 2 (range - 1)) (sym (row_from-all p 1) ∙ row_from-step p 1 0 zero-le) in
      rw first (best-first (pair 1 0) (row_from p 1 1 ++ rows p 2 (range - 1)) ∙ ap some (sym (again (pair 1 0) _)))

  -- ---- The walk: intervals from l to the last, in the row of l from blocking b on

  best-next : (q : Pair) (l b : ℕ) (qs : List Pair) → b ≤ block_limit p l
      → best_from p q (row_from p l b ++ qs)
      ≡ best_from p (cond (ltb (spare p (pair l b)) (spare p q)) (pair l b) q) (row_from p l (b + 1) ++ qs)
  unfolding best_from
  best-next q l b qs h = ap (λ row. best_from p q (row ++ qs)) (row_from-step p l b h)

  -- the pairs that are left lead from the one in hand to where all lead
  pub record WhyBest (best : Spot) (left : List Pair) : Type 0 where
    pub known : best.left ≡ spare p (pair best.l best.b)
    pub leads : best_from p (pair best.l best.b) left ≡ best_from p (pair 1 0) (all_pairs p)

  -- the intervals that are left from l on, and the rest of the row of l with those after it
  abbrev pub rows_left : ℕ → List Pair
  rows_left l = rows p l (last_interval p + 1 - l)

  abbrev pub pairs_left : ℕ → ℕ → List Pair
  pairs_left l b = row_from p l b ++ rows p (l + 1) (last_interval p + 1 - (l + 1))

  pub best-start : (s : Spot) → s ≡ record { l = 1; b = 0; left = spare p (pair 1 0) } → WhyBest s (rows_left 1)
  unfolding last_interval
  best-start s is =
      let range : d_max p + multiple_of p - 1 + 1 - 1 ≡ d_max p + multiple_of p - 1 = omega arith in
      record {
        known = ap (λ (s : Spot). s.left) is ∙ sym (ap (λ (s : Spot). spare p (pair s.l s.b)) is);
        leads = ap (λ (s : Spot). best_from p (pair s.l s.b) (rows_left 1)) is
            ∙ ap (λ m. best_from p (pair 1 0) (rows p 1 m)) range
            ∙ ap (best_from p (pair 1 0)) (sym (all_pairs-rows p));
      }

  module _ {best : Spot} (l : ℕ) where
    pub best-row : WhyBest best (rows_left l) → l ≤ last_interval p → WhyBest best (pairs_left l 0)
    best-row w h =
        let left : last_interval p + 1 - l ≡ suc (last_interval p + 1 - suc l) = omega arith in
        let row : rows_left l ≡ pairs_left l 0 = rw (add-one l, left, rows_step p l (last_interval p + 1 - suc l), row_from-all p l) refl in
        record { known = w.known; leads = ap (best_from p (pair best.l best.b)) (sym row) ∙ w.leads }

    pub best-row-end : (b : ℕ) → WhyBest best (pairs_left l b) → block_limit p l < b → WhyBest best (rows_left (l + 1))
    best-row-end b w h =
        let qs = rows p (l + 1) (last_interval p + 1 - (l + 1)) in
        record {
          known = w.known;
          leads = ap (λ row. best_from p (pair best.l best.b) (row ++ qs)) (sym (row_from-end p l b h)) ∙ w.leads;
        }

    pub best-end : WhyBest best (rows_left l) → last_interval p < l → pair best.l best.b ≡ best_from p (pair 1 0) (all_pairs p)
    unfolding best_from
    best-end w h =
        let left : last_interval p + 1 - l ≡ 0 = omega arith in
        sym (ap (λ m. best_from p (pair best.l best.b) (rows p l m)) left ∙ ap (best_from p (pair best.l best.b)) (rows_end p l)) ∙ w.leads

    -- the pair in hand, or the next
    module _ (b : ℕ) {next : Spot} (w : WhyBest best (pairs_left l b)) (is : next ≡ record { l = l; b = b; left = spare p (pair l b) })
        (held : b ≤ block_limit p l) where
      test : ltb (spare p (pair l b)) (spare p (pair best.l best.b)) ≡ ltb next.left best.left
      test = sym (ap (λ (s : Spot). ltb s.left best.left) is ∙ ap (ltb (spare p (pair l b))) w.known)

      chosen : (t : Bool) → ltb next.left best.left ≡ t
          → best_from p (cond t (pair l b) (pair best.l best.b)) (pairs_left l (b + 1)) ≡ best_from p (pair 1 0) (all_pairs p)
      chosen t e =
          ap (λ t. best_from p (cond t (pair l b) (pair best.l best.b)) (pairs_left l (b + 1))) (sym (test ∙ e))
          ∙ sym (best-next (pair best.l best.b) l b (rows p (l + 1) (last_interval p + 1 - (l + 1))) held) ∙ w.leads

      pub best-taken : next.left < best.left → WhyBest next (pairs_left l (b + 1))
      best-taken h = record {
        known = ap (λ (s : Spot). s.left) is ∙ sym (ap (λ (s : Spot). spare p (pair s.l s.b)) is);
        leads = ap (λ (s : Spot). best_from p (pair s.l s.b) (pairs_left l (b + 1))) is ∙ chosen true (lt-ltb next.left best.left h);
      }

      pub best-kept : best.left ≤ next.left → WhyBest best (pairs_left l (b + 1))
      best-kept h = record { known = w.known; leads = chosen false (le-ltb next.left best.left h) }
