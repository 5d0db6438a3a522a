-- The pairs of a plan: those within the limits, in order of l, then b; where none is broken, all are compared.
--     Within p q            q has an interval from 1 to Dmax + H − 1 and a blocking up to its limit
--     Before q r            the pair q comes before r: a smaller interval, or the same and a smaller blocking
use Rattle.base.proofs.Prelude.{ℕ, suc, ◌+◌, ◌-◌, ◌≤◌, ◌<◌, zero-le, ◌≡◌, refl, ◌⊎◌, inl, inr, false, List, [], ◌∷◌, arith}
use Rattle.rules.specs.{declared.Plan.Plan, Plan.{multiple_of, d_max}, Demand.block_limit, Verdict.{Pair, pairs_at, all_pairs, broken, compared}}
use Rattle.base.specs.Count.{up_from}
use Rattle.base.proofs.{Lists.All, Order.{Rising, all-mapped, each-of-mapped, all-flat, each-of-flat, all-up_from, each-of-up_from, rising-map, rising-mapped, rising-flat, rising-up_from}}
use Rattle.demand.proofs.Pairs.{pair}

module _ (p : Plan) where
  -- where none is broken, all are compared
  pub compared-all : (qs : List Pair) → All (λ q. broken p q ≡ false) qs → compared p qs ≡ qs
  unfolding compared
  compared-all [] h = refl
  compared-all (q ∷ qs) h =
      let rest = compared-all qs h.1 in
      rw (h.0, rest)

-- ---- The pairs of a plan

abbrev pub Within : Plan → Pair → Type 0
Within p q = (1 ≤ q.l) × (q.l ≤ d_max p + multiple_of p - 1) × (q.b ≤ block_limit p q.l)

abbrev pub Before : Pair → Pair → Type 0
Before q r = (q.l < r.l) ⊎ ((q.l ≡ r.l) × (q.b < r.b))

module _ (p : Plan) where
  all_row : (P : Pair → Type 0) (l : ℕ) → ((b : ℕ) → b ≤ block_limit p l → P (pair l b)) → All P (pairs_at p l)
  unfolding pairs_at
  all_row P l f =
      all-mapped P (pair l) (up_from 0 (suc (block_limit p l)))
      (all-up_from (λ b. P (pair l b)) 0 (suc (block_limit p l)) (λ b low high. f b (omega arith)))

  each-of-row : (P : Pair → Type 0) (l : ℕ) → All P (pairs_at p l) → (b : ℕ) → b ≤ block_limit p l → P (pair l b)
  unfolding pairs_at
  each-of-row P l h b m =
      each-of-up_from (λ c. P (pair l c)) 0 (suc (block_limit p l)) (each-of-mapped P (pair l) (up_from 0 (suc (block_limit p l))) h) b
      zero-le
      (omega arith)

  -- the pairs are those with l from 1 to Dmax + H − 1 and b up to the blocking limit
  pub all-pairs :
      (P : Pair → Type 0)
      → ((l b : ℕ) → 1 ≤ l → l ≤ d_max p + multiple_of p - 1 → b ≤ block_limit p l → P (pair l b))
      → All P (all_pairs p)
  unfolding all_pairs
  all-pairs P f =
      all-flat P (pairs_at p) (up_from 1 (d_max p + multiple_of p - 1))
      (all-up_from (λ l. All P (pairs_at p l)) 1 (d_max p + multiple_of p - 1) (λ l low high.
      all_row P l (λ b m. f l b low (omega arith) m)))

  pub each-of-pairs :
      (P : Pair → Type 0) → All P (all_pairs p)
      → (l b : ℕ) → 1 ≤ l → l ≤ d_max p + multiple_of p - 1 → b ≤ block_limit p l → P (pair l b)
  unfolding all_pairs
  each-of-pairs P h l b low high m =
      each-of-row P l
      (each-of-up_from (λ i. All P (pairs_at p i)) 1 (d_max p + multiple_of p - 1)
      (each-of-flat P (pairs_at p) (up_from 1 (d_max p + multiple_of p - 1)) h) l low (omega arith))
      b m

  -- they stand in order
  pub pairs-rising : Rising Before (all_pairs p)
  unfolding all_pairs
  pairs-rising =
      rising-flat ◌<◌ Before (pairs_at p) row next (up_from 1 (d_max p + multiple_of p - 1))
      (rising-up_from 1 (d_max p + multiple_of p - 1))
    where
      row : (l : ℕ) → Rising Before (pairs_at p l)
      row l = unfold pairs_at in
          rising-mapped Before (pair l) (up_from 0 (suc (block_limit p l)))
          (rising-map ◌<◌ (λ b c. Before (pair l b) (pair l c)) (λ b c h. inr (refl, h)) (up_from 0 (suc (block_limit p l)))
          (rising-up_from 0 (suc (block_limit p l))))

      next : (l m : ℕ) → l < m → All (λ q. All (Before q) (pairs_at p m)) (pairs_at p l)
      next l m h =
          all_row (λ q. All (Before q) (pairs_at p m)) l (λ b limit.
          all_row (Before (pair l b)) m (λ c other. inl h))
