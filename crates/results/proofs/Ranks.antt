-- How many of a list pass a test ahead of a place: the rank of the place. Of those that pass, no two have the same rank, and each number
-- below the count of all is the rank of one.
--     rank xs i             how many of the first i of xs pass
--     places_like_from k ys       the places of those of ys that pass, where the first of ys stands at place k
use Rattle.base.proofs.Prelude.{ℕ, zero, suc, ◌+◌, ◌≤◌, ◌<◌, zero-le, ◌≡◌, refl, ap, ◌∙◌, Bool, true, false, cond, List, [], ◌∷◌, arith, dec_le, not-suc-le-zero, le_of_suc-le-suc, length, get_or, take}
use Rattle.base.specs.Count.{count_of, keep, up_from}
use Rattle.base.proofs.Lists.{by_bool}

module _ {A : Type 0} (f : A → Bool) where
  abbrev pub rank : List A → ℕ → ℕ
  rank xs i = count_of f (take i xs)

  -- ---- Ranks rise

  pub rank_mono : (xs : List A) (i j : ℕ) → i ≤ j → rank xs i ≤ rank xs j
  unfolding count_of
  rank_mono [] zero j h = zero-le
  rank_mono [] (suc i) zero h = absurd (not-suc-le-zero h)
  rank_mono [] (suc i) (suc j) h = zero-le
  rank_mono (x ∷ xs) zero j h = zero-le
  rank_mono (x ∷ xs) (suc i) zero h = absurd (not-suc-le-zero h)
  rank_mono (x ∷ xs) (suc i) (suc j) h =
      let rest = rank_mono xs i j (le_of_suc-le-suc h) in
      omega arith

  pub rank-whole : (xs : List A) (i : ℕ) → rank xs i ≤ count_of f xs
  unfolding count_of
  rank-whole [] zero = zero-le
  rank-whole [] (suc i) = zero-le
  rank-whole (x ∷ xs) zero = zero-le
  rank-whole (x ∷ xs) (suc i) =
      let rest = rank-whole xs i in
      omega arith

  -- past one that passes by one
  pub rank_step : (xs : List A) (z : A) (i : ℕ) → i < length xs → f (get_or xs i z) ≡ true → rank xs (suc i) ≡ suc (rank xs i)
  unfolding count_of
  rank_step [] z i h t = absurd (not-suc-le-zero h)
  rank_step (x ∷ xs) z zero h t = rw t (omega arith)
  rank_step (x ∷ xs) z (suc i) h t =
      let rest = rank_step xs z i (le_of_suc-le-suc h) t in
      omega arith

  pub rank-stay : (xs : List A) (z : A) (i : ℕ) → i < length xs → f (get_or xs i z) ≡ false → rank xs (suc i) ≡ rank xs i
  unfolding count_of
  rank-stay [] z i h e = absurd (not-suc-le-zero h)
  rank-stay (x ∷ xs) z zero h e = rw e (omega arith)
  rank-stay (x ∷ xs) z (suc i) h e =
      let rest = rank-stay xs z i (le_of_suc-le-suc h) e in
      omega arith

  pub rank_below : (xs : List A) (z : A) (i : ℕ) → i < length xs → f (get_or xs i z) ≡ true → rank xs i < count_of f xs
  rank_below xs z i h t = omega (arith, rank_step xs z i h t, rank-whole xs (suc i))

  -- of two that pass, the one with the lower place has the lower rank
  pub rank_rises : (xs : List A) (z : A) (i j : ℕ) → i < j → i < length xs → f (get_or xs i z) ≡ true → rank xs i < rank xs j
  rank_rises xs z i j h inside t = omega (arith, rank_step xs z i inside t, rank_mono xs (suc i) j h)

  pub rank-one : (xs : List A) (z : A) (i j : ℕ) → i < length xs → j < length xs → f (get_or xs i z) ≡ true → f (get_or xs j z) ≡ true
      → rank xs i ≡ rank xs j → i ≡ j
  rank-one xs z i j hi hj ti tj e =
      elim (dec_le j i) [
        | yes low ↦
            elim (dec_le i j) [
              | yes high ↦ omega arith
              | no after ↦ absurd (omega (arith, rank_rises xs z j i (omega arith) hj tj))
            ]
        | no before ↦ absurd (omega (arith, rank_rises xs z i j (omega arith) hi ti))
      ]

  -- ---- Each rank below the count

  unfoldable pub places_like_from : ℕ → List A → List ℕ
  places_like_from k [] = []
  places_like_from k (y ∷ ys) = cond (f y) (k ∷ places_like_from (suc k) ys) (places_like_from (suc k) ys)

  -- one that passes and has the rank k, at the place that stands k-th in the list of places
  pub record Ranked (ys : List A) (z : A) (from k : ℕ) : Type 0 where
    pub at : ℕ
    pub inside : at < length ys
    pub passes : f (get_or ys at z) ≡ true
    pub ranks : rank ys at ≡ k
    pub listed : get_or (places_like_from from ys) k 0 ≡ from + at

  ranked-here : (y : A) (ys : List A) (z : A) (from : ℕ) → f y ≡ true → Ranked (y ∷ ys) z from zero
  unfolding count_of places_like_from
  ranked-here y ys z from t = record { at = zero; inside = omega arith; passes = t; ranks = refl; listed = rw t (omega arith) }

  ranked-after : (y : A) (ys : List A) (z : A) (from k : ℕ) → f y ≡ true → Ranked ys z (suc from) k → Ranked (y ∷ ys) z from (suc k)
  unfolding count_of places_like_from
  ranked-after y ys z from k t r =
      record {
        at = suc r.at;
        inside = omega (arith, r.inside);
        passes = r.passes;
        ranks = rw t (omega (arith, r.ranks));
        listed = rw t (omega (arith, r.listed));
      }

  ranked-past : (y : A) (ys : List A) (z : A) (from k : ℕ) → f y ≡ false → Ranked ys z (suc from) k → Ranked (y ∷ ys) z from k
  unfolding count_of places_like_from
  ranked-past y ys z from k e r =
      record {
        at = suc r.at;
        inside = omega (arith, r.inside);
        passes = r.passes;
        ranks = rw e (omega (arith, r.ranks));
        listed = rw e (omega (arith, r.listed));
      }

  pub ranked : (ys : List A) (z : A) (from k : ℕ) → k < count_of f ys → Ranked ys z from k
  unfolding count_of
  ranked [] z from k h = absurd (not-suc-le-zero h)
  ranked (y ∷ ys) z from k h =
      by_bool (f y) (λ t. here t (ranked ys z (suc from)) k (rw t at h)) (λ e. past e (ranked ys z (suc from) k) (rw e at h))
    where
      past : f y ≡ false → (k < count_of f ys → Ranked ys z (suc from) k) → k < 0 + count_of f ys → Ranked (y ∷ ys) z from k
      past e rest h = ranked-past y ys z from k e (rest (omega arith))

      here : f y ≡ true → ((k : ℕ) → k < count_of f ys → Ranked ys z (suc from) k) → (k : ℕ) → k < 1 + count_of f ys
          → Ranked (y ∷ ys) z from k
      here t rest zero h = ranked-here y ys z from t
      here t rest (suc k) h = ranked-after y ys z from k t (rest k (omega arith))

  -- beyond the count there is none
  pub places_from-past : (ys : List A) (from k : ℕ) → count_of f ys ≤ k → get_or (places_like_from from ys) k 0 ≡ 0
  unfolding count_of places_like_from
  places_from-past [] from zero h = refl
  places_from-past [] from (suc k) h = refl
  places_from-past (y ∷ ys) from k h =
      by_bool (f y)
      (λ t. rw t (after (places_from-past ys (suc from)) k (rw t at h)))
      (λ e. rw e (places_from-past ys (suc from) k (past (rw e at h))))
    where
      past : 0 + count_of f ys ≤ k → count_of f ys ≤ k
      past low = omega arith

      after : ((k : ℕ) → count_of f ys ≤ k → get_or (places_like_from (suc from) ys) k 0 ≡ 0) → (k : ℕ) → 1 + count_of f ys ≤ k
          → get_or (from ∷ places_like_from (suc from) ys) k 0 ≡ 0
      after rest zero low = absurd (omega arith)
      after rest (suc k) low = rest k (omega arith)

  pub places_from-here : (k : ℕ) (y : A) (ys : List A) → f y ≡ true → get_or (places_like_from k (y ∷ ys)) 0 0 ≡ k
  unfolding places_like_from
  places_from-here k y ys t = rw t

  pub places_from-next : (k j : ℕ) (y : A) (ys : List A) → f y ≡ true
      → get_or (places_like_from k (y ∷ ys)) (suc j) 0 ≡ get_or (places_like_from (suc k) ys) j 0
  unfolding places_like_from
  places_from-next k j y ys t = rw t

  pub places_from-skip : (k j : ℕ) (y : A) (ys : List A) → f y ≡ false
      → get_or (places_like_from k (y ∷ ys)) j 0 ≡ get_or (places_like_from (suc k) ys) j 0
  unfolding places_like_from
  places_from-skip k j y ys e = rw e

  pub places_from-end : (k j : ℕ) → get_or (places_like_from k []) j 0 ≡ 0
  unfolding places_like_from
  places_from-end k zero = refl
  places_from-end k (suc j) = refl

  -- ---- The places, as they are kept

  pub kept-places : (h : ℕ → Bool) (ys : List A) (z : A) (k : ℕ) → ((i : ℕ) → h (k + i) ≡ f (get_or ys i z))
      → keep h (up_from k (length ys)) ≡ places_like_from k ys
  unfolding keep up_from places_like_from
  kept-places h [] z k same = refl
  kept-places h (y ∷ ys) z k same =
      let start : k ≡ k + 0 = omega arith in
      let first : h k ≡ f y = ap h start ∙ same zero in
      let rest = kept-places h ys z (suc k) (λ i. shifted i) in
      rw (first, rest)
    where
      shifted : (i : ℕ) → h (suc k + i) ≡ f (get_or ys i z)
      shifted i =
          let e : suc k + i ≡ k + suc i = omega arith in
          ap h e ∙ same (suc i)
