-- The first of a list that passes a test, by place: found by halving where all behind one that passes pass too.
--     Upward f xs           all behind one that passes pass too
--     Between f xs low high the places below low fail and those from high on pass
use Rattle.base.proofs.Prelude.{ℕ, zero, suc, ◌+◌, ◌≤◌, ◌<◌, ◌≡◌, sym, ◌∙◌, Bool, true, false, List, [], ◌∷◌, some, none, arith, length, get_or}
use Rattle.base.specs.Count.{first_of}
use Rattle.base.proofs.{Lists.{all-by, all-at, by_bool, true-not-false}, FirstOf.{first_of-here, first_of-later, first_of-none}, Order.Rising}

module _ (f : ℕ → Bool) where
  -- the first that passes stands where none before it does
  pub first_of-place : (xs : List ℕ) (k : ℕ) → k < length xs → ((j : ℕ) → j < k → f (get_or xs j 0) ≡ false) → f (get_or xs k 0) ≡ true
      → first_of f xs ≡ some (get_or xs k 0)
  first_of-place [] k inside fails here = absurd (omega arith)
  first_of-place (x ∷ xs) zero inside fails here = first_of-here f x xs here
  first_of-place (x ∷ xs) (suc k) inside fails here =
      first_of-later f x xs (fails zero (omega arith))
      ∙ first_of-place xs k (omega arith) (λ j h. fails (suc j) (omega arith)) here

  pub first_of-nowhere : (xs : List ℕ) → ((j : ℕ) → j < length xs → f (get_or xs j 0) ≡ false) → first_of f xs ≡ none
  first_of-nowhere xs fails = (first_of-none f xs).1 (all-by (λ x. f x ≡ false) xs 0 fails)

  abbrev pub Upward : List ℕ → Type 0
  Upward xs = (j k : ℕ) → j ≤ k → k < length xs → f (get_or xs j 0) ≡ true → f (get_or xs k 0) ≡ true

  pub record Between (xs : List ℕ) (low high : ℕ) : Type 0 where
    pub order : low ≤ high
    pub inside : high ≤ length xs
    pub fails : (j : ℕ) → j < low → f (get_or xs j 0) ≡ false
    pub passes : (j : ℕ) → high ≤ j → j < length xs → f (get_or xs j 0) ≡ true

  module _ (xs : List ℕ) where
    pub between_start : (n : ℕ) → n ≡ length xs → Between xs 0 n
    between_start n all =
        record {
          order = omega arith;
          inside = omega arith;
          fails = λ j h. absurd (omega arith);
          passes = λ j low high. absurd (omega arith);
        }

    module _ (up : Upward xs) (low high middle : ℕ) (so : Between xs low high) (from : low ≤ middle) (below : middle < high) where
      -- the middle one passes: so do those behind it
      pub between_lower : f (get_or xs middle 0) ≡ true → Between xs low middle
      between_lower here =
          record {
            order = from;
            inside = omega (arith, so.inside);
            fails = so.fails;
            passes = λ j behind high. up middle j behind high here;
          }

      -- it fails: so do those before it
      pub between-upper : f (get_or xs middle 0) ≡ false → Between xs (middle + 1) high
      between-upper here =
          record {
            order = omega arith;
            inside = so.inside;
            fails = λ j before.
                by_bool (f (get_or xs j 0))
                (λ t. absurd (true-not-false (sym (up j middle (omega arith) (omega (arith, so.inside)) t) ∙ here)))
                (λ e. e);
            passes = so.passes;
          }

    module _ (low high : ℕ) (so : Between xs low high) (met : high ≤ low) where
      pub between-found : low < length xs → first_of f xs ≡ some (get_or xs low 0)
      between-found here = first_of-place xs low here so.fails (so.passes low met here)

      pub between_none : length xs ≤ low → first_of f xs ≡ none
      between_none past = first_of-nowhere xs (λ j h. so.fails j (omega arith))

-- ---- A rising list

-- of two places the earlier holds what comes before
pub rising-places : (R : ℕ → ℕ → Type 0) (xs : List ℕ) → Rising R xs → (j k : ℕ) → j < k → k < length xs → R (get_or xs j 0) (get_or xs k 0)
rising-places R [] rise j k h inside = absurd (omega arith)
rising-places R (x ∷ xs) rise zero zero h inside = absurd (omega arith)
rising-places R (x ∷ xs) rise zero (suc k) h inside = all-at (R x) xs 0 rise.0 k (omega arith)
rising-places R (x ∷ xs) rise (suc j) zero h inside = absurd (omega arith)
rising-places R (x ∷ xs) rise (suc j) (suc k) h inside = rising-places R xs rise.1 j k (omega arith) (omega arith)
