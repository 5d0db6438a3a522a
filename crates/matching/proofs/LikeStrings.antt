-- Strings like one: counted, and where they stand, in the library's words and in those of the rules.
--     likes_in s ys          where those of ys stand that are like s, counted from 0
--     place_at i            the place of what stands at the index i, where there is one; 0 where there is none
use Rattle.base.proofs.Prelude.{ℕ, zero, suc, ◌+◌, ◌-◌, ◌<◌, ◌≡◌, refl, sym, Bool, List, ◌∷◌, arith, add-one, length, get_or}
use Rattle.std.specs.Prelude.{Option, Some, None, IfSome}
use Rattle.std.specs.List.{count_by, filter, range_with_len, slice_get}
use Rattle.std.proofs.lemmas.List.Recursion.{is_count_by}
use Rattle.base.specs.Count.{count_of, keep, up_from}
use Rattle.base.proofs.Lists.{by_bool}
use Rattle.rules.specs.{declared.BatteryString.BatteryString, Plan.no_string}
use Rattle.results.specs.Partners.{alike, places_like}

pub likes-counted : (s : BatteryString) (ys : List BatteryString) → count_by (alike s) ys ≡ count_of (alike s) ys
unfolding count_of
likes-counted s ys =
    sym (is_count_by (count_of (alike s)) (alike s) refl (λ x xs. by_bool (alike s x) (λ t. rw t) (λ e. rw e (omega arith))) ys)

abbrev pub place_at : Option ℕ → ℕ
place_at None = 0
place_at (Some i) = i + 1

-- of n indices from k on, those that pass h; their places are those that pass g
kept-from : (h g : ℕ → Bool) → ((i : ℕ) → g (i + 1) ≡ h i) → (n k ahead : ℕ)
    → get_or (keep g (up_from (k + 1) n)) ahead 0 ≡ place_at (slice_get (filter h (range_with_len k n)) ahead)
unfolding keep up_from
kept-from h g same zero k ahead = refl
kept-from h g same (suc n) k ahead =
    let rest : (ahead : ℕ) → get_or (keep g (up_from (suc (k + 1)) n)) ahead 0
    ≡ place_at (slice_get (filter h (range_with_len (k + 1) n)) ahead) =
    λ ahead. rw (← add-one (k + 1)) (kept-from h g same n (k + 1) ahead) in
    by_bool (h k)
    (λ t. rw (same k, t) (at ahead rest))
    (λ e. rw (same k, e) (rest ahead))
  where
    at : (ahead : ℕ)
        → ((ahead : ℕ) → get_or (keep g (up_from (suc (k + 1)) n)) ahead 0
        ≡ place_at (slice_get (filter h (range_with_len (k + 1) n)) ahead))
        → get_or ((k + 1) ∷ keep g (up_from (suc (k + 1)) n)) ahead 0
        ≡ place_at (slice_get (k ∷ filter h (range_with_len (k + 1) n)) ahead)
    at zero rest = refl
    at (suc ahead) rest = rest ahead

module _ (s : BatteryString) (ys : List BatteryString) where
  abbrev pub likes_in : List ℕ
  likes_in = filter (λ i. alike s (get_or ys i no_string)) (range_with_len 0 (length ys))

  pub place-like-at : (ahead : ℕ) → get_or (places_like s ys) ahead 0 ≡ place_at (slice_get likes_in ahead)
  unfolding places_like
  place-like-at ahead =
      kept-from (λ i. alike s (get_or ys i no_string)) (λ j. alike s (get_or ys (j - 1) no_string)) shifted (length ys) 0 ahead
    where
      shifted : (i : ℕ) → alike s (get_or ys (i + 1 - 1) no_string) ≡ alike s (get_or ys i no_string)
      shifted i =
          let back : i + 1 - 1 ≡ i = omega arith in
          rw back

-- an index that is found is one of them
found-below : (h : ℕ → Bool) (n k ahead i : ℕ) → slice_get (filter h (range_with_len k n)) ahead ≡ Some i → i < k + n
found-below h zero k ahead i e = absurd (omega (arith, none e))
  where
    none : ◌≡◌ {A = Option ℕ} None (Some i) → ⊥
    none e =
        let z : ◌≡◌ {A = ℕ} 0 1 = cc in
        omega arith
found-below h (suc n) k ahead i e =
    by_bool (h k)
    (λ t. at ahead (λ m. found-below h n (k + 1) m i) (rw t at e))
    (λ f.
    let later = found-below h n (k + 1) ahead i (rw f at e) in
    omega arith)
  where
    at : (ahead : ℕ) → ((ahead : ℕ) → slice_get (filter h (range_with_len (k + 1) n)) ahead ≡ Some i → i < k + 1 + n)
        → slice_get (k ∷ filter h (range_with_len (k + 1) n)) ahead ≡ Some i → i < k + suc n
    at zero later e =
        let same : k ≡ i = cc in
        omega arith
    at (suc ahead) later e =
        let below = later ahead e in
        omega arith

pub like-inside : (s : BatteryString) (ys : List BatteryString) (ahead : ℕ)
    → IfSome (slice_get (likes_in s ys) ahead) (λ i. i < length ys)
like-inside s ys ahead = of (slice_get (likes_in s ys) ahead) refl
  where
    of : (o : Option ℕ) → slice_get (likes_in s ys) ahead ≡ o → IfSome o (λ i. i < length ys)
    of None e = tt
    of (Some i) e =
        let below = found-below (λ i. alike s (get_or ys i no_string)) (length ys) 0 ahead i e in
        omega arith
