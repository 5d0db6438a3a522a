-- Partners string after string: the array holds the partners' places of the strings passed and zeros behind them, and the first string
-- without a partner is among those that are left.
--     places_to xs ys i      the array where the first i strings are passed
--     alone_from xs ys i     the first without a partner among those after the first i
--     Passed xs ys places i  the array is that one, and none of the first i is alone
use Rattle.base.proofs.Prelude.{ℕ, zero, suc, ◌+◌, ◌-◌, ◌≤◌, ◌<◌, ◌≡◌, refl, sym, ap, ◌∙◌, List, [], ◌∷◌, ◌++◌, map, map-append, Option, none, some, arith, add-one, eq-eqb, ne_eqb, eqb, length, take, get_or, set, replicate}
use Rattle.std.specs.Prelude.{Some, None}
use Rattle.std.specs.Prelude as std
use Rattle.std.specs.List.{count_by, slice_get}
use Rattle.base.specs.Count.{up_from, first_of, filled}
use Rattle.base.proofs.{Filling.filled-set, FirstOf.{first_of-end, first_of-here, first_of-later}}
use Rattle.rules.specs.{declared.BatteryString.BatteryString, Plan.no_string}
use Rattle.results.specs.Partners.{alike, likes_ahead, partner, partners, first_alone}
use Rattle.results.proofs.SmallestList.{mapped-length}
use Rattle.matching.specs.{declared.Matching.TheVariants.{Same, Alone, Counts}, Matched.{no_places, told_by, matched_of}}
use Rattle.matching.proofs.LikeStrings.{likes-counted, likes_in, place_at, place-like-at}

up_from-more : (k n : ℕ) → up_from k (suc n) ≡ up_from k n ++ ((k + n) ∷ [])
unfolding up_from
up_from-more k zero =
    let at : k ≡ k + 0 = omega arith in
    ap (λ j. j ∷ []) at
up_from-more k (suc n) =
    let at : suc k + n ≡ k + suc n = omega arith in
    ap (λ js. k ∷ js) (up_from-more (suc k) n ∙ ap (λ j. up_from (suc k) n ++ (j ∷ [])) at)

module _ (xs ys : List BatteryString) where
  -- ---- The partner of the string at i, counted from 0

  -- where it is found in ys: the one like it that as many others stand ahead of
  abbrev pub found_for : ℕ → std.Option ℕ
  found_for i =
      let s = get_or xs i no_string in
      slice_get (likes_in s ys) (count_by (alike s) (take i xs))

  pub matching-partner-found : (i : ℕ) → partner xs ys (i + 1) ≡ place_at (found_for i)
  unfolding partner likes_ahead
  matching-partner-found i =
      let at : i + 1 - 1 ≡ i = omega arith in
      let s = get_or xs i no_string in
      rw (at, ← likes-counted s (take i xs)) (place-like-at s ys (count_by (alike s) (take i xs)))

  -- ---- The array

  abbrev pub places_to : ℕ → List ℕ
  places_to i = filled 10 0 (map (partner xs ys) (up_from 1 i))

  places-more : (i : ℕ) → i < 10 → set (places_to i) i (partner xs ys (i + 1)) ≡ places_to (i + 1)
  places-more i room =
      let many : length (map (partner xs ys) (up_from 1 i)) ≡ i = mapped-length (partner xs ys) 1 i in
      let place : 1 + i ≡ i + 1 = omega arith in
      rw (add-one i, up_from-more 1 i, map-append (partner xs ys) (up_from 1 i) ((1 + i) ∷ []), place, add-one i)
      (ap (λ k. set (places_to i) k (partner xs ys (suc i))) (sym many)
      ∙ filled-set 10 0 (partner xs ys (suc i)) (map (partner xs ys) (up_from 1 i)) (omega arith))

  -- ---- The first without a partner

  abbrev alone_from : ℕ → Option ℕ
  alone_from i = first_of (λ j. eqb (partner xs ys j) 0) (up_from (i + 1) (length xs - i))

  left-suc : (i : ℕ) → i < length xs → up_from (i + 1) (length xs - i) ≡ (i + 1) ∷ up_from (i + 1 + 1) (length xs - (i + 1))
  unfolding up_from
  left-suc i inside =
      let more : length xs - i ≡ suc (length xs - (i + 1)) = omega arith in
      rw (more, add-one (i + 1))

  alone-here : (i : ℕ) → i < length xs → partner xs ys (i + 1) ≡ 0 → alone_from i ≡ some (i + 1)
  alone-here i inside gone =
      rw (left-suc i inside) (first_of-here (λ j. eqb (partner xs ys j) 0) (i + 1) _ (eq-eqb (partner xs ys (i + 1)) 0 gone))

  alone-later : (i : ℕ) → i < length xs → (partner xs ys (i + 1) ≡ 0 → ⊥) → alone_from (i + 1) ≡ alone_from i
  alone-later i inside there =
      rw (left-suc i inside) (sym (first_of-later (λ j. eqb (partner xs ys j) 0) (i + 1) _ (ne_eqb (partner xs ys (i + 1)) 0 there)))

  alone-end : (i : ℕ) → length xs ≤ i → alone_from i ≡ none
  unfolding up_from
  alone-end i past =
      let over : length xs - i ≡ 0 = omega arith in
      rw over (first_of-end (λ j. eqb (partner xs ys j) 0))

  -- ---- The answers

  pub told-counts : (length xs ≡ length ys → ⊥) → no_places (Counts (length xs) (length ys)) ≡ matched_of xs ys
  unfolding matched_of
  told-counts differ = rw (ne_eqb (length xs) (length ys) differ)

  told-by : (o : Option ℕ) → length xs ≡ length ys → first_alone xs ys ≡ o → told_by o xs ys ≡ matched_of xs ys
  unfolding matched_of
  told-by o same e = rw (eq-eqb (length xs) (length ys) same) (ap (λ o. told_by o xs ys) (sym e))

  pub record Passed (places : List ℕ) (i : ℕ) : Type 0 where
    pub same : length xs ≡ length ys
    pub few : length xs ≤ 10
    pub within : i ≤ length xs
    pub found : places ≡ places_to i
    pub left : alone_from i ≡ first_alone xs ys

module _ {xs ys : List BatteryString} where
  pub passed-none : length xs ≡ length ys → length xs ≤ 10 → Passed xs ys (replicate 10 0) 0
  unfolding first_alone up_from
  passed-none same few =
      let whole : length xs - 0 ≡ length xs = omega arith in
      record { same = same; few = few; within = omega arith; found = refl; left = rw whole refl }

  module _ {places : List ℕ} {i : ℕ} (w : Passed xs ys places i) where
    pub passed-next : (k : ℕ) → i < length xs → found_for xs ys i ≡ Some k → Passed xs ys (set places i (k + 1)) (i + 1)
    passed-next k inside e =
        let place : partner xs ys (i + 1) ≡ k + 1 = matching-partner-found xs ys i ∙ ap place_at e in
        record {
          same = w.same;
          few = w.few;
          within = omega arith;
          found = ap (λ ps. set ps i (k + 1)) w.found ∙ ap (set (places_to xs ys i) i) (sym place)
              ∙ places-more xs ys i (omega (arith, w.few));
          left = alone-later xs ys i inside (λ gone. omega arith) ∙ w.left;
        }

    pub passed-alone : i < length xs → found_for xs ys i ≡ None → no_places (Alone (i + 1)) ≡ matched_of xs ys
    passed-alone inside e =
        told-by xs ys (some (i + 1)) w.same (sym w.left ∙ alone-here xs ys i inside (matching-partner-found xs ys i ∙ ap place_at e))

    pub passed-all : length xs ≤ i → record { matching = Same (length xs); places = places } ≡ matched_of xs ys
    unfolding partners
    passed-all past =
        let all : i ≡ length xs = omega (arith, w.within) in
        ap (λ ps. record { matching = Same (length xs); places = ps }) (w.found ∙ ap (places_to xs ys) all)
        ∙ told-by xs ys none w.same (sym w.left ∙ alone-end xs ys i past)
