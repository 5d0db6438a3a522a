-- The list of partners is the smallest list of places that takes each string to a place of its own, and such a list is another order.
use Rattle.base.proofs.Prelude.{ℕ, zero, suc, ◌+◌, ◌-◌, ◌≤◌, ◌<◌, ◌≡◌, refl, sym, ap, ◌∙◌, true, List, map, arith, dec_le, not-suc-le-zero, le_of_suc-le-suc, length, get_or}
use Rattle.base.specs.Count.{up_from}
use Rattle.rules.specs.{declared.BatteryString.BatteryString, Plan.no_string}
use Rattle.results.specs.{Order.Permuted, Places.{string_in, Place, place_given, TakesTo, SmallestTo}, Partners.{alike, partner, partners}}
use Rattle.results.proofs.{Ranks.{rank, rank_mono, rank-whole, rank_rises, ranked}, Placing.{Placed, placed-permuted}, Partners.{like_at, Partnered, partner-of, alike_same, alike_self}, Bijection.{string_in-suc, EachPartnered, permuted-partnered, partner-found, partnered-permuted, partner-back, partner-place, partner-same}}

-- what is made of the numbers from k on, by place
mapped_at : (f : ℕ → ℕ) (k n i : ℕ) → i < n → get_or (map f (up_from k n)) i 0 ≡ f (k + i)
unfolding up_from
mapped_at f k zero i h = absurd (not-suc-le-zero h)
mapped_at f k (suc n) zero h =
    let start : k ≡ k + 0 = omega arith in
    ap f start
mapped_at f k (suc n) (suc i) h =
    let next : suc k + i ≡ k + suc i = omega arith in
    mapped_at f (suc k) n i (le_of_suc-le-suc h) ∙ ap f next

pub mapped-length : (f : ℕ → ℕ) (k n : ℕ) → length (map f (up_from k n)) ≡ n
unfolding up_from
mapped-length f k zero = refl
mapped-length f k (suc n) = ap suc (mapped-length f (suc k) n)

pub partners-length : (xs ys : List BatteryString) → length (partners xs ys) ≡ length xs
unfolding partners
partners-length xs ys = mapped-length (partner xs ys) 1 (length xs)

-- ---- The smallest list

-- Up to where another order agrees with the partners, it cannot go on below them: a lower place with a like string is already taken, by
-- the partner of one ahead.
module _ (xs ys : List BatteryString) (o : Placed no_string xs ys) (i : ℕ) (inside : i < length xs) where
  at-like : like_at xs i (get_or ys (o.at i) no_string) ≡ true
  at-like = ap (like_at xs i) (o.stands i inside) ∙ alike_self (get_or xs i no_string)

  -- one ahead, of the rank that the lower place has, is its partner
  taken-ahead : (m : ℕ) → m < i → like_at xs i (get_or xs m no_string) ≡ true → rank (like_at xs i) xs m ≡ rank (like_at xs i) ys (o.at i)
      → partner xs ys (suc m) ≡ suc (o.at i)
  taken-ahead m ahead likes ranks =
      let is : get_or xs i no_string ≡ get_or xs m no_string = alike_same _ _ likes in
      let test : like_at xs i ≡ like_at xs m = ap alike is in
      partner-of xs ys m (o.at i)
      (record {
        first = omega arith;
        second = o.inside i inside;
        likes = ap (λ f. f (get_or ys (o.at i) no_string)) (sym test) ∙ at-like;
        as_many = ap (λ f. rank f ys (o.at i)) (sym test) ∙ sym ranks ∙ ap (λ f. rank f xs m) test;
      })

  not-below : (j : ℕ) → Partnered xs ys i j → ((m : ℕ) → m < i → suc (o.at m) ≡ partner xs ys (suc m)) → o.at i < j → ⊥
  not-below j pair agrees low =
      let fewer = rank_rises (like_at xs i) ys no_string (o.at i) j low (o.inside i inside) at-like in
      let ahead = ranked (like_at xs i) xs no_string 0 (rank (like_at xs i) ys (o.at i))
      (omega (arith, pair.as_many, rank-whole (like_at xs i) xs i)) in
      let before : ahead.at < i = sooner ahead.at (omega (arith, ahead.ranks, pair.as_many)) in
      let one : suc (o.at ahead.at) ≡ suc (o.at i) =
      agrees ahead.at before ∙ taken-ahead ahead.at before ahead.passes ahead.ranks in
      let same : ahead.at ≡ i = o.apart ahead.at i ahead.inside inside (omega arith) in
      omega arith
    where
      sooner : (m : ℕ) → rank (like_at xs i) xs m < rank (like_at xs i) xs i → m < i
      sooner m less =
          elim (dec_le i m) [ yes late ↦ absurd (omega (arith, rank_mono (like_at xs i) xs i m late)) | no soon ↦ omega arith ]

  smallest-at : ((m : ℕ) → m < i → suc (o.at m) ≡ partner xs ys (suc m)) → partner xs ys (suc i) ≤ suc (o.at i)
  smallest-at agrees =
      let f = partner-found xs ys (permuted-partnered xs ys (placed-permuted no_string xs ys o)) i inside in
      elim (dec_le f.0 (o.at i)) [
        | yes up ↦ omega (arith, f.1)
        | no low ↦ absurd (not-below f.0 f.2 agrees (omega arith))
      ]

-- a list of places, counted from 0
module _ (xs ys : List BatteryString) (ps : List ℕ) (t : TakesTo xs ys ps) where
  at_suc : (i : ℕ) → i < length xs → suc (place_given ps (suc i) - 1) ≡ place_given ps (suc i)
  at_suc i h =
      let p = t.in_place (suc i) (place i h) in
      omega (arith, p.0)
    where
      place : (i : ℕ) → i < length xs → Place xs (suc i)
      place i h = (omega arith, omega arith)

  placed-list : Placed no_string xs ys
  placed-list =
      record {
        as_many = t.as_many;
        at = λ i. place_given ps (suc i) - 1;
        inside = λ i h. low i (t.in_place (suc i) (place i h));
        apart = λ i j hi hj e. back i j (t.of_its_own (suc i) (suc j) (place i hi) (place j hj) (one i j hi hj e));
        stands = λ i h. t.same_string (suc i) (place i h) ∙ string_in-suc xs i;
      }
    where
      place : (i : ℕ) → i < length xs → Place xs (suc i)
      place i h = (omega arith, omega arith)

      low : (i : ℕ) → Place ys (place_given ps (suc i)) → place_given ps (suc i) - 1 < length ys
      low i p = omega (arith, p.0, p.1)

      one : (i j : ℕ) → i < length xs → j < length xs → place_given ps (suc i) - 1 ≡ place_given ps (suc j) - 1
          → place_given ps (suc i) ≡ place_given ps (suc j)
      one i j hi hj e = omega (arith, at_suc i hi, at_suc j hj)

      back : (i j : ℕ) → suc i ≡ suc j → i ≡ j
      back i j e = omega arith

-- the list of partners, by place
partners-at : (xs ys : List BatteryString) (i : ℕ) → Place xs i → place_given (partners xs ys) i ≡ partner xs ys i
unfolding partners
partners-at xs ys i at =
    let place : 1 + (i - 1) ≡ i = omega (arith, at.0) in
    mapped_at (partner xs ys) 1 (length xs) (i - 1) (omega (arith, at.0, at.1)) ∙ ap (partner xs ys) place

module _ (xs ys : List BatteryString) (all : EachPartnered xs ys) where
  partners-take : TakesTo xs ys (partners xs ys)
  partners-take =
      let r = partnered-permuted xs ys all in
      record {
        as_many = all.as_many;
        by_place = partners-length xs ys;
        in_place = λ i p. rw (partners-at xs ys i p) (partner-place xs ys r i p);
        of_its_own = λ i j p q e. sym (partner-back xs ys r i p)
            ∙ ap (partner ys xs) (sym (partners-at xs ys i p) ∙ e ∙ partners-at xs ys j q)
            ∙ partner-back xs ys r j q;
        same_string = λ i p. ap (string_in ys) (partners-at xs ys i p) ∙ partner-same xs ys r i p;
      }

  smaller : (qs : List ℕ) → TakesTo xs ys qs → (i : ℕ) → Place xs i
      → ((j : ℕ) → Place xs j → j < i → place_given qs j ≡ place_given (partners xs ys) j) → place_given (partners xs ys) i
      ≤ place_given qs i
  unfolding placed-list
  smaller qs t zero at agrees = absurd (omega (arith, at.0))
  smaller qs t (suc i) at agrees =
      let inside : i < length xs = omega (arith, at.1) in
      let least = smallest-at xs ys (placed-list xs ys qs t) i inside
      (λ m h. known m h inside (agrees (suc m) (place m h inside) (omega arith))) in
      omega (arith, partners-at xs ys (suc i) at, at_suc xs ys qs t i inside)
    where
      place : (m : ℕ) → m < i → i < length xs → Place xs (suc m)
      place m h inside = (omega arith, omega arith)

      known : (m : ℕ) (h : m < i) (inside : i < length xs) → place_given qs (suc m) ≡ place_given (partners xs ys) (suc m)
          → suc (place_given qs (suc m) - 1) ≡ partner xs ys (suc m)
      known m h inside e = at_suc xs ys qs t m (omega arith) ∙ e ∙ partners-at xs ys (suc m) (place m h inside)

  pub partners-smallest : SmallestTo xs ys (partners xs ys)
  partners-smallest = record { takes = partners-take; smallest = smaller }

-- a list of places is another order
permuted-of-list : (xs ys : List BatteryString) (ps : List ℕ) → TakesTo xs ys ps → Permuted xs ys
permuted-of-list xs ys ps t = placed-permuted no_string xs ys (placed-list xs ys ps t)
