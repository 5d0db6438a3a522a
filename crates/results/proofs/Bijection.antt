-- Another order by places is another order by swaps of neighbours, and both are there exactly where each string has a partner.
--     EachPartnered xs ys   the lists have as many strings, and no string of xs is left without a partner
use Rattle.base.proofs.Prelude.{ℕ, zero, suc, ◌-◌, ◌<◌, ◌≡◌, sym, ap, ◌∙◌, ◌↔◌, List, arith, length, get_or}
use Rattle.base.specs.Count.{count_of}
use Rattle.rules.specs.{declared.BatteryString.BatteryString, declared.Plan.Plan, Plan.{strings_of, no_string}}
use Rattle.results.specs.{Order.{Permuted, Reordered}, Places.{string_in, Place, AnotherOrder, InAnotherOrder}, Partners.partner}
use Rattle.results.proofs.{Permuted.{permuted-back, length-permuted, count_of-permuted}, Ranks.{rank, rank_below}, Placing.{Placed, placed-permuted}, Partners.{like_at, Partnered, partner-there, partnered, partner-of, partnered-back, partnered-apart, alike_same, alike_self}}

pub from_zero : (i : ℕ) → suc i - 1 ≡ i
from_zero i = omega arith

pub string_in-suc : (ss : List BatteryString) (i : ℕ) → string_in ss (suc i) ≡ get_or ss i no_string
string_in-suc ss i = ap (λ k. get_or ss k no_string) (from_zero i)

-- ---- Where each has a partner

pub record EachPartnered (xs ys : List BatteryString) : Type 0 where
  pub as_many : length ys ≡ length xs
  pub each : (i : ℕ) → i < length xs → partner xs ys (suc i) ≡ 0 → ⊥

-- in another order there are as many of each kind
pub permuted-partnered : (xs ys : List BatteryString) → Permuted xs ys → EachPartnered xs ys
permuted-partnered xs ys r =
    record {
      as_many = length-permuted r;
      each = λ i inside none. some i (partner-there xs ys i inside (enough i inside)) none;
    }
  where
    enough : (i : ℕ) → i < length xs → rank (like_at xs i) xs i < count_of (like_at xs i) ys
    enough i inside =
        omega (
          arith,
          rank_below (like_at xs i) xs no_string i inside (alike_self (get_or xs i no_string)),
          count_of-permuted (like_at xs i) r,
        )

    some : (i : ℕ) → (j : ℕ) × (partner xs ys (suc i) ≡ suc j) × Partnered xs ys i j → partner xs ys (suc i) ≡ 0 → ⊥
    some i partner-found none = omega (arith, partner-found.1, none)

module _ (xs ys : List BatteryString) (all : EachPartnered xs ys) where
  pub partner-found : (i : ℕ) → i < length xs → (j : ℕ) × (partner xs ys (suc i) ≡ suc j) × Partnered xs ys i j
  partner-found i inside = partnered xs ys i inside (all.each i inside)

  at-found : (i : ℕ) (inside : i < length xs) → partner xs ys (suc i) - 1 ≡ (partner-found i inside).0
  at-found i inside = omega (arith, (partner-found i inside).1)

  placed : Placed no_string xs ys
  placed =
      record {
        as_many = all.as_many;
        at = λ i. partner xs ys (suc i) - 1;
        inside = λ i h. omega (arith, at-found i h, (partner-found i h).2.second);
        apart = λ i j hi hj e. one i j hi hj (sym (at-found i hi) ∙ e ∙ at-found j hj);
        stands = λ i h. ap (λ k. get_or ys k no_string) (at-found i h) ∙ sym (alike_same _ _ (partner-found i h).2.likes);
      }
    where
      one : (i j : ℕ) (hi : i < length xs) (hj : j < length xs) → (partner-found i hi).0 ≡ (partner-found j hj).0 → i ≡ j
      one i j hi hj e =
          let q : Partnered xs ys j (partner-found i hi).0 = rw e (partner-found j hj).2 in
          partnered-apart xs ys i j (partner-found i hi).0 (partner-found i hi).2 q

  pub partnered-permuted : Permuted xs ys
  partnered-permuted = placed-permuted no_string xs ys placed

partnered-exactly : (xs ys : List BatteryString) → EachPartnered xs ys ↔ Permuted xs ys
partnered-exactly xs ys = (partnered-permuted xs ys, permuted-partnered xs ys)

-- ---- By places

module _ (xs ys : List BatteryString) (r : Permuted xs ys) where
  there : (i : ℕ) → Place xs i → (j : ℕ) × (partner xs ys i ≡ suc j) × Partnered xs ys (i - 1) j
  there zero p = absurd (omega (arith, p.0))
  there (suc i) p =
      let inside : i < length xs = omega (arith, p.1) in
      let f = partner-found xs ys (permuted-partnered xs ys r) i inside in
      (f.0, f.1, rw (from_zero i) f.2)

  -- to the partner and back
  pub partner-back : (i : ℕ) → Place xs i → partner ys xs (partner xs ys i) ≡ i
  partner-back zero p = absurd (omega (arith, p.0))
  partner-back (suc i) p =
      let f = there (suc i) p in
      let pair : Partnered xs ys i f.0 = rw (from_zero i) at f.2 in
      ap (partner ys xs) f.1 ∙ partner-of ys xs f.0 i (partnered-back xs ys i f.0 pair)

  pub partner-place : (i : ℕ) → Place xs i → Place ys (partner xs ys i)
  partner-place i p =
      let f = there i p in
      (omega (arith, f.1), omega (arith, f.1, f.2.second))

  pub partner-same : (i : ℕ) → Place xs i → string_in ys (partner xs ys i) ≡ string_in xs i
  partner-same zero p = absurd (omega (arith, p.0))
  partner-same (suc i) p =
      let f = there (suc i) p in
      ap (string_in ys) f.1 ∙ string_in-suc ys f.0 ∙ sym (alike_same _ _ f.2.likes)

pub another-of-permuted : (xs ys : List BatteryString) → Permuted xs ys → AnotherOrder xs ys
another-of-permuted xs ys r =
    let s = permuted-back r in
    record {
      as_many = length-permuted r;
      to = partner xs ys;
      from = partner ys xs;
      to_place = partner-place xs ys r;
      from_place = partner-place ys xs s;
      there_and_back = partner-back xs ys r;
      back_and_there = partner-back ys xs s;
      same_string = partner-same xs ys r;
    }

module _ (xs ys : List BatteryString) (o : AnotherOrder xs ys) where
  place : (i : ℕ) → i < length xs → Place xs (suc i)
  place i h = (omega arith, omega arith)

  placed-another : Placed no_string xs ys
  placed-another =
      record {
        as_many = o.as_many;
        at = λ i. o.to (suc i) - 1;
        inside = λ i h. low i h (o.to_place (suc i) (place i h));
        apart = λ i j hi hj e. one i j hi hj (o.to_place (suc i) (place i hi)) (o.to_place (suc j) (place j hj)) e;
        stands = λ i h. o.same_string (suc i) (place i h) ∙ string_in-suc xs i;
      }
    where
      low : (i : ℕ) → i < length xs → Place ys (o.to (suc i)) → o.to (suc i) - 1 < length ys
      low i h p = omega (arith, p.0, p.1)

      one : (i j : ℕ) → i < length xs → j < length xs → Place ys (o.to (suc i)) → Place ys (o.to (suc j))
          → o.to (suc i) - 1 ≡ o.to (suc j) - 1 → i ≡ j
      one i j hi hj p q e =
          let same : o.to (suc i) ≡ o.to (suc j) = omega (arith, p.0, q.0) in
          let back : suc i ≡ suc j =
          sym (o.there_and_back (suc i) (place i hi)) ∙ ap o.from same ∙ o.there_and_back (suc j) (place j hj) in
          omega arith

  pub permuted-of-another : Permuted xs ys
  permuted-of-another = placed-permuted no_string xs ys placed-another

-- the two ways to say "in another order" are one
pub another-exactly : (xs ys : List BatteryString) → AnotherOrder xs ys ↔ Permuted xs ys
another-exactly xs ys = (permuted-of-another xs ys, another-of-permuted xs ys)

pub reordered-exactly : (p q : Plan) → InAnotherOrder p q ↔ Reordered p q
reordered-exactly p q = (
  λ o. record { same_n = o.same_n; strings = permuted-of-another (strings_of p) (strings_of q) o.strings },
  λ r. record { same_n = r.same_n; strings = another-of-permuted (strings_of p) (strings_of q) r.strings },
)
