-- Partners: a string and its partner are alike, and as many of their likes stand ahead of the one as of the other. That is said of both in
-- the same way, so the partner's partner is the string itself, and no two strings have one partner.
--     Partnered xs ys i j   the string at i of xs and the one at j of ys are partners; both counted from 0
use Rattle.base.proofs.Prelude.{ℕ, suc, ◌+◌, ◌-◌, ◌≤◌, ◌<◌, ◌≡◌, refl, sym, ap, ◌∙◌, Bool, true, false, ◌&&◌, List, arith, dec_le, eqb-true, eq-eqb, eqb, length, get_or}
use Rattle.days.specs.Days.{days}
use Rattle.base.specs.Count.{count_of}
use Rattle.base.proofs.Lists.{by_bool, and_left, and_right}
use Rattle.rules.specs.{declared.BatteryString.BatteryString, Plan.no_string}
use Rattle.results.specs.{Places.string_in, Partners.{alike, places_like, likes_ahead, partner}}
use Rattle.results.proofs.Ranks.{rank, places_like_from, ranked, rank-one, rank_below, places_from-past, kept-places}

-- ---- Alike is equal

-- a string is its six numbers
abbrev numbered : ℕ → ℕ → ℕ → ℕ → ℕ → ℕ → BatteryString
numbered t c d x a j = record { t = days t; c = days c; d = days d; x = x; a = days a; j = days j }

all-six : (a b c d e f : Bool) → (a && b && c && d && e && f) ≡ true
    → (a ≡ true) × (b ≡ true) × (c ≡ true) × (d ≡ true) × (e ≡ true) × (f ≡ true)
all-six a b c d e f h =
    let five = and_left (a && b && c && d && e) f h in
    let four = and_left (a && b && c && d) e five in
    let three = and_left (a && b && c) d four in
    let two = and_left (a && b) c three in (
      and_left a b two,
      and_right a b two,
      and_right (a && b) c three,
      and_right (a && b && c) d four,
      and_right (a && b && c && d) e five,
      and_right (a && b && c && d && e) f h,
    )

pub alike_same : (s u : BatteryString) → alike s u ≡ true → s ≡ u
unfolding alike
alike_same s u h =
    let tests =
    all-six (eqb s.t.0 u.t.0) (eqb s.c.0 u.c.0) (eqb s.d.0 u.d.0) (eqb s.x u.x)
    (eqb s.a.0 u.a.0) (eqb s.j.0 u.j.0) h in
    let t : s.t.0 ≡ u.t.0 = eqb-true s.t.0 u.t.0 tests.0 in
    let c : s.c.0 ≡ u.c.0 = eqb-true s.c.0 u.c.0 tests.1 in
    let d : s.d.0 ≡ u.d.0 = eqb-true s.d.0 u.d.0 tests.2 in
    let x : s.x ≡ u.x = eqb-true s.x u.x tests.3 in
    let a : s.a.0 ≡ u.a.0 = eqb-true s.a.0 u.a.0 tests.4 in
    let j : s.j.0 ≡ u.j.0 = eqb-true s.j.0 u.j.0 tests.5 in
    let both : numbered s.t.0 s.c.0 s.d.0 s.x s.a.0 s.j.0
    ≡ numbered u.t.0 u.c.0 u.d.0 u.x u.a.0 u.j.0 =
    rw (t, c, d, x, a, j) in
    both

pub alike_self : (s : BatteryString) → alike s s ≡ true
unfolding alike
alike_self s =
    rw (eq-eqb s.t.0 s.t.0 refl, eq-eqb s.c.0 s.c.0 refl, eq-eqb s.d.0 s.d.0 refl)
    (rw (eq-eqb s.x s.x refl, eq-eqb s.a.0 s.a.0 refl, eq-eqb s.j.0 s.j.0 refl))

pub alike-not : (s u : BatteryString) → (s ≡ u → ⊥) → alike s u ≡ false
alike-not s u other = by_bool (alike s u) (λ t. absurd (other (alike_same s u t))) (λ e. e)

pub like-yes : (s u : BatteryString) → s.t.0 ≡ u.t.0 → s.c.0 ≡ u.c.0 → s.d.0 ≡ u.d.0 → s.x ≡ u.x → s.a.0 ≡ u.a.0
    → s.j.0 ≡ u.j.0 → alike s u ≡ true
unfolding alike
like-yes s u t c d x a j =
    rw (eq-eqb s.t.0 u.t.0 t, eq-eqb s.c.0 u.c.0 c, eq-eqb s.d.0 u.d.0 d)
    (rw (eq-eqb s.x u.x x, eq-eqb s.a.0 u.a.0 a, eq-eqb s.j.0 u.j.0 j))

-- ---- The partner, counted from 0

from_zero : (i : ℕ) → suc i - 1 ≡ i
from_zero i = omega arith

-- those like the string at i
abbrev pub like_at : List BatteryString → ℕ → BatteryString → Bool
like_at xs i = alike (get_or xs i no_string)

pub places_like-from : (s : BatteryString) (ys : List BatteryString) → places_like s ys ≡ places_like_from (alike s) 1 ys
unfolding places_like
places_like-from s ys = kept-places (alike s) (λ j. alike s (string_in ys j)) ys no_string 1 (λ j. shifted j)
  where
    shifted : (j : ℕ) → alike s (string_in ys (1 + j)) ≡ alike s (get_or ys j no_string)
    shifted j =
        let e : 1 + j - 1 ≡ j = omega arith in
        ap (λ k. alike s (get_or ys k no_string)) e

partner-is : (xs ys : List BatteryString) (i : ℕ)
    → partner xs ys (suc i) ≡ get_or (places_like_from (like_at xs i) 1 ys) (rank (like_at xs i) xs i) 0
unfolding partner likes_ahead
partner-is xs ys i =
    rw (from_zero i) (ap (λ places. get_or places (rank (like_at xs i) xs i) 0) (places_like-from (get_or xs i no_string) ys))

pub record Partnered (xs ys : List BatteryString) (i j : ℕ) : Type 0 where
  pub first : i < length xs
  pub second : j < length ys
  pub likes : like_at xs i (get_or ys j no_string) ≡ true
  pub as_many : rank (like_at xs i) ys j ≡ rank (like_at xs i) xs i

module _ (xs ys : List BatteryString) (i : ℕ) where
  -- there is one where enough are alike
  pub partner-there : i < length xs → rank (like_at xs i) xs i < count_of (like_at xs i) ys
      → (j : ℕ) × (partner xs ys (suc i) ≡ suc j) × Partnered xs ys i j
  partner-there inside enough =
      let r = ranked (like_at xs i) ys no_string 1 (rank (like_at xs i) xs i) enough in
      let place : 1 + r.at ≡ suc r.at = omega arith in (
        r.at,
        partner-is xs ys i ∙ r.listed ∙ place,
        record { first = inside; second = r.inside; likes = r.passes; as_many = r.ranks },
      )

  pub partner-none : count_of (like_at xs i) ys ≤ rank (like_at xs i) xs i → partner xs ys (suc i) ≡ 0
  partner-none few = partner-is xs ys i ∙ places_from-past (like_at xs i) ys 1 (rank (like_at xs i) xs i) few

  pub partnered : i < length xs → (partner xs ys (suc i) ≡ 0 → ⊥) → (j : ℕ) × (partner xs ys (suc i) ≡ suc j) × Partnered xs ys i j
  partnered inside some =
      elim (dec_le (count_of (like_at xs i) ys) (rank (like_at xs i) xs i)) [
        | yes few ↦ absurd (some (partner-none few))
        | no enough ↦ partner-there inside (omega arith)
      ]

  -- it is the only one
  pub partner-of : (j : ℕ) → Partnered xs ys i j → partner xs ys (suc i) ≡ suc j
  partner-of j p =
      let enough = rank_below (like_at xs i) ys no_string j p.second p.likes in
      let found = partner-there p.first (omega (arith, p.as_many)) in
      let q = found.2 in
      let same = q.as_many ∙ sym p.as_many in
      found.1 ∙ ap suc (rank-one (like_at xs i) ys no_string found.0 j q.second p.second q.likes p.likes same)

-- a partner's partner
pub partnered-back : (xs ys : List BatteryString) (i j : ℕ) → Partnered xs ys i j → Partnered ys xs j i
partnered-back xs ys i j p =
    let is : get_or xs i no_string ≡ get_or ys j no_string = alike_same _ _ p.likes in
    let test : like_at xs i ≡ like_at ys j = ap alike is in
    record {
      first = p.second;
      second = p.first;
      likes = ap (alike (get_or ys j no_string)) is ∙ alike_self (get_or ys j no_string);
      as_many = ap (λ f. rank f xs i) (sym test) ∙ sym p.as_many ∙ ap (λ f. rank f ys j) test;
    }

-- no two strings have one partner
pub partnered-apart : (xs ys : List BatteryString) (i k j : ℕ) → Partnered xs ys i j → Partnered xs ys k j → i ≡ k
partnered-apart xs ys i k j p q =
    let one : suc i ≡ suc k = sym (partner-of ys xs j i (partnered-back xs ys i j p)) ∙ partner-of ys xs j k (partnered-back xs ys k j q) in
    omega arith
