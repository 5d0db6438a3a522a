-- H is the least common multiple of all T: the numbers that every T divides are the multiples of one number.
--     period s          T of s
--     Done ss h i       h, 1 to 100,000, is the least common multiple of the first i strings
use Rattle.base.proofs.Prelude.{ℕ, ◌+◌, ◌≤◌, ◌<◌, ◌≡◌, refl, sym, ap, ◌∙◌, ◌↔◌, true, false, List, [], ◌∷◌, arith, add-one, dvd_refl, le_of_dvd, length, take, take_all, get_or}
use Rattle.base.specs.{Divisors.divides, Multiples.{lcm, lcm_of, CommonMultiple}}
use Rattle.base.proofs.{Divisors.divides-is, Multiples.{lcm_of-dvd-iff, lcm_of-take, lcm_of-past}}
use Rattle.rules.specs.{declared.BatteryString.BatteryString, declared.Plan.Plan, Plan.{strings_of, no_string, common_multiple, multiple_of}}
use Rattle.base.specs.Count.{every}
use Rattle.faults.specs.Checks.{in_bounds}
use Rattle.base.proofs.Lists.{by_bool, true-not-false}
use Rattle.faults.proofs.Checks.{in_bounds-low, in_bounds-yes, in_bounds-not}
use Rattle.laws.proofs.Lawful.{multiple_of-found, multiple_of-over}
use Rattle.bounds.specs.inner.Capped.{capped}

-- ---- capped

pub capped-in : (bound m : ℕ) → 1 ≤ m → m ≤ bound → capped bound m ≡ m
unfolding capped
capped-in bound m low high = rw (in_bounds-yes 1 m bound low high)

pub capped-out : (bound m : ℕ) → (1 ≤ m → m ≤ bound → ⊥) → capped bound m ≡ bound + 1
unfolding capped
capped-out bound m out = rw (in_bounds-not 1 m bound out)

-- the other way: what a capped number says of the number
capped-whole : (bound m : ℕ) → capped bound m ≤ bound → (1 ≤ m) × (capped bound m ≡ m)
unfolding capped
capped-whole bound m h =
    by_bool (in_bounds 1 m bound) (λ t. (in_bounds-low 1 m bound t, rw t)) (λ e. absurd (omega (arith, rw e at h)))

capped-past : (bound m : ℕ) → bound < capped bound m → 1 ≤ m → m ≤ bound → ⊥
capped-past bound m h low high = omega (arith, capped-in bound m low high)

-- ---- H

abbrev pub period : BatteryString → ℕ
period s = s.t.0

common_multiple-is : (ss : List BatteryString) (k : ℕ) → (common_multiple ss k ≡ true) ↔ CommonMultiple period ss k
unfolding common_multiple every
common_multiple-is [] k = (λ t. tt, λ h. refl)
common_multiple-is (s ∷ ss) k =
    let first = divides-is (period s) k in
    let rest = common_multiple-is ss k in (
      λ t. by_bool (divides (period s) k) (λ d. (first.0 d, rest.0 (rw d at t))) (λ e. absurd (true-not-false (sym t ∙ rw e))),
      λ h. rw (first.1 h.0) (rest.1 h.1),
    )

common_multiple-not : (ss : List BatteryString) (k : ℕ) → (CommonMultiple period ss k → ⊥) → common_multiple ss k ≡ false
common_multiple-not ss k out = by_bool (common_multiple ss k) (λ t. absurd (out ((common_multiple-is ss k).0 t))) (λ e. e)

module _ (p : Plan) where
  -- within the bound H is the least common multiple
  pub multiple_of-lcm : 1 ≤ lcm_of period (strings_of p) → lcm_of period (strings_of p) ≤ 100000 → multiple_of p
      ≡ lcm_of period (strings_of p)
  multiple_of-lcm low high =
      let ss = strings_of p in
      let h = lcm_of period ss in
      multiple_of-found p h low high ((common_multiple-is ss h).1 ((lcm_of-dvd-iff period ss h).0 (dvd_refl h)))
      (λ k some less. common_multiple-not ss k (λ c. omega (arith, le_of_dvd some ((lcm_of-dvd-iff period ss k).1 c))))

  -- and over it as soon as the least common multiple of the first strings is
  pub multiple_of-past : (i : ℕ) → (1 ≤ lcm_of period (take i (strings_of p)) → lcm_of period (take i (strings_of p)) ≤ 100000 → ⊥)
      → multiple_of p ≡ 100001
  multiple_of-past i out =
      multiple_of-over p (λ k low high. common_multiple-not _ k (lcm_of-past period (strings_of p) i 100000 k out low (omega arith)))

-- ---- String after string

pub record Done (ss : List BatteryString) (h i : ℕ) : Type 0 where
  pub within : i ≤ length ss
  pub low : 1 ≤ h
  pub high : h ≤ 100000
  pub least : h ≡ lcm_of period (take i ss)

module _ (ss : List BatteryString) where
  pub done-start : Done ss 1 0
  unfolding lcm_of
  done-start = record { within = omega arith; low = omega arith; high = omega arith; least = refl }

  -- the end: H is found
  pub done_end : (p : Plan) (h i : ℕ) → ss ≡ strings_of p → Done ss h i → length ss ≤ i → h ≡ multiple_of p
  done_end p h i counted d last =
      let is : h ≡ lcm_of period (strings_of p) = d.least ∙ ap (lcm_of period) (take_all i ss last) ∙ ap (lcm_of period) counted in
      is ∙ sym (multiple_of-lcm p (omega (arith, d.low, is)) (omega (arith, d.high, is)))

  -- r is what the next string makes of h
  module _ (h i r : ℕ) (d : Done ss h i) (more : i < length ss) (next : r ≡ capped 100000 (lcm h (period (get_or ss i no_string)))) where
    joined : r ≡ capped 100000 (lcm_of period (take (i + 1) ss))
    joined = next ∙ ap (capped 100000) (rw (d.least, add-one i) (sym (lcm_of-take period ss no_string i more)))

    pub done_next : r ≤ 100000 → Done ss r (i + 1)
    done_next high =
        let whole = capped-whole 100000 (lcm_of period (take (i + 1) ss)) (omega (arith, joined)) in
        record {
          within = omega arith;
          low = omega (arith, joined, whole.0, whole.1);
          high = high;
          least = joined ∙ whole.1;
        }

    pub done-past : (p : Plan) → ss ≡ strings_of p → 100000 < r → r ≡ multiple_of p
    done-past p counted over =
        let out = capped-past 100000 (lcm_of period (take (i + 1) ss)) (omega (arith, joined)) in
        joined ∙ capped-out 100000 _ out ∙ sym (multiple_of-past p (i + 1) (rw (← counted) out))
