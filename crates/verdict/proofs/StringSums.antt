-- Laws for loops over the strings of a plan that is ready: each is lawful, and a sum or an extreme from a place on takes the string there
-- and those after it.
use Rattle.base.proofs.Prelude.{ℕ, ◌+◌, ◌≤◌, ◌<◌, min, max, ◌≡◌, refl, sym, ap, ◌∙◌, List, ◌∷◌, arith, add-one, length, drop, get_or, length-take-le, get_or-take, drop-cons, drop_of_length-le}
use Rattle.rules.specs.{declared.BatteryString.BatteryString, declared.Plan.Plan, Plan.{strings_of, no_string}}
use Rattle.base.specs.Count.{sum_of, largest, smallest, smallest_with}
use Rattle.base.proofs.{FirstN.part-cons, Lists.all-at}
use Rattle.laws.proofs.Lawful.{PlanString, plan-strings}
use Rattle.verdict.specs.inner.Asked.{Ready}

-- ---- The strings as the code walks over them

module _ (p : Plan) (ready : Ready p) where
  pub strings-count : length (strings_of p) ≡ p.n
  strings-count =
      let few = ready.lawful.n_max in
      let ten = ready.ten in
      length-take-le p.n p.strings (omega arith)

  pub string-at : (i : ℕ) → i < p.n → PlanString p (get_or p.strings i no_string)
  string-at i h =
      let inside : i < length (strings_of p) = omega (arith, strings-count) in
      let there = all-at (PlanString p) (strings_of p) no_string (plan-strings p ready.lawful) i inside in
      rw (get_or-take p.n p.strings i no_string h) at there

  module _ (ss : List BatteryString) (all : ss ≡ strings_of p) where
    pub walk-few : length ss ≤ 10
    walk-few = omega (arith, ap length all, strings-count, ready.lawful.n_max)

    pub walk-count : length ss ≡ p.n
    walk-count = ap length all ∙ strings-count

    -- the one at a place is lawful
    pub walk-string : (i : ℕ) → i < length ss → PlanString p (get_or ss i no_string)
    walk-string i h =
        let inside : i < length (strings_of p) = omega (arith, ap length all) in
        let there = all-at (PlanString p) (strings_of p) no_string (plan-strings p ready.lawful) i inside in
        rw (← all) at there

    -- and stands at that place of the plan
    pub walk-same : (i : ℕ) → i < length ss → get_or p.strings i no_string ≡ get_or ss i no_string
    walk-same i h =
        let inside : i < p.n = omega (arith, walk-count) in
        sym (ap (λ ts. get_or ts i no_string) all ∙ get_or-take p.n p.strings i no_string inside)

-- ---- From a place on

module _ (ss : List BatteryString) (i : ℕ) where
  here : i < length ss → drop i ss ≡ get_or ss i no_string ∷ drop (i + 1) ss
  here h = rw (add-one) (drop-cons ss i no_string h)

  pub sum-here : (f : BatteryString → ℕ) → i < length ss
      → sum_of f (drop i ss) ≡ f (get_or ss i no_string) + sum_of f (drop (i + 1) ss)
  unfolding sum_of
  sum-here f h = rw (here h)

  pub sum-done : (f : BatteryString → ℕ) → length ss ≤ i → sum_of f (drop i ss) ≡ 0
  unfolding sum_of
  sum-done f h = rw (drop_of_length-le ss h)

  pub largest-here : (f : BatteryString → ℕ) → i < length ss
      → largest f (drop i ss) ≡ max (f (get_or ss i no_string)) (largest f (drop (i + 1) ss))
  unfolding largest
  largest-here f h = rw (here h)

  pub largest-done : (f : BatteryString → ℕ) → length ss ≤ i → largest f (drop i ss) ≡ 0
  unfolding largest
  largest-done f h = rw (drop_of_length-le ss h)

  pub smallest-here : (f : BatteryString → ℕ) (m : ℕ) → i < length ss
      → smallest_with f m (drop i ss) ≡ min (f (get_or ss i no_string)) (smallest_with f m (drop (i + 1) ss))
  unfolding smallest_with
  smallest-here f m h = rw (here h)

  pub smallest-done : (f : BatteryString → ℕ) (m : ℕ) → length ss ≤ i → smallest_with f m (drop i ss) ≡ m
  unfolding smallest_with
  smallest-done f m h = rw (drop_of_length-le ss h)

-- the same of the strings as they stand in the plan
module _ (p : Plan) (ready : Ready p) (i : ℕ) (inside : i < p.n) where
  there : i < length (strings_of p)
  there = omega (arith, strings-count p ready)

  pub sum-at : (f : BatteryString → ℕ)
      → sum_of f (drop i (strings_of p)) ≡ f (get_or p.strings i no_string) + sum_of f (drop (i + 1) (strings_of p))
  sum-at f = rw (walk-same p ready (strings_of p) refl i there) (sum-here (strings_of p) i f there)

  pub smallest-at : (f : BatteryString → ℕ) (m : ℕ)
      → smallest_with f m (drop i (strings_of p)) ≡ min (f (get_or p.strings i no_string)) (smallest_with f m (drop (i + 1) (strings_of p)))
  smallest-at f m = rw (walk-same p ready (strings_of p) refl i there) (smallest-here (strings_of p) i f m there)

-- a smallest starts from the first
pub smallest-start :
    (p : Plan) → Ready p → (f : BatteryString → ℕ)
    → smallest f (strings_of p) ≡ smallest_with f (f (get_or p.strings 0 no_string)) (drop 1 (strings_of p))
unfolding smallest
smallest-start p ready f =
    ap (smallest f) (part-cons p.n 0 p.strings no_string (omega (arith, ready.lawful.n_pos)) (omega (arith, ready.lawful.n_max, ready.ten)))
