-- Another order of the strings, said by their places (document 02, W-209).
--     string_in ss i         the string at place i of ss, from 1
--     Place ss i            i is a place of ss
--     AnotherOrder xs ys    ys are the strings of xs in another order: `to` says at which place of ys the string at a place of xs stands,
--                           `from` says it the other way, and each undoes the other: a bijection of the places
--     InAnotherOrder p q    the plan q has the strings of p in another order, each with its own permission; N is each plan's own
--     place_given ps i       the i-th of a list of places, from 1
--     TakesTo xs ys ps      the same order as a list: the i-th of ps is a place of ys, its own, at which the string at place i of xs stands
--     SmallestTo xs ys ps   ps is the smallest such list: where another first differs from it, the other has the larger place
use Rattle.std.specs.Prelude.{ℕ, ◌-◌, ◌≤◌, ◌<◌, ◌≡◌, List, length, get_or}
use Rattle.rules.specs.declared.BatteryString.{BatteryString}
use Rattle.rules.specs.declared.Plan.{Plan}
use Rattle.rules.specs.Plan.{strings_of, no_string}

abbrev pub string_in : List BatteryString → ℕ → BatteryString
string_in ss i = get_or ss (i - 1) no_string

abbrev pub Place : List BatteryString → ℕ → Type 0
Place ss i = (1 ≤ i) × (i ≤ length ss)

pub record AnotherOrder (xs ys : List BatteryString) : Type 0 where
  pub as_many : length ys ≡ length xs
  pub to : ℕ → ℕ
  pub from : ℕ → ℕ
  pub to_place : (i : ℕ) → Place xs i → Place ys (to i)
  pub from_place : (j : ℕ) → Place ys j → Place xs (from j)
  pub there_and_back : (i : ℕ) → Place xs i → from (to i) ≡ i
  pub back_and_there : (j : ℕ) → Place ys j → to (from j) ≡ j
  pub same_string : (i : ℕ) → Place xs i → string_in ys (to i) ≡ string_in xs i

pub record InAnotherOrder (p q : Plan) : Type 0 where
  pub same_n : q.n ≡ p.n
  pub strings : AnotherOrder (strings_of p) (strings_of q)

-- ---- As a list

abbrev pub place_given : List ℕ → ℕ → ℕ
place_given ps i = get_or ps (i - 1) 0

pub record TakesTo (xs ys : List BatteryString) (ps : List ℕ) : Type 0 where
  pub as_many : length ys ≡ length xs
  pub by_place : length ps ≡ length xs
  pub in_place : (i : ℕ) → Place xs i → Place ys (place_given ps i)
  pub of_its_own : (i j : ℕ) → Place xs i → Place xs j → place_given ps i ≡ place_given ps j → i ≡ j
  pub same_string : (i : ℕ) → Place xs i → string_in ys (place_given ps i) ≡ string_in xs i

pub record SmallestTo (xs ys : List BatteryString) (ps : List ℕ) : Type 0 where
  pub takes : TakesTo xs ys ps
  pub smallest : (qs : List ℕ) → TakesTo xs ys qs → (i : ℕ) → Place xs i
      → ((j : ℕ) → Place xs j → j < i → place_given qs j ≡ place_given ps j) → place_given ps i ≤ place_given qs i
