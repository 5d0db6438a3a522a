-- Walks over the places of a plan, and over its strings, whose places count from 1.
--     from k n              the places from k on, of n
use Rattle.base.proofs.Prelude.{ℕ, suc, ◌+◌, ◌-◌, ◌≤◌, ◌<◌, max, ◌≡◌, sym, ap, ◌∙◌, List, [], ◌∷◌, arith, add-one, length, get_or, drop, drop-cons, drop_of_length-le}
use Rattle.base.specs.Count.{up_from, largest}
use Rattle.rules.specs.{declared.BatteryString.BatteryString, declared.Plan.Plan, Plan.{strings_of, string_at, no_string}}
use Rattle.base.proofs.{Lists.all-at, Order.up_from-cons}
use Rattle.laws.proofs.Lawful.{PlanString, plan-strings}
use Rattle.verdict.specs.inner.Asked.{Ready}
use Rattle.verdict.proofs.StringSums.{strings-count}

abbrev pub from : ℕ → ℕ → List ℕ
from k n = up_from k (n + 1 - k)

pub from-all : (n : ℕ) → from 1 n ≡ up_from 1 n
from-all n =
    let every : n + 1 - 1 ≡ n = omega arith in
    ap (up_from 1) every

module _ (k n : ℕ) where
  pub from_next : k < n + 1 → from k n ≡ k ∷ from (k + 1) n
  from_next h =
      let left : n + 1 - k ≡ suc (n + 1 - (k + 1)) = omega arith in
      ap (up_from k) left ∙ up_from-cons k (n + 1 - (k + 1)) ∙ rw (add-one k)

  pub from-end : n + 1 ≤ k → from k n ≡ []
  unfolding up_from
  from-end h =
      let none_left : n + 1 - k ≡ 0 = omega arith in
      rw none_left

-- the strings of a plan, as a loop has them
module _ {p : Plan} (ready : Ready p) {ss : List BatteryString} (counted : ss ≡ strings_of p) where
  pub many-strings : length ss ≡ p.n
  many-strings = ap length counted ∙ strings-count p ready

  module _ (i : ℕ) where
    pub string-here : string_at p (i + 1) ≡ get_or ss i no_string
    string-here =
        let here : i + 1 - 1 ≡ i = omega arith in
        ap (λ j. get_or (strings_of p) j no_string) here ∙ ap (λ xs. get_or xs i no_string) (sym counted)

    pub lawful-here : i < length ss → PlanString p (get_or ss i no_string)
    lawful-here h =
        rw counted (all-at (PlanString p) (strings_of p) no_string (plan-strings p ready.lawful) i (rw counted at h))

-- ---- The largest of the strings, the first i of them done

pub record Most (f : BatteryString → ℕ) (ss : List BatteryString) (i most : ℕ) : Type 0 where
  pub whole : max most (largest f (drop i ss)) ≡ largest f ss

module _ {f : BatteryString → ℕ} {ss : List BatteryString} where
  pub most_start : Most f ss 0 0
  most_start = record { whole = omega arith }

  module _ {i most : ℕ} (m : Most f ss i most) where
    pub most-next : i < length ss → (next : ℕ) → next ≡ max (f (get_or ss i no_string)) most → Most f ss (i + 1) next
    unfolding largest
    most-next h next is =
        let left : largest f (drop i ss) ≡ max (f (get_or ss i no_string)) (largest f (drop (i + 1) ss)) =
        ap (largest f) (drop-cons ss i no_string h) ∙ rw (add-one i) in
        record { whole = omega (arith, m.whole) }

    pub most-end : length ss ≤ i → most ≡ largest f ss
    unfolding largest
    most-end h =
        let none_left = ap (largest f) (drop_of_length-le ss h) in
        omega (arith, m.whole)
