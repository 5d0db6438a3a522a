-- Among the lawful values of a number all behind one with which the plan passes do, where easing never hurts; so that halving finds the
-- limit. Where it may, the first found by trying one after the other is the limit.
--     TriedTo p i x list at   with none of the values before place `at` does the plan pass
use Rattle.base.proofs.Prelude.{ℕ, ◌+◌, ◌-◌, ◌≤◌, ◌<◌, ◌≡◌, sym, ap, ◌∙◌, Bool, true, false, List, arith, ℕ_discrete, length, get_or, take, length-take-le, get_or-take}
use Rattle.std.specs.Prelude.{Some, None}
use Rattle.base.specs.Count.{All, up_from, first_of}
use Rattle.base.proofs.{Lists.{all-at}, Order.{Rising, rising-mapped, rising-within, rising-up_from, rising-keep, all-up_from, all_keep, all_of}}
use Rattle.rules.specs.{declared.Plan.Plan, Plan.no_string}
use Rattle.slack.specs.{declared.Letter.Letter, Slack.{value_at, hardest_first, passes_with, limit_from}, Beyond.{Harder, gapless}, inner.Values.{lawful_with, lawful_values, HoldsValues}}
use Rattle.slack.proofs.{ByHalves.{first_of-place, first_of-nowhere, Upward, Between, between_start, between_lower, between-upper, between-found, between_none, rising-places}, Easier.{lawful-with, passes-rule, rule-passes, easier-passes}}
use Rattle.slack.specs.declared.Letter.TheVariants as letter

harder-first : (x : Letter) (j k : ℕ) → j < 1001 → k < 1001 → j < k → Harder x (value_at x j) (value_at x k)
harder-first letter.C j k low high h = omega arith
harder-first letter.D j k low high h = h
harder-first letter.T j k low high h = h
harder-first letter.A j k low high h = omega arith
harder-first letter.J j k low high h = omega arith

pub hardest-rising : (x : Letter) → Rising (Harder x) (hardest_first x)
unfolding hardest_first
hardest-rising x =
    rising-mapped (Harder x) (value_at x) (up_from 0 1001)
    (rising-within (λ k. k < 1001) ◌<◌ (λ j k. Harder x (value_at x j) (value_at x k)) (harder-first x) (up_from 0 1001)
    (all-up_from (λ k. k < 1001) 0 1001 (λ k low high. omega arith)) (rising-up_from 0 1001))

module _ (p : Plan) (i : ℕ) (x : Letter) where
  values-rising : Rising (Harder x) (lawful_values p i x)
  unfolding lawful_values
  values-rising = rising-keep (Harder x) (lawful_with p i x) (hardest_first x) (hardest-rising x)

  values-lawful : All (λ v. lawful_with p i x v ≡ true) (lawful_values p i x)
  unfolding lawful_values
  values-lawful =
      all_keep (λ v. lawful_with p i x v ≡ true) (lawful_with p i x) (hardest_first x)
      (all_of (λ v. lawful_with p i x v ≡ true → lawful_with p i x v ≡ true) (λ v h. h) (hardest_first x))

  module _ (low : 1 ≤ i) (high : i ≤ p.n) (room : p.n ≤ length p.strings)
      (no_gaps : gapless x (get_or p.strings (i - 1) no_string) ≡ true) where
    value-upward : (v w : ℕ) → Harder x v w → lawful_with p i x w ≡ true → passes_with p i x v ≡ true → passes_with p i x w ≡ true
    value-upward v w easier lawful passes =
        let hard = passes-rule p i x v passes in
        let easy = lawful-with p i x w lawful in
        rule-passes p i x w easy (easier-passes p i x low high room no_gaps v w easier hard.0 easy hard.1)

    values-upward : Upward (passes_with p i x) (lawful_values p i x)
    values-upward j k order inside passes =
        elim (ℕ_discrete j k) [
          | yes same ↦ ap (λ m. passes_with p i x (get_or (lawful_values p i x) m 0)) (sym same) ∙ passes
          | no other ↦
              value-upward _ _ (rising-places (Harder x) (lawful_values p i x) values-rising j k (omega arith) inside)
              (all-at (λ v. lawful_with p i x v ≡ true) (lawful_values p i x) 0 values-lawful k inside) passes
        ]

    pub listed-upward : (count : ℕ) (list : List ℕ) → HoldsValues p i x count list → Upward (passes_with p i x) (take count list)
    listed-upward count list listed = rw listed.held values-upward

  module _ (count : ℕ) (list : List ℕ) (listed : HoldsValues p i x count list) where
    count-is : length (take count list) ≡ count
    count-is = length-take-le count list listed.room

    value-is : (k : ℕ) → k < count → get_or (take count list) k 0 ≡ get_or list k 0
    value-is k h = get_or-take count list k 0 h

    pub listed_start : Between (passes_with p i x) (take count list) 0 count
    listed_start = between_start (passes_with p i x) (take count list) count (sym count-is)

    -- ---- Halved

    -- the value at a place was tried
    at_place : (k : ℕ) → k < count → (r b : Bool) → r ≡ passes_with p i x (get_or list k 0) → r ≡ b
        → passes_with p i x (get_or (take count list) k 0) ≡ b
    at_place k inside r b asked is = ap (passes_with p i x) (value-is k inside) ∙ sym asked ∙ is

    module _ (first : 1 ≤ i) (last : i ≤ p.n) (room : p.n ≤ length p.strings)
        (no_gaps : gapless x (get_or p.strings (i - 1) no_string) ≡ true)
        (low high k : ℕ) (so : Between (passes_with p i x) (take count list) low high) (from : low ≤ k) (below : k < high)
        (r : Bool) (asked : r ≡ passes_with p i x (get_or list k 0)) where
      up : Upward (passes_with p i x) (take count list)
      up = listed-upward first last room no_gaps count list listed

      inside : k < count
      inside = omega (arith, so.inside, count-is)

      pub halved-lower : r ≡ true → Between (passes_with p i x) (take count list) low k
      halved-lower is =
          between_lower (passes_with p i x) (take count list) up low high k so from below (at_place k inside r true asked is)

      pub halved-upper : r ≡ false → Between (passes_with p i x) (take count list) (k + 1) high
      halved-upper is =
          between-upper (passes_with p i x) (take count list) up low high k so from below (at_place k inside r false asked is)

    -- places below `high` are places of the list
    pub halved-within : (low high : ℕ) → Between (passes_with p i x) (take count list) low high → high ≤ count
    halved-within low high so = omega (arith, so.inside, count-is)

    module _ (low high : ℕ) (so : Between (passes_with p i x) (take count list) low high) (met : high ≤ low) where
      pub halved-found : low < count → Some (get_or list low 0) ≡ limit_from (first_of (passes_with p i x) (lawful_values p i x))
      halved-found inside =
          ap Some (sym (value-is low inside))
          ∙ ap limit_from (sym (between-found (passes_with p i x) (take count list) low high so met (omega (arith, count-is))))
          ∙ ap (λ values. limit_from (first_of (passes_with p i x) values)) listed.held

      pub halved_none : count ≤ low → None ≡ limit_from (first_of (passes_with p i x) (lawful_values p i x))
      halved_none past =
          ap limit_from (sym (between_none (passes_with p i x) (take count list) low high so met (omega (arith, count-is))))
          ∙ ap (λ values. limit_from (first_of (passes_with p i x) values)) listed.held

    -- ---- TriedTo one after the other

    abbrev pub TriedTo : ℕ → Type 0
    TriedTo at = (j : ℕ) → j < at → passes_with p i x (get_or list j 0) ≡ false

    module _ (at : ℕ) (tried : TriedTo at) where
      pub tried-found : at < count → passes_with p i x (get_or list at 0) ≡ true
          → Some (get_or list at 0) ≡ limit_from (first_of (passes_with p i x) (lawful_values p i x))
      tried-found inside passes =
          let fails : (j : ℕ) → j < at → passes_with p i x (get_or (take count list) j 0) ≡ false =
          λ j before. ap (passes_with p i x) (value-is j (omega arith)) ∙ tried j before in
          let here = value-is at inside in
          ap Some (sym here)
          ∙ ap limit_from
          (sym
          (first_of-place (passes_with p i x) (take count list) at (omega (arith, count-is)) fails (ap (passes_with p i x) here ∙ passes)))
          ∙ ap (λ values. limit_from (first_of (passes_with p i x) values)) listed.held

      pub tried-more : passes_with p i x (get_or list at 0) ≡ false → TriedTo (at + 1)
      tried-more fails j before =
          elim (ℕ_discrete j at) [
            | yes same ↦ ap (λ k. passes_with p i x (get_or list k 0)) same ∙ fails
            | no other ↦ tried j (omega arith)
          ]

      pub tried-none : count ≤ at → None ≡ limit_from (first_of (passes_with p i x) (lawful_values p i x))
      tried-none past =
          let none = first_of-nowhere (passes_with p i x) (take count list)
          (λ j inside. ap (passes_with p i x) (value-is j (omega (arith, count-is))) ∙ tried j (omega (arith, count-is))) in
          ap limit_from (sym none) ∙ ap (λ values. limit_from (first_of (passes_with p i x) values)) listed.held
