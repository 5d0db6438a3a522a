-- What the list asks in all: a day for the job that blocks, and the sharp demand where moving is free. And how many releases it has.
use Rattle.base.proofs.Prelude.{ℕ, ◌+◌, ◌-◌, ◌*◌, ◌≤◌, ◌≡◌, refl, sym, ap, ◌∙◌, cond, false, List, arith, ℕ_discrete, eq-eqb, ne_eqb, eqb, length}
use native.Mathlib.Nat.{mul-one}
use Rattle.rules.specs.{declared.BatteryString.BatteryString, declared.Plan.Plan, declared.Release.Release, Plan.{strings_of, string_at, no_string}, Demand.{jobs, need}}
use Rattle.base.specs.Count.{any, sum_of, up_from, largest}
use Rattle.base.proofs.{Lists.{by_bool, sum_of-eq, all-at, largest-ge}, Order.{all_of, sum_of-zero, all-up_from}, Adding.{sum_of-append, sum_of-length, sum_of-kept, sum_of-flat, sum_of-swap}}
use Rattle.laws.specs.Lawful.{LawfulPlan, LawfulString}
use Rattle.sound.specs.Sharp.{need_but, demand_but}
use Rattle.exact.specs.Missing.{freely, most_late, lead_of, interval_start, blocker_release, delay_of, first_in, comes_in, comes_first, comes_at, release_in, releases_in, others_in, missing}
use Rattle.exact.proofs.{Coming.interval-often, Freely.{delay_of-le, freely-string, freely-many, freely-need, asks_of}}

-- every string's J is at most the largest, and every string is lawful
module _ (p : Plan) (i : ℕ) (low : 1 ≤ i) (high : i ≤ length (strings_of p)) where
  pub late-at : (string_at p i).j.0 ≤ most_late p
  unfolding most_late
  late-at =
      all-at (λ s. s.j.0 ≤ largest (λ r. r.j.0) (strings_of p)) (strings_of p) no_string (largest-ge (λ s. s.j.0) (strings_of p)) (i - 1)
      (omega arith)

  pub lawful-at : LawfulPlan p → LawfulString (string_at p i)
  lawful-at ok = all-at LawfulString (strings_of p) no_string ok.each (i - 1) (omega arith)

-- ---- A sum over the others, place by place

module _ (p : Plan) (head : List Release) (lead b l : ℕ) where
  abbrev places : List ℕ
  places = up_from 1 (length (strings_of p))

  abbrev interval : List ℕ
  interval = up_from lead l

  module _ (f : BatteryString → ℕ) (g : Release → ℕ) (same : (t i : ℕ) → g (release_in p lead b t i) ≡ f (string_at p i)) where
    -- what place i brings on day t
    abbrev brings : ℕ → ℕ → ℕ
    brings t i = cond (comes_at p head lead b l t i) (f (string_at p i)) 0

    -- what it brings in all: nothing where it stands in front
    abbrev whole : ℕ → ℕ
    whole i = cond (comes_first head i) 0 (jobs (string_at p i) (l - delay_of b (string_at p i)) * f (string_at p i))

    day-sum : (t : ℕ) → sum_of g (releases_in p head lead b l t) ≡ sum_of (brings t) places
    unfolding releases_in
    day-sum t =
        sum_of-kept g (release_in p lead b t) (comes_at p head lead b l t) places
        ∙ sum_of-eq (λ i. cond (comes_at p head lead b l t i) (g (release_in p lead b t i)) 0) (brings t) places
        (all_of (λ i. cond (comes_at p head lead b l t i) (g (release_in p lead b t i)) 0 ≡ brings t i)
        (λ i. ap (λ c. cond (comes_at p head lead b l t i) c 0) (same t i)) places)

    module _ (ok : LawfulPlan p) (late : most_late p ≤ lead) (fits : b ≤ l) where
      place-sum : (i : ℕ) → 1 ≤ i → i ≤ length (strings_of p) → sum_of (λ t. brings t i) interval ≡ whole i
      place-sum i low high =
          let s = string_at p i in
          let wait = delay_of b s in
          let w = l - wait in
          let first = first_in lead b s in
          let within = delay_of-le b s in
          let size : wait + w ≡ l = omega arith in
          let end : first + w ≡ lead + l = omega arith in
          by_bool (comes_first head i)
          (λ e. rw e (sum_of-zero (λ t. cond false (f s) 0) interval (all_of (λ t. cond false (f s) 0 ≡ 0) (λ t. refl) interval)))
          (λ e.
          rw e
          (ap (λ n. sum_of (λ t. cond (comes_in first (lead + l) s t) (f s) 0) (up_from lead n)) (sym size)
          ∙ ap (λ m. sum_of (λ t. cond (comes_in first m s t) (f s) 0) (up_from lead (wait + w))) (sym end)
          ∙ interval-often s (lawful-at p i low high ok) first w (omega (arith, late-at p i low high)) (f s) lead wait refl))

      others-sum : sum_of g (others_in p head lead b l) ≡ sum_of whole places
      unfolding others_in
      others-sum =
          sum_of-flat g (releases_in p head lead b l) interval
          ∙ sum_of-eq (λ t. sum_of g (releases_in p head lead b l t)) (λ t. sum_of (brings t) places) interval
          (all_of (λ t. sum_of g (releases_in p head lead b l t) ≡ sum_of (brings t) places) day-sum interval)
          ∙ sum_of-swap brings interval places
          ∙ sum_of-eq (λ i. sum_of (λ t. brings t i) interval) whole places
          (all-up_from (λ i. sum_of (λ t. brings t i) interval ≡ whole i) 1 (length (strings_of p))
          (λ i low high. place-sum i low (omega arith)))

-- ---- The one that blocks

module _ (p : Plan) (b q : ℕ) where
  blocker-needs : sum_of (λ r. r.need.0) (blocker_release p b q) ≡ lead_of b + b
  unfolding blocker_release sum_of
  blocker-needs =
      elim (ℕ_discrete b 0) [ yes e ↦ rw (eq-eqb b 0 e) (omega arith) | no e ↦ rw (ne_eqb b 0 e) (omega arith) ]

  blocker-count : sum_of (λ r. 1) (blocker_release p b q) ≡ lead_of b
  unfolding blocker_release sum_of
  blocker-count =
      elim (ℕ_discrete b 0) [ yes e ↦ rw (eq-eqb b 0 e) (omega arith) | no e ↦ rw (ne_eqb b 0 e) (omega arith) ]

  -- it alone stands in front
  pub blocker-first : (i : ℕ) → 1 ≤ i → (b ≡ 0 → q ≡ 0) → comes_first (blocker_release p b q) i ≡ eqb i q
  unfolding comes_first any blocker_release
  blocker-first i low nobody =
      elim (ℕ_discrete b 0) [
        | yes e ↦
            let other : i ≡ q → ⊥ = λ same. omega (arith, nobody e) in
            rw (eq-eqb b 0 e, ne_eqb i q other)
        | no e ↦ rw (ne_eqb b 0 e) (by_bool (eqb i q) (λ t. rw t) (λ f. rw f))
      ]

-- ---- The sharp demand with free moving

module _ (p : Plan) (l b q : ℕ) where
  pub free-but : demand_but (freely p) l b q
      ≡ b + sum_of (λ i. cond (eqb i q) 0 (asks_of l b (string_at p i))) (up_from 1 (length (strings_of p)))
  unfolding demand_but need_but
  free-but =
      let places = up_from 1 (length (strings_of p)) in
      ap (λ n. b + sum_of (need_but (freely p) l b q) (up_from 1 n)) (freely-many p)
      ∙ ap (λ n. b + n)
      (sum_of-eq (need_but (freely p) l b q) (λ i. cond (eqb i q) 0 (asks_of l b (string_at p i))) places
      (all_of (λ i. need_but (freely p) l b q i ≡ cond (eqb i q) 0 (asks_of l b (string_at p i)))
      (λ i. ap (λ n. cond (eqb i q) 0 n) (ap (need (freely p) l b) (freely-string p i) ∙ freely-need (freely p) l b (string_at p i)))
      places))

-- ---- The list

module _ (p : Plan) (l b q : ℕ) (ok : LawfulPlan p) (fits : b ≤ l) (nobody : b ≡ 0 → q ≡ 0) where
  abbrev all-places : List ℕ
  all-places = up_from 1 (length (strings_of p))

  -- a sum over the list, string by string but for the one that blocks
  list-sum : (f : BatteryString → ℕ) (g : Release → ℕ) → ((t i : ℕ) → g (release_in p (interval_start p b) b t i) ≡ f (string_at p i))
      → sum_of g (missing p l b q)
      ≡ sum_of g (blocker_release p b q)
      + sum_of (λ i. cond (eqb i q) 0 (jobs (string_at p i) (l - delay_of b (string_at p i)) * f (string_at p i))) all-places
  unfolding missing
  list-sum f g same =
      let count : ℕ → ℕ = λ i. jobs (string_at p i) (l - delay_of b (string_at p i)) * f (string_at p i) in
      let head = blocker_release p b q in
      let others = others-sum p head (interval_start p b) b l f g same ok (omega arith) fits in
      let named-all =
      sum_of-eq (λ i. cond (comes_first head i) 0 (count i)) (λ i. cond (eqb i q) 0 (count i)) all-places
      (all-up_from (λ i. cond (comes_first head i) 0 (count i) ≡ cond (eqb i q) 0 (count i)) 1 (length (strings_of p))
      (λ i low high. ap (λ e. cond e 0 (count i)) (blocker-first p b q i low nobody))) in
      sum_of-append g head (others_in p head (interval_start p b) b l) ∙ ap (λ n. sum_of g head + n) (others ∙ named-all)

  -- the work of all its jobs
  pub list-needs : sum_of (λ r. r.need.0) (missing p l b q) ≡ lead_of b + demand_but (freely p) l b q
  list-needs =
      let whole = list-sum (λ s. s.c.0) (λ r. r.need.0) (λ t i. refl) in
      omega (arith, blocker-needs p b q, free-but p l b q)

  -- how many they are
  pub list_length : length (missing p l b q)
      ≡ lead_of b + sum_of (λ i. cond (eqb i q) 0 (jobs (string_at p i) (l - delay_of b (string_at p i)))) all-places
  list_length =
      let count : ℕ → ℕ = λ i. jobs (string_at p i) (l - delay_of b (string_at p i)) in
      let whole = list-sum (λ s. 1) (λ r. 1) (λ t i. refl) in
      let ones =
      sum_of-eq (λ i. cond (eqb i q) 0 (count i * 1)) (λ i. cond (eqb i q) 0 (count i)) all-places
      (all_of (λ i. cond (eqb i q) 0 (count i * 1) ≡ cond (eqb i q) 0 (count i)) (λ i. ap (λ n. cond (eqb i q) 0 n) (mul-one (count i)))
      all-places) in
      omega (arith, blocker-count p b q, sum_of-length (missing p l b q))
