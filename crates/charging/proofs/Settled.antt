-- The payable plan is the end of it: each of its strings that has a moving cost is chargeable, and one more round changes no string. A
-- round that changes a string leaves one payer less, and a plan has at most n.
--     FreeElsewhere p       the plan is settled, by index
--     payers p              how many strings of p have a moving cost
use Rattle.base.proofs.Prelude.{ℕ, zero, suc, ◌-◌, ◌≤◌, ◌<◌, min, ◌≡◌, sym, ap, ◌∙◌, false, arith, dec_le, fun_ext, length, length-take, get_or-eq_default}
use Rattle.days.specs.Days.{days}
use Rattle.rules.specs.{declared.BatteryString.BatteryString, declared.Plan.Plan, Plan.{strings_of, string_at, no_string}, Demand.{moving_cost, hold_of}}
use Rattle.base.proofs.{Lists.by_bool, Sums.{sum_to, sum_to-less}}
use Rattle.laws.proofs.ReleaseList.{str}
use Rattle.exact.specs.Missing.{moved_freely}
use Rattle.charging.specs.Payable.{can_lose, chargeable, uncharged, rounds, payable, Settled}
use Rattle.charging.proofs.Uncharged.{uncharged-length, uncharged-kept, uncharged-freed}

abbrev FreeElsewhere : Plan → Type 0
FreeElsewhere p = (j : ℕ) → chargeable p (suc j) ≡ false → moving_cost p (str p j) ≡ 0

-- ---- A round that changes nothing

module _ (p q : Plan) (same : (j : ℕ) → str q j ≡ str p j) (sized : length (strings_of q) ≡ length (strings_of p)) where
  can_lose-same : (i j : ℕ) → can_lose q i j ≡ can_lose p i j
  unfolding can_lose hold_of moving_cost
  can_lose-same i j = rw (same (i - 1), same (j - 1))

  chargeable-same : (i : ℕ) → chargeable q i ≡ chargeable p i
  unfolding chargeable
  chargeable-same i = rw (same (i - 1), sized, fun_ext (can_lose-same i))

module _ (p : Plan) (settled : FreeElsewhere p) where
  free-already : (s : BatteryString) → s.a.0 ≡ 0 → moved_freely s ≡ s
  free-already s z = ap (λ a. record { t = s.t; c = s.c; d = s.d; x = s.x; a = days a; j = s.j }) (sym z)

  settled_same : (j : ℕ) → str (uncharged p) j ≡ str p j
  unfolding moving_cost
  settled_same j =
      by_bool (chargeable p (suc j))
      (λ t. uncharged-kept p j t)
      (λ f. uncharged-freed p j f ∙ free-already (str p j) (settled j f))

  settled-stays : FreeElsewhere (uncharged p)
  unfolding moving_cost
  settled-stays j f =
      let before = chargeable-same p (uncharged p) settled_same (uncharged-length p) (suc j) in
      ap (λ s. s.a.0) (settled_same j) ∙ settled j (sym before ∙ f)

rounds-settled : (k : ℕ) (p : Plan) → FreeElsewhere p → FreeElsewhere (rounds k p)
unfolding rounds
rounds-settled zero p settled = settled
rounds-settled (suc k) p settled = rounds-settled k (uncharged p) (settled-stays p settled)

-- ---- A round that changes a string

payers : Plan → ℕ
payers p = sum_to (length (strings_of p)) (λ j. min 1 (moving_cost p (str p j)))

at_most : (n : ℕ) (f : ℕ → ℕ) → sum_to n (λ j. min 1 (f j)) ≤ n
unfolding sum_to
at_most zero f = omega arith
at_most (suc n) f =
    let before = at_most n f in
    omega arith

-- who has a cost has a place
payer-there : (p : Plan) (j : ℕ) → 1 ≤ moving_cost p (str p j) → j < length (strings_of p)
unfolding moving_cost
payer-there p j some =
    elim (dec_le (suc j) (length (strings_of p))) [
      | yes there ↦ there
      | no away ↦
          let none : str p j ≡ no_string = get_or-eq_default (strings_of p) no_string (omega arith) in
          absurd (omega (arith, ap (λ s. s.a.0) none))
    ]

module _ (p : Plan) where
  round-cost : (j : ℕ) → moving_cost (uncharged p) (str (uncharged p) j) ≤ moving_cost p (str p j)
  unfolding moving_cost
  round-cost j =
      by_bool (chargeable p (suc j)) (λ t. rw (uncharged-kept p j t) (omega arith)) (λ f. rw (uncharged-freed p j f) (omega arith))

  one_less : (j : ℕ) → chargeable p (suc j) ≡ false → 1 ≤ moving_cost p (str p j) → payers (uncharged p) < payers p
  unfolding payers moving_cost
  one_less j f some =
      let gone : (str (uncharged p) j).a.0 ≡ 0 = ap (λ s. s.a.0) (uncharged-freed p j f) in
      rw (uncharged-length p)
      (sum_to-less (length (strings_of p)) (λ i. min 1 (str (uncharged p) i).a.0) (λ i. min 1 (str p i).a.0) j (payer-there p j some)
      (λ i h. omega (arith, round-cost i)) (omega arith))

  -- so where none is less the plan is settled
  kept-settled : payers p ≤ payers (uncharged p) → FreeElsewhere p
  kept-settled no_less j f =
      elim (dec_le 1 (moving_cost p (str p j))) [ yes some ↦ absurd (omega (arith, one_less j f some)) | no none ↦ omega arith ]

settles : (m : ℕ) (p : Plan) → payers p ≤ m → FreeElsewhere (rounds m p)
unfolding rounds
settles zero p few = kept-settled p (omega arith)
settles (suc m) p few =
    elim (dec_le (payers (uncharged p)) m) [
      | yes fewer ↦ settles m (uncharged p) fewer
      | no not ↦ rounds-settled m (uncharged p) (settled-stays p (kept-settled p (omega arith)))
    ]

-- ---- The payable plan

module _ (p : Plan) where
  free-elsewhere : FreeElsewhere (payable p)
  unfolding payable payers
  free-elsewhere =
      settles p.n p
      (omega (arith, at_most (length (strings_of p)) (λ j. moving_cost p (str p j)), length-take p.n p.strings))

  -- what is left of moving costs can be charged
  pub payable-settled : Settled (payable p)
  payable-settled i low f =
      let place : suc (i - 1) ≡ i = omega arith in
      free-elsewhere (i - 1) (ap (chargeable (payable p)) place ∙ f)

  -- and one more round changes no string
  pub payable-again : (i : ℕ) → string_at (uncharged (payable p)) i ≡ string_at (payable p) i
  payable-again i = settled_same (payable p) free-elsewhere (i - 1)
