-- A count grows at a pair exactly if the demand there is larger than at the interval before, with the same blocking.
use Rattle.base.proofs.Prelude.{ℕ, zero, suc, ◌-◌, ◌*◌, ◌≤◌, ◌<◌, ◌≡◌, true, false, arith, mul-le-mul, le_refl, suc-mul, ltb-true, ltb}
use Rattle.rules.specs.{declared.BatteryString.BatteryString, declared.Plan.Plan, Plan.strings_of, Demand.{hold_of, need, demand}}
use Rattle.base.proofs.Lists.{All, by_bool, all_map, sum_of-less}
use Rattle.laws.proofs.{Lawful.LawfulString, Demand.hold_of-work}
use Rattle.demand.proofs.Pairs.{pair}
use Rattle.demand.specs.Quick.{count_at, grows}
use Rattle.demand.proofs.Counts.{need-counted, count_at-mono, demand-still}

module _ (p : Plan) (each : All LawfulString (strings_of p)) where
  -- every job holds the bank for a day at least
  asked-more :
      (l b : ℕ) (s : BatteryString) → LawfulString s → count_at s l b < count_at s (suc l) b → need p l b s < need p (suc l) b s
  asked-more l b s lawful more =
      let jobs : suc (count_at s l b) * hold_of p s ≤ count_at s (suc l) b * hold_of p s = mul-le-mul more (le_refl (hold_of p s)) in
      let work = lawful.c_pos in
      omega (
        arith,
        need-counted p s l b lawful,
        need-counted p s (suc l) b lawful,
        suc-mul (count_at s l b) (hold_of p s),
        hold_of-work p s,
      )

  asked-no-less : (l b : ℕ) (s : BatteryString) → LawfulString s → need p l b s ≤ need p (suc l) b s
  asked-no-less l b s lawful =
      let jobs : count_at s l b * hold_of p s ≤ count_at s (suc l) b * hold_of p s =
      mul-le-mul (count_at-mono s l (suc l) b lawful (omega arith)) (le_refl (hold_of p s)) in
      omega (arith, need-counted p s l b lawful, need-counted p s (suc l) b lawful)

  demand-grows : (l b : ℕ) → grows p (pair (suc l) b) ≡ true → demand p l b < demand p (suc l) b
  unfolding demand grows
  demand-grows l b some =
      let less = sum_of-less (need p l b) (need p (suc l) b) (λ s. ltb (count_at s (suc l - 1) b) (count_at s (suc l) b)) (strings_of p)
      (all_map LawfulString (λ s. need p l b s ≤ need p (suc l) b s) (asked-no-less l b) (strings_of p) each)
      (all_map LawfulString (λ s. ltb (count_at s (suc l - 1) b) (count_at s (suc l) b) ≡ true → need p l b s < need p (suc l) b s) grown
      (strings_of p) each) some in
      omega arith
    where
      before : suc l - 1 ≡ l
      before = omega arith

      grown :
          (s : BatteryString) → LawfulString s → ltb (count_at s (suc l - 1) b) (count_at s (suc l) b) ≡ true
          → need p l b s < need p (suc l) b s
      grown s lawful t =
          let more = ltb-true (count_at s (suc l - 1) b) (count_at s (suc l) b) t in
          asked-more l b s lawful (rw before at more)

  pub grows-yes : (l b : ℕ) → 1 ≤ l → demand p (l - 1) b < demand p l b → grows p (pair l b) ≡ true
  grows-yes zero b pos more = absurd (omega arith)
  grows-yes (suc l) b pos more =
      let before : suc l - 1 ≡ l = omega arith in
      let here : demand p l b < demand p (suc l) b = rw before at more in
      by_bool (grows p (pair (suc l) b)) (λ t. t) (λ e. absurd (omega (arith, demand-still p each l b e)))

  pub grows-no : (l b : ℕ) → 1 ≤ l → demand p l b ≤ demand p (l - 1) b → grows p (pair l b) ≡ false
  grows-no zero b pos still = absurd (omega arith)
  grows-no (suc l) b pos still =
      let before : suc l - 1 ≡ l = omega arith in
      let here : demand p (suc l) b ≤ demand p l b = rw before at still in
      by_bool (grows p (pair (suc l) b)) (λ t. absurd (omega (arith, demand-grows l b t))) (λ e. e)
