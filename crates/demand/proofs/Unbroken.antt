-- Where no pair is broken the rule holds: an overload would break it at H.
use Rattle.base.proofs.Prelude.{ℕ, ◌+◌, ◌-◌, ◌≤◌, ◌<◌, zero-le, ◌≡◌, false, List, [], ◌∷◌, none, arith}
use Rattle.base.specs.Count.{All, sum_of, largest}
use Rattle.base.proofs.{Lists.by_bool, FirstOf.first_of-none}
use Rattle.rules.specs.{declared.BatteryString.BatteryString, declared.Plan.Plan, Plan.{strings_of, multiple_of, d_max}, Demand.{block_limit, need, demand, Passes, overloaded}, Verdict.{all_pairs, broken, first_broken}}
use Rattle.laws.proofs.Lawful.{LawfulPlan, LawfulString}
use Rattle.demand.proofs.{Pairs.{pair, unbroken-holds}, PairList.each-of-pairs, Range.{overload-at-period, range-suffices}}

some-deadline : (f : BatteryString → ℕ) (ss : List BatteryString) → All LawfulString ss → 0 < sum_of f ss → 1 ≤ largest (λ s. s.d.0) ss
unfolding sum_of largest
some-deadline f [] each h = absurd (omega arith)
some-deadline f (s ∷ ss) each h = omega (arith, each.0.d_pos)

module _ (p : Plan) (ok : LawfulPlan p) (whole : first_broken p (all_pairs p) ≡ none) where
  holds : (l b : ℕ) → 1 ≤ l → l ≤ d_max p + multiple_of p - 1 → b ≤ block_limit p l → demand p l b ≤ l
  holds l b low high limit =
      unbroken-holds p (pair l b)
      (each-of-pairs p (λ q. broken p q ≡ false) ((first_of-none (broken p) (all_pairs p)).0 whole) l b low high limit)

  demand-deadline : (l : ℕ) → l < demand p l 0 → 1 ≤ d_max p
  unfolding demand d_max
  demand-deadline l h = some-deadline (need p l 0) (strings_of p) ok.each (omega arith)

  pub passes-of-none : Passes p
  passes-of-none =
      let light : overloaded p ≡ false =
      by_bool (overloaded p)
      (λ t.
      let over = overload-at-period p ok t in
      let inside : multiple_of p ≤ d_max p + multiple_of p - 1 = omega (arith, demand-deadline (multiple_of p) over) in
      absurd (omega (arith, holds (multiple_of p) 0 ok.h_pos inside zero-le)))
      (λ e. e) in
      range-suffices p ok light holds
