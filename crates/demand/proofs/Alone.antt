-- The work alone decides "none": where the plan with no permissions breaks the rule with no blocking, or is overloaded, no set
-- passes, since E ≥ C and with no blocking every string counts its jobs in all the days.
--     work_of l s            the work that the jobs of s within l days bring, without moving
use Rattle.base.proofs.Prelude.{ℕ, ◌-◌, ◌*◌, ◌≤◌, ◌<◌, zero-le, ◌≡◌, refl, ap, ◌∙◌, true, false, List, [], ◌∷◌, arith, ℕ_discrete}
use native.Mathlib.Nat.{mul-le-mul_left}
use Rattle.rules.specs.{declared.BatteryString.BatteryString, declared.Plan.Plan, Plan.{strings_of, multiple_of}, Demand.{hold_of, jobs, need, demand, overloaded}, Search.{permit, with_set, set_passes}}
use Rattle.base.specs.Count.{sum_of}
use Rattle.base.proofs.{Lists.{All, all_map, sum_of-le, sum_of-eq, by_bool}, Order.all_of}
use Rattle.laws.proofs.{Lawful.LawfulPlan, Demand.{hold_of-work, need-taker, need-keeper}}
use Rattle.demand.proofs.{Range.overload-at-period, Verdict.passes-of-pass, Sets.{permitted, permit-sum_of, with_set-strings, with_set-lawful}}

unfoldable pub work_alone : ℕ → BatteryString → ℕ
work_alone l s = jobs s l * s.c.0

work_of-blind : (l : ℕ) (s : BatteryString) (x : ℕ) → work_alone l (permitted s x) ≡ work_alone l s
unfolding work_alone jobs
work_of-blind l s x = refl

-- with no blocking a string asks at least for its work
need-work : (p : Plan) (l : ℕ) (s : BatteryString) → work_alone l s ≤ need p l 0 s
unfolding work_alone
need-work p l s =
    let all-days : l - 0 ≡ l = omega arith in
    elim (ℕ_discrete s.x 1) [
      | yes e ↦
          let asked : need p l 0 s ≡ jobs s l * hold_of p s = need-taker p l 0 s e ∙ ap (λ w. jobs s w * hold_of p s) all-days in
          omega (arith, mul-le-mul_left (jobs s l) (hold_of-work p s))
      | no e ↦ omega (arith, need-keeper p l 0 s e)
    ]

demand-work : (p : Plan) (l : ℕ) → sum_of (work_alone l) (strings_of p) ≤ demand p l 0
unfolding demand
demand-work p l =
    omega (
      arith,
      sum_of-le (work_alone l) (need p l 0) (strings_of p)
          (all_of (λ s. work_alone l s ≤ need p l 0 s) (need-work p l) (strings_of p)),
    )

permit-none : (ss : List BatteryString) → All (λ s. s.x ≡ 0) (permit 0 ss)
unfolding permit
permit-none [] = tt
permit-none (s ∷ ss) = (refl, permit-none ss)

-- with no permissions it asks for no more
demand-alone : (p : Plan) (l : ℕ) → demand (with_set p 0) l 0 ≡ sum_of (work_alone l) (strings_of (with_set p 0))
unfolding demand work_alone
demand-alone p l =
    let kept : All (λ s. s.x ≡ 0) (strings_of (with_set p 0)) = rw with_set-strings (permit-none (strings_of p)) in
    omega (
      arith,
      sum_of-eq (need (with_set p 0) l 0) (work_alone l) (strings_of (with_set p 0))
          (all_map (λ s. s.x ≡ 0) (λ s. need (with_set p 0) l 0 s ≡ work_alone l s)
          (λ s e. need-keeper (with_set p 0) l 0 s (λ f. omega arith))
          (strings_of (with_set p 0)) kept),
    )

-- no set asks for less
with_set-work : (p : Plan) (m l : ℕ) → demand (with_set p 0) l 0 ≤ demand (with_set p m) l 0
with_set-work p m l =
    let same : (k : ℕ) → sum_of (work_alone l) (strings_of (with_set p k)) ≡ sum_of (work_alone l) (strings_of p) =
    λ k. ap (sum_of (work_alone l)) (with_set-strings p k) ∙ permit-sum_of (work_alone l) (work_of-blind l) k (strings_of p) in
    omega (arith, demand-alone p l, demand-work (with_set p m) l, same 0, same m)

module _ (p : Plan) (ok : LawfulPlan p) where
  -- where the work alone breaks the rule, no set passes
  pub work-alone-breaks : (l : ℕ) → 1 ≤ l → l < demand (with_set p 0) l 0 → (m : ℕ) → set_passes p m ≡ false
  unfolding set_passes
  work-alone-breaks l pos over m =
      by_bool (set_passes p m)
      (λ t. absurd (omega (arith, with_set-work p m l, passes-of-pass (with_set p m) (with_set-lawful p m ok) t l 0 pos zero-le)))
      (λ e. e)

  -- where the work alone is an overload, no set passes
  pub overload-alone-breaks : overloaded (with_set p 0) ≡ true → (m : ℕ) → set_passes p m ≡ false
  overload-alone-breaks t =
      let lawful = with_set-lawful p 0 ok in
      work-alone-breaks (multiple_of (with_set p 0)) lawful.h_pos (overload-at-period (with_set p 0) lawful t)
