-- What holds of every slot at the start of every day: the moving that is left is at most 1,000 days for each day passed, and what its job
-- would pay is at most 1,000, so that paying always fits; and the release that it serves is one of the list, so that its number does.
use Rattle.base.proofs.Prelude.{ℕ, zero, suc, ◌+◌, ◌-◌, ◌*◌, ◌^◌, ◌≤◌, ◌<◌, ◌≡◌, ap, List, arith, ℕ_discrete, ltb, length, length-set}
use Rattle.rules.specs.{declared.Plan.Plan, declared.Release.Release, declared.Job.Job, declared.Job.TheVariants.{Empty, Waiting, OnBank}, declared.Slot.Slot, Plan.{strings_of, no_string}, Demand.moving_cost, Run.{empty_slot, no_slot, slot_at, new_slot, joined, holder, stop, taken, given, use_of, used_for, morning, state_at, use_on}, Stints.{place_used, release_used}}
use Rattle.base.proofs.{Lists.{All, all-at, all_map, all_get_d, by_bool}, Order.{all_of, all-mapped}}
use Rattle.laws.proofs.{Lawful.{LawfulPlan, PlanString, plan-strings, no_string-cost}, JobParts.{moving_of, stopped-parts, seated-parts, charged-moving, spent-moving}, Slots.{new_slot-string, new_slot-job, new_slot-serves}, Steps.{use_of-free, use_of-held, holder-le}}
use Rattle.stretch.specs.Stretch.{morning_on}
use Rattle.stretch.proofs.{JoinList.join_from-all, EachSlot.{stop-all, taken-all, given-all, spent_all}}
use Rattle.run.specs.inner.Day.{Affords}

-- ---- Moving

-- what is left of moving, and what the job in the slot would pay
abbrev MovingTo : Plan → ℕ → Slot → Type 0
MovingTo p k s = (moving_of s.job ≤ k) × (moving_cost p s.string ≤ 1000)

module _ (p : Plan) (rs : List Release) (lawful : LawfulPlan p) where
  new-moving : (k : ℕ) (r : Release) (i : ℕ) → MovingTo p k (new_slot p r i)
  new-moving k r i =
      let strings = all_map (PlanString p) (λ s. moving_cost p s ≤ 1000) (λ s h. h.cost_max) (strings_of p) (plan-strings p lawful) in
      let cost = all_get_d (λ s. moving_cost p s ≤ 1000) (strings_of p) (r.place - 1) no_string strings (no_string-cost p) in
      (omega (arith, ap moving_of (new_slot-job p r i)), rw (new_slot-string p r i) cost)

  joined-moving : (t k : ℕ) (ss : List Slot) → All (MovingTo p k) ss → All (MovingTo p k) (joined p rs t ss)
  unfolding joined
  joined-moving t k ss h = join_from-all p t (MovingTo p k) 1 rs (λ r i low high e. new-moving k r i) ss h

  state_at-moving : (t : ℕ) → All (MovingTo p (1000 * t)) (state_at p rs t)
  unfolding state_at morning
  state_at-moving zero =
      all-mapped (MovingTo p 0) empty_slot (strings_of p)
      (all_map (PlanString p) (λ s. MovingTo p 0 (empty_slot s)) (λ s h. (omega arith, h.cost_max)) (strings_of p) (plan-strings p lawful))
  state_at-moving (suc t) =
      let k = 1000 * suc t in
      let js = joined p rs t (state_at p rs t) in
      let takes =
      taken-all (MovingTo p (1000 * t)) (MovingTo p k) (λ s h. (omega (arith, h.0), h.1)) p t
      (λ s h. (omega (arith, h.0, (stopped-parts s.job).1), h.1))
      (λ s h. (omega (arith, h.0, h.1, charged-moving (moving_cost p s.string) s.job), h.1))
      js (joined-moving t (1000 * t) (state_at p rs t) (state_at-moving t)) in
      let gives = given-all (MovingTo p k) (λ s h. (omega (arith, h.0, (seated-parts s.job).1), h.1)) (taken p t js) takes in
      spent_all (MovingTo p k) (λ s h. (omega (arith, h.0, spent-moving s.job), h.1)) (given (taken p t js)) gives

  -- a run is short enough for the code's numbers
  pub joined-affords : (t : ℕ) → t ≤ 1000000 → Affords p (joined p rs t (state_at p rs t))
  joined-affords t short =
      all_map (MovingTo p (1000 * t)) (λ s. moving_of s.job + moving_cost p s.string < 2 ^ 32) (λ s h. omega (arith, h.0, h.1))
      (joined p rs t (state_at p rs t)) (joined-moving t (1000 * t) (state_at p rs t) (state_at-moving t))

-- who pays can afford it: stopping the job on the bank leaves all moving as it was
pub payer-affords : (p : Plan) (ss : List Slot) (q : ℕ) → (holder ss ≡ 0 → ⊥) → 1 ≤ q → q ≤ length ss → Affords p ss
    → moving_of (slot_at (stop ss (holder ss)) q).job + moving_cost p (slot_at (stop ss (holder ss)) q).string < 2 ^ 32
payer-affords p ss q held low high affords =
    let P : Slot → Type 0 = λ s. moving_of s.job + moving_cost p s.string < 2 ^ 32 in
    let still : All P (stop ss (holder ss)) =
    stop-all P (λ s k. let same = (stopped-parts s.job).1 in omega arith) ss held affords in
    let room : q - 1 < length (stop ss (holder ss)) = simp length-set (omega arith) in
    all-at P (stop ss (holder ss)) no_slot still (q - 1) room

-- ---- Whom it serves

abbrev Serving : ℕ → Slot → Type 0
Serving k s = s.serves ≤ k

module _ (p : Plan) (rs : List Release) where
  morning-serving : (t : ℕ) → All (Serving (length rs)) (state_at p rs t) → All (Serving (length rs)) (morning_on p rs t)
  unfolding morning joined
  morning-serving t h =
      let P = Serving (length rs) in
      let js = joined p rs t (state_at p rs t) in
      let joins : All P js = join_from-all p t P 1 rs (λ r i low high e. rw (new_slot-serves p r i) (omega arith)) (state_at p rs t) h in
      given-all P (λ s k. k) (taken p t js) (taken-all P P (λ s k. k) p t (λ s k. k) (λ s k. k) js joins)

  state_at-serving : (t : ℕ) → All (Serving (length rs)) (state_at p rs t)
  unfolding state_at
  state_at-serving zero =
      all-mapped (Serving (length rs)) empty_slot (strings_of p) (all_of (λ s. 0 ≤ length rs) (λ s. omega arith) (strings_of p))
  state_at-serving (suc t) = spent_all (Serving (length rs)) (λ s k. k) (morning_on p rs t) (morning-serving t (state_at-serving t))

-- a day is used for a place of the slots and a release of the list, or for none
used-within : (i serves : ℕ) (job : Job) → (place_used (used_for i serves job) ≤ i) × (release_used (used_for i serves job) ≤ serves)
used-within i serves Empty = (omega arith, omega arith)
used-within i serves (Waiting w m) = (omega arith, omega arith)
used-within i serves (OnBank w m) =
    by_bool (ltb 0 m.0) (λ t. rw t (omega arith, omega arith)) (λ f. rw f (omega arith, omega arith))

use_of-within : (k : ℕ) (ss : List Slot) → All (Serving k) ss
    → (place_used (use_of ss) ≤ length ss) × (release_used (use_of ss) ≤ k)
use_of-within k ss serving =
    elim (ℕ_discrete (holder ss) 0) [
      | yes free ↦ rw (use_of-free ss free) (omega arith, omega arith)
      | no held ↦
          let s = slot_at ss (holder ss) in
          let parts = used-within (holder ss) s.serves s.job in
          let serves : s.serves ≤ k = all_get_d (Serving k) ss (holder ss - 1) no_slot serving (omega arith) in
          rw (use_of-held ss held) (omega (arith, parts.0, holder-le ss), omega (arith, parts.1))
    ]

pub use_on-within : (p : Plan) (rs : List Release) (t : ℕ)
    → (place_used (use_on p rs t) ≤ length (morning_on p rs t)) × (release_used (use_on p rs t) ≤ length rs)
unfolding use_on
use_on-within p rs t = use_of-within (length rs) (morning_on p rs t) (morning-serving p rs t (state_at-serving p rs t))
