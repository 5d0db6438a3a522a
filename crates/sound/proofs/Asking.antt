-- What a morning adds to the account, by place: near jobs that came today, at most E each; the rest is as it was.
use Rattle.base.proofs.Prelude.{ℕ, suc, ◌+◌, ◌*◌, ◌≤◌, ◌<◌, ◌≡◌, sym, ap, ◌∙◌, inl, inr, true, cond, ◌&&◌, List, arith, dec_le, one-mul, eq-eqb, eqb-true, leb-true, le-leb, eqb, leb, length, get_or}
use Rattle.days.specs.Days.{days}
use Rattle.rules.specs.{declared.Plan.Plan, declared.Release.Release, declared.Slot.Slot, declared.Job.TheVariants.Waiting, Plan.strings_of, Release.{no_release, first_unlawful}, Demand.hold_of, Run.{on_bank, waits, left, stopped, new_slot, joined, taken, late_at, put_job}}
use Rattle.base.proofs.{Lists.{by_bool, true-not-false, and_left, and_right}, Sums.{sum_to, sum_to-le, sum_to-add}}
use Rattle.laws.proofs.{Lawful.LawfulPlan, Slots.{at, new_slot-release, new_slot-deadline}, ReleaseList.{str, Released, due_at, release-string}}
use Rattle.sound.proofs.{Orderly.{Sits, Orderly, stopped-left, stopped-off, empty-not-waits, live-if-left}, Arriving.morning-orderly, Morning.{Morning, new, same, fee, morning-place}, Account.{near_left, near_left-near, near_left-far, backlog, asks, Asked}}

module _ (t d : ℕ) (k : Slot) where
  -- who is asked for came today and is near
  pub asked-near : asks t d k ≡ 1 → (waits k.job ≡ true) × (k.release.0 ≡ t) × (k.deadline.0 ≤ d)
  asked-near one =
      let W = waits k.job in
      let T = eqb k.release.0 t in
      let N = leb k.deadline.0 d in
      by_bool (W && T && N)
      (λ yes'.
      let wt = and_left (W && T) N yes' in
      (and_left W T wt, eqb-true _ _ (and_right W T wt), leb-true _ _ (and_right (W && T) N yes')))
      (λ not'.
      let none : asks t d k ≡ 0 = rw not' in
      absurd (omega arith))

  asks-one : waits k.job ≡ true → k.release.0 ≡ t → k.deadline.0 ≤ d → asks t d k ≡ 1
  asks-one w today near = rw (w, eq-eqb k.release.0 t today, le-leb k.deadline.0 d near)

module _ (p : Plan) (rs : List Release) (t payer j : ℕ) (s k : Slot) where
  -- a job that waits with today's release day came today
  waits-today : Sits p rs t j s → Morning p rs t payer j s k → waits k.job ≡ true → k.release.0 ≡ t
      → (c : Released rs j t) × (k.deadline.0 ≡ due_at rs c.0 + (str p j).d.0)
  waits-today sat (new m h place day empty is) w today =
      let r = get_or rs m no_release in
      let due : k.deadline.0 ≡ due_at rs m + (str p j).d.0 =
      ap (λ x. x.deadline.0) is ∙ ap (λ x. x.0) (new_slot-deadline p r (suc m)) ∙ ap (λ x. due_at rs m + x.d.0)
      (release-string p rs j m place) in
      ((m, h, place, day), due)
  waits-today (inl e) (same none (inl is)) w today = absurd (empty-not-waits k.job (ap (λ x. x.job) is ∙ e) w)
  waits-today (inl e) (same none (inr is)) w today = absurd (empty-not-waits k.job (ap (λ x. x.job) is ∙ ap stopped e) w)
  waits-today (inr l) (same none (inl is)) w today = absurd (omega (arith, l.before, ap (λ x. x.release.0) is))
  waits-today (inr l) (same none (inr is)) w today = absurd (omega (arith, l.before, ap (λ x. x.release.0) is))

  -- a job that came today waits
  new-waits : (m : ℕ) → (get_or rs m no_release).place ≡ suc j → (get_or rs m no_release).day.0 ≡ t
      → k ≡ put_job (new_slot p (get_or rs m no_release) (suc m)) (Waiting (get_or rs m no_release).need (days (fee p payer j)))
      → (waits k.job ≡ true) × (k.release.0 ≡ t)
  new-waits m place day is =
      let from = ap (λ x. x.0) (new_slot-release p (get_or rs m no_release) (suc m)) in
      (ap (λ x. waits x.job) is, ap (λ x. x.release.0) is ∙ from ∙ day)

  -- who is on the bank is as he was
  on_same : Morning p rs t payer j s k → on_bank k.job ≡ true → k ≡ s
  on_same (new m h place day empty is) on = absurd (true-not-false (sym on ∙ ap (λ x. on_bank x.job) is))
  on_same (same none (inl is)) on = is
  on_same (same none (inr is)) on = absurd (true-not-false (sym on ∙ ap (λ x. on_bank x.job) is ∙ stopped-off s.job))

  module _ (d : ℕ) where
    asked : Sits p rs t j s → Morning p rs t payer j s k → Asked p rs d t j (asks t d k)
    asked sat morning =
        let W = waits k.job in
        let T = eqb k.release.0 t in
        let N = leb k.deadline.0 d in
        by_bool (W && T && N)
        (λ yes'.
        let wt = and_left (W && T) N yes' in
        let came = waits-today sat morning (and_left W T wt) (eqb-true _ _ (and_right W T wt)) in
        let near : k.deadline.0 ≤ d = leb-true _ _ (and_right (W && T) N yes') in
        inr (rw yes', came.0, omega (arith, came.1)))
        (λ not'. inl (rw not'))

    pub left-grows : Sits p rs (suc t) j k → Morning p rs t payer j s k → near_left d k ≤ near_left d s + asks t d k * hold_of p (str p j)
    left-grows after (new m h place day empty is) =
        elim (dec_le k.deadline.0 d) [
          | yes near ↦
              let came = new-waits m place day is in
              let one : asks t d k * hold_of p (str p j) ≡ hold_of p (str p j) =
              ap (λ a. a * hold_of p (str p j)) (asks-one t d k came.0 came.1 near) ∙ one-mul (hold_of p (str p j)) in
              let all : near_left d k ≡ left k.job = near_left-near d k near in
              elim (dec_le 1 (left k.job))
              [ yes some ↦ omega (arith, (live-if-left p rs (suc t) j k after some).cap) | no none ↦ omega arith ]
          | no far ↦ omega (arith, near_left-far d k (omega arith))
        ]
    left-grows after (same none (inl is)) = omega (arith, ap (near_left d) is)
    left-grows after (same none (inr is)) =
        let still : near_left d k ≡ near_left d s =
        ap (near_left d) is ∙ ap (λ n. cond (leb s.deadline.0 d) n 0) (stopped-left s.job) in
        omega arith

module _ (p : Plan) (rs : List Release) (lawful : LawfulPlan p) (listed : first_unlawful p rs ≡ 0)
    (t : ℕ) (ss : List Slot) (o : Orderly p rs t ss) (punctual : late_at t ss ≡ 0) (d : ℕ) where
  -- the slots in the morning
  abbrev ks : List Slot
  ks = taken p t (joined p rs t ss)

  pub morning-asked : (j : ℕ) → j < length (strings_of p) → Asked p rs d t j (asks t d (at ks j))
  morning-asked j a = asked p rs t _ j (at ss j) (at ks j) d (o.sits j a) (morning-place p rs lawful listed t ss o punctual j a)

  pub morning-backlog : backlog p d ks ≤ backlog p d ss + sum_to (length (strings_of p)) (λ j. asks t d (at ks j) * hold_of p (str p j))
  unfolding backlog
  morning-backlog =
      let n = length (strings_of p) in
      let before : ℕ → ℕ = λ j. near_left d (at ss j) in
      let more : ℕ → ℕ = λ j. asks t d (at ks j) * hold_of p (str p j) in
      let each = sum_to-le n (λ j. near_left d (at ks j)) (λ j. before j + more j)
      (λ j a. left-grows p rs t _ j (at ss j) (at ks j) d ((morning-orderly p rs lawful listed t ss o punctual).sits j a)
      (morning-place p rs lawful listed t ss o punctual j a)) in
      omega (arith, sum_to-add n before more)

  pub morning-kept : (j : ℕ) → j < length (strings_of p) → on_bank (at ks j).job ≡ true → at ks j ≡ at ss j
  morning-kept j a on = on_same p rs t _ j (at ss j) (at ks j) (morning-place p rs lawful listed t ss o punctual j a) on
