-- Who pays can be charged: the job that is stopped was on the bank the day before, so it came a day earlier at the latest, has used a day
-- and has one left; and it is due after a job that came today, at most J days after its due day.
use Rattle.base.proofs.Prelude.{ℕ, suc, ◌-◌, ◌≤◌, ◌<◌, ◌≡◌, refl, sym, ap, ◌∙◌, subst, ◌≢◌, true, false, List, arith, eq-eqb, ne_eqb, le-leb, length, get_or}
use Rattle.rules.specs.{declared.Plan.Plan, declared.Release.Release, declared.Slot.Slot, declared.Job.Job, declared.Job.TheVariants.{Empty, Waiting, OnBank}, Plan.{strings_of, string_at}, Release.{no_release, first_unlawful}, Demand.hold_of, Run.{on_bank, waits, joined, taken, state_at, late_at, late_on}}
use Rattle.base.specs.Count.{any, up_from}
use Rattle.base.proofs.{Lists.{by_bool, true-not-false, any_none}, Order.each-of-up_from}
use Rattle.laws.proofs.{Lawful.LawfulPlan, Slots.{at, new_slot-job}, ReleaseList.{str, string_at-suc, release-lawful, released-late}}
use Rattle.sound.specs.Served.{released, payer_in, payer_on, paid, moving_caused}
use Rattle.sound.proofs.{Taking.{Taking, bank_free, bank_kept, bank_taken, Took, taken-taking}, Orderly.{Orderly, on-held, live-if-on, live-if-waits}, Arriving.{lawful-str, Arrival, arrived, stayed, arrival, joined-orderly}, Clean.{Punctual, orderly-at}}
use Rattle.charging.specs.Payable.{least_due, least_hold, can_lose, chargeable}

on-not-waits : (job : Job) → on_bank job ≡ true → waits job ≡ false
on-not-waits Empty on = refl
on-not-waits (Waiting w m) on = absurd (true-not-false (sym on))
on-not-waits (OnBank w m) on = refl

-- ---- The definition

-- some string can lose the bank
chargeable-yes : (p : Plan) (i j : ℕ) → (string_at p i).x ≡ 1 → 1 ≤ j → j ≤ length (strings_of p) → can_lose p i j ≡ true
    → chargeable p i ≡ true
unfolding chargeable
chargeable-yes p i j may low high lose =
    let places = up_from 1 (length (strings_of p)) in
    let some : any (can_lose p i) places ≡ true =
    by_bool (any (can_lose p i) places) (λ t. t)
    (λ none.
    let all = any_none (can_lose p i) places none in
    absurd (true-not-false (sym lose ∙ each-of-up_from (λ k. can_lose p i k ≡ false) 1 (length (strings_of p)) all j low (omega arith)))) in
    rw (eq-eqb _ 1 may, some)

-- ---- The run

module _ (p : Plan) (rs : List Release) (lawful : LawfulPlan p) (listed : first_unlawful p rs ≡ 0) where
  module _ (t : ℕ) (ss : List Slot) (o : Orderly p rs t ss) (punctual : late_at t ss ≡ 0) where
    -- the slots once the day's releases have joined
    abbrev js : List Slot
    js = joined p rs t ss

    -- who is on the bank did not come today
    held-since : (h : ℕ) → h < length (strings_of p) → on_bank (at js h).job ≡ true → at js h ≡ at ss h
    held-since h a on = go (arrival p rs lawful listed t ss o punctual h a)
      where
        go : Arrival p rs t h (at ss h) (at js h) → at js h ≡ at ss h
        go (arrived m b place day empty is) =
            absurd (true-not-false (sym on ∙ ap (λ s. on_bank s.job) is ∙ ap on_bank (new_slot-job p (get_or rs m no_release) (suc m))))
        go (stayed none is) = is

    took-chargeable : (ks : List Slot) (h q : ℕ) → Took p t js ks h q → chargeable p (suc q) ≡ true
    unfolding can_lose
    took-chargeable ks h q k =
        let orderly = joined-orderly p rs lawful listed t ss o punctual in
        let a : h < length (strings_of p) = omega (arith, k.holder_in, orderly.size) in
        let b : q < length (strings_of p) = omega (arith, k.payer_place, orderly.size) in
        let same = held-since h a k.holds in
        let on : on_bank (at ss h).job ≡ true = sym (ap (λ s. on_bank s.job) same) ∙ k.holds in
        let stopped = live-if-on p rs t h (at ss h) (o.sits h a) on in
        let new = live-if-waits p rs (suc t) q (at js q) (orderly.sits q b) k.takes.waiting in
        let late = released-late p rs listed q (at js q).release.0 new.released in
        let below = (lawful-str p lawful q b).j_max in
        let due : (at js h).deadline.0 ≡ (at ss h).deadline.0 = ap (λ s. s.deadline.0) same in
        let far : least_due (str p q) ≤ (str p h).d.0 =
        omega (arith, stopped.before, stopped.due-latest, new.due, k.takes.today, k.takes.sooner) in
        let long : least_hold ≤ hold_of p (str p h) = omega (arith, stopped.some, stopped.cap, on-held (at ss h).job on) in
        let lose : can_lose p (suc q) (suc h) ≡ true =
        rw (
          string_at-suc p q,
          string_at-suc p h,
          ne_eqb (suc h) (suc q) (λ e. took-apart k (omega arith)),
          le-leb (least_due (str p q)) _ far,
          le-leb least_hold _ long,
        ) in
        let may : (string_at p (suc q)).x ≡ 1 =
        rw (string_at-suc p q) (sym (ap (λ s. s.x) (orderly.string-kept q b)) ∙ k.takes.allowed) in
        chargeable-yes p (suc q) (suc h) may (omega arith) (omega arith) lose
      where
        took-apart : Took p t js ks h q → h ≡ q → ⊥
        took-apart k e =
            true-not-false (sym k.takes.waiting ∙ ap (λ m. waits (at js m).job) (sym e) ∙ on-not-waits (at js h).job k.holds)

    payer-by : (ks : List Slot) (payer k : ℕ) → Taking p t js ks payer → payer ≡ suc k → chargeable p (suc k) ≡ true
    payer-by ks payer k (bank_free none same zero-pays) e = absurd (omega arith)
    payer-by ks payer k (bank_kept h within on none same zero-pays) e = absurd (omega arith)
    payer-by ks payer k (bank_taken h q took sized pays) e =
        subst (λ i. chargeable p i ≡ true) (sym pays ∙ e) (took-chargeable ks h q took)

  -- up to the first day that is late no string pays that is not chargeable
  pub payer-chargeable : (t k : ℕ) → Punctual p rs (suc t) → payer_on p rs t ≡ suc k → chargeable p (suc k) ≡ true
  unfolding late_on payer_on
  payer-chargeable t k so_far pays =
      let ss = state_at p rs t in
      let o = orderly-at p rs lawful listed t (λ i a. so_far i (omega arith)) in
      payer-by t ss o (so_far t (omega arith)) (taken p t (joined p rs t ss)) (payer_in t (joined p rs t ss)) k
      (taken-taking p t (joined p rs t ss)) pays

  -- so a string that is not chargeable never pays
  pub never-pays : (t i : ℕ) → 1 ≤ i → chargeable p i ≡ false → Punctual p rs (suc t) → payer_on p rs t ≢ i
  never-pays t i low not so_far pays =
      let place : i ≡ suc (i - 1) = omega arith in
      true-not-false (sym (payer-chargeable t (i - 1) so_far (pays ∙ place)) ∙ ap (chargeable p) (sym place) ∙ not)

  -- and none of its jobs causes any moving
  pub never-charged : (k : ℕ) → 1 ≤ k → k ≤ length rs → chargeable p (released rs k).place ≡ false
      → Punctual p rs (suc (released rs k).day.0) → moving_caused p rs k ≡ 0
  unfolding moving_caused paid
  never-charged k low high not so_far =
      let r = released rs k in
      let there = (release-lawful p rs listed (k - 1) (omega arith)).place_pos in
      rw (ne_eqb (payer_on p rs r.day.0) r.place (never-pays r.day.0 r.place there not so_far))
