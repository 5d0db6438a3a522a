-- Steps 2 and 3 by place: a slot has a new job, with what it pays, and was empty; or it is as it was, but for being stopped.
--     fee p payer j         the moving days that the place with index j pays
use Rattle.base.proofs.Prelude.{ℕ, suc, ◌≤◌, ◌<◌, ◌≡◌, sym, ap, ◌∙◌, subst, ◌⊎◌, inl, inr, ◌≢◌, true, cond, List, arith, ℕ_discrete, dec_le, eq-eqb, ne_eqb, eqb, length, get_or}
use Rattle.days.specs.Days.{days}
use Rattle.rules.specs.{declared.Plan.Plan, declared.Release.Release, declared.Slot.Slot, declared.Job.TheVariants.{Empty, Waiting}, Plan.strings_of, Release.{no_release, first_unlawful}, Demand.moving_cost, Run.{on_bank, waits, stopped, new_slot, joined, taken, late_at, put_job}}
use Rattle.base.proofs.Lists.{true-not-false}
use Rattle.laws.proofs.{Lawful.LawfulPlan, Slots.{at, new_slot-string, new_slot-job, new_slot-own, new_slot-charged}, ReleaseList.{str, release-string}}
use Rattle.sound.specs.Served.{payer_in}
use Rattle.sound.proofs.{Joining.{NoneCame, joined_length}, Taking.{Taking, bank_free, bank_kept, bank_taken, Taker, taken-taking, charged_slot, may_take-exactly}, Orderly.{Orderly, live-if-waits, took-off}, Arriving.{Arrival, arrived, stayed, arrival, joined-orderly}}

abbrev pub fee : Plan → ℕ → ℕ → ℕ
fee p payer j = cond (eqb payer (suc j)) (moving_cost p (str p j)) 0

pub data Morning (p : Plan) (rs : List Release) (t payer j : ℕ) (before after : Slot) : Type 0 where
  new : (m : ℕ) → m < length rs → (get_or rs m no_release).place ≡ suc j → (get_or rs m no_release).day.0 ≡ t → before.job ≡ Empty
      → after ≡ put_job (new_slot p (get_or rs m no_release) (suc m)) (Waiting (get_or rs m no_release).need (days (fee p payer j)))
      → Morning p rs t payer j before after
  same : NoneCame rs t j → (after ≡ before) ⊎ (after ≡ put_job before (stopped before.job)) → Morning p rs t payer j before after

module _ (p : Plan) (rs : List Release) (lawful : LawfulPlan p) (listed : first_unlawful p rs ≡ 0)
    (t : ℕ) (ss : List Slot) (o : Orderly p rs t ss) (punctual : late_at t ss ≡ 0) where
  -- the slots once the day's releases have joined
  abbrev js : List Slot
  js = joined p rs t ss

  -- nobody pays here
  unpaid : (payer j : ℕ) (k : Slot) → payer ≢ suc j → k ≡ at js j → Arrival p rs t j (at ss j) (at js j)
      → Morning p rs t payer j (at ss j) k
  unpaid payer j k other is (arrived m h place day empty came) =
      let r = get_or rs m no_release in
      let free : fee p payer j ≡ 0 = rw (ne_eqb payer (suc j) other) in
      new m h place day empty
      (is ∙ came ∙ new_slot-own p r (suc m) ∙ ap (λ a. put_job (new_slot p r (suc m)) (Waiting r.need (days a))) (sym free))
  unpaid payer j k other is (stayed none came) = same none (inl (is ∙ came))

  -- the holder is stopped
  stopped-here : (payer j : ℕ) (k : Slot) → on_bank (at js j).job ≡ true → k ≡ put_job (at js j) (stopped (at js j).job)
      → Arrival p rs t j (at ss j) (at js j) → Morning p rs t payer j (at ss j) k
  stopped-here payer j k on is (arrived m h place day empty came) =
      absurd (true-not-false (sym on ∙ ap (λ s. on_bank s.job) came ∙ ap on_bank (new_slot-job p (get_or rs m no_release) (suc m))))
  stopped-here payer j k on is (stayed none came) = same none (inr (is ∙ ap (λ s. put_job s (stopped s.job)) came))

  -- the payer pays
  paid-here : (h payer j : ℕ) (k : Slot) → j < length (strings_of p) → payer ≡ suc j → Taker t (at js h) (at js j)
      → k ≡ charged_slot p (at js j)
      → Arrival p rs t j (at ss j) (at js j) → Morning p rs t payer j (at ss j) k
  paid-here h payer j k a pays taker is (arrived m b place day empty came) =
      let r = get_or rs m no_release in
      let s = new_slot p r (suc m) in
      let cost : moving_cost p s.string ≡ fee p payer j =
      rw (eq-eqb payer (suc j) pays) (ap (moving_cost p) (new_slot-string p r (suc m) ∙ release-string p rs j m place)) in
      let paid = new_slot-charged p r (suc m) (moving_cost p s.string) ∙ ap (λ c. Waiting r.need (days c)) cost in
      new m b place day empty (is ∙ ap (charged_slot p) came ∙ ap (put_job s) paid)
  paid-here h payer j k a pays taker is (stayed none came) =
      let w : waits (at ss j).job ≡ true = sym (ap (λ s. waits s.job) came) ∙ taker.waiting in
      let l = live-if-waits p rs t j (at ss j) (o.sits j a) w in
      let kept : (at js j).release.0 ≡ (at ss j).release.0 = ap (λ s. s.release.0) came in
      absurd (omega (arith, l.before, taker.today))

  morning-by : (ks : List Slot) (payer : ℕ) → Taking p t js ks payer → (j : ℕ) → j < length (strings_of p)
      → Morning p rs t payer j (at ss j) (at ks j)
  morning-by ks payer (bank_free none is zero-pays) j a =
      unpaid payer j (at ks j) (λ e. omega arith) (ap (λ xs. at xs j) is) (arrival p rs lawful listed t ss o punctual j a)
  morning-by ks payer (bank_kept h within on none is zero-pays) j a =
      unpaid payer j (at ks j) (λ e. omega arith) (ap (λ xs. at xs j) is) (arrival p rs lawful listed t ss o punctual j a)
  morning-by ks payer (bank_taken h q k sized pays) j a =
      elim (ℕ_discrete j h) [
        | yes here ↦
            stopped-here payer j (at ks j)
            (subst (λ i. on_bank (at js i).job ≡ true) (sym here) k.holds)
            (subst (λ i. at ks i ≡ put_job (at js i) (stopped (at js i).job)) (sym here) k.stops)
            (arrival p rs lawful listed t ss o punctual j a)
        | no other ↦
            elim (ℕ_discrete j q) [
              | yes payer-here ↦
                  paid-here h payer j (at ks j) a (pays ∙ ap suc (sym payer-here))
                  (subst (λ i. Taker t (at js h) (at js i)) (sym payer-here) k.takes)
                  (subst (λ i. at ks i ≡ charged_slot p (at js i)) (sym payer-here) k.pays)
                  (arrival p rs lawful listed t ss o punctual j a)
              | no apart ↦
                  unpaid payer j (at ks j) (λ e. apart (omega arith)) (k.rest j other apart)
                  (arrival p rs lawful listed t ss o punctual j a)
            ]
      ]

  pub morning-place : (j : ℕ) → j < length (strings_of p) → Morning p rs t (payer_in t js) j (at ss j) (at (taken p t js) j)
  morning-place = morning-by (taken p t js) (payer_in t js) (taken-taking p t js)

  -- a holder that keeps the bank is due no later than any job of today that might have taken it
  fair-by : (ks : List Slot) (payer : ℕ) → Taking p t js ks payer → (h : ℕ) → h < length (strings_of p) → on_bank (at ks h).job ≡ true
      → (j : ℕ) → j < length (strings_of p) → waits (at ks j).job ≡ true → (at ks j).release.0 ≡ t → (at ks j).string.x ≡ 1
      → (at ks h).deadline.0 ≤ (at ks j).deadline.0
  fair-by ks payer (bank_free none is zero-pays) h a on j b w today may =
      absurd (true-not-false (sym on ∙ ap (λ xs. on_bank (at xs h).job) is ∙ none h (omega (arith, joined_length p rs t ss, o.size))))
  fair-by ks payer (bank_kept g within held_on none is zero-pays) h a on j b w today may =
      let keeps : h ≡ g =
      (joined-orderly p rs lawful listed t ss o punctual).alone h g a (omega (arith, joined_length p rs t ss, o.size))
      (sym (ap (λ xs. on_bank (at xs h).job) is) ∙ on) held_on in
      elim (dec_le (at ks h).deadline.0 (at ks j).deadline.0) [
        | yes fine ↦ fine
        | no late ↦
            let holder-due : (at ks h).deadline.0 ≡ (at js g).deadline.0 =
            ap (λ xs. (at xs h).deadline.0) is ∙ ap (λ i. (at js i).deadline.0) keeps in
            let taker : Taker t (at js g) (at js j) =
            record {
              waiting = sym (ap (λ xs. waits (at xs j).job) is) ∙ w;
              today = sym (ap (λ xs. (at xs j).release.0) is) ∙ today;
              allowed = sym (ap (λ xs. (at xs j).string.x) is) ∙ may;
              sooner = omega (arith, ap (λ xs. (at xs j).deadline.0) is);
            } in
            absurd (true-not-false
            (sym ((may_take-exactly t (at js g) (at js j)).1 taker) ∙ none j (omega (arith, joined_length p rs t ss, o.size))))
      ]
  fair-by ks payer (bank_taken g q k sized pays) h a on j b w today may =
      absurd
      (true-not-false
      (sym on ∙ took-off p rs (suc t) t js ks (joined-orderly p rs lawful listed t ss o punctual) g q k h a))

  pub morning-fair : (h : ℕ) → h < length (strings_of p) → on_bank (at (taken p t js) h).job ≡ true
      → (j : ℕ) → j < length (strings_of p) → waits (at (taken p t js) j).job ≡ true → (at (taken p t js) j).release.0 ≡ t
      → (at (taken p t js) j).string.x ≡ 1
      → (at (taken p t js) h).deadline.0 ≤ (at (taken p t js) j).deadline.0
  morning-fair = fair-by (taken p t js) (payer_in t js) (taken-taking p t js)
