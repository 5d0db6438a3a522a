-- A day used by one job: what is left in near jobs does not grow, falls if the job is near, and who is on the bank after is that job.
use Rattle.base.proofs.Prelude.{ℕ, suc, ◌≤◌, ◌<◌, ◌≡◌, sym, ap, ◌∙◌, subst, true, List, arith, ℕ_discrete, dec_le, length}
use Rattle.rules.specs.{declared.Plan.Plan, declared.Release.Release, declared.Slot.Slot, declared.Use.Use, Plan.strings_of, Run.{on_bank, left}}
use Rattle.laws.proofs.Slots.{at}
use Rattle.base.proofs.Sums.{sum_to-le, sum_to-less}
use Rattle.sound.proofs.{Using.{Used, spent-left}, Orderly.{Live, Orderly}, Account.{near_left, near_left-near, near_left-far, backlog, Phase, flowing}}

module _ (p : Plan) (rs : List Release) (t d : ℕ) (ks es : List Slot) (u : Use) (o : Orderly p rs t ks)
    (h : ℕ) (k : Used ks es u h) (l : Live p rs t h (at ks h)) where
  pub turn-left : suc (left (at es h).job) ≡ left (at ks h).job
  turn-left = ap (λ s. suc (left s.job)) k.turn ∙ spent-left (at ks h).job l.some

  pub turn-due : (at es h).deadline.0 ≡ (at ks h).deadline.0
  turn-due = ap (λ s. s.deadline.0) k.turn

  turn-less : near_left d (at es h) ≤ near_left d (at ks h)
  turn-less =
      elim (dec_le (at ks h).deadline.0 d) [
        | yes near ↦ omega (arith, turn-left, near_left-near d (at ks h) near, near_left-near d (at es h) (omega (arith, turn-due)))
        | no far ↦ omega (arith, near_left-far d (at es h) (omega (arith, turn-due)))
      ]

  places-less : (j : ℕ) → j < length (strings_of p) → near_left d (at es j) ≤ near_left d (at ks j)
  places-less j a =
      elim (ℕ_discrete j h) [
        | yes here ↦ subst (λ i. near_left d (at es i) ≤ near_left d (at ks i)) (sym here) turn-less
        | no other ↦ omega (arith, ap (near_left d) (k.rest j other))
      ]

  pub used-less : backlog p d es ≤ backlog p d ks
  unfolding backlog
  used-less = sum_to-le (length (strings_of p)) (λ j. near_left d (at es j)) (λ j. near_left d (at ks j)) places-less

  -- a near job used the day
  pub used-near : (at ks h).deadline.0 ≤ d → backlog p d es < backlog p d ks
  unfolding backlog
  used-near near =
      sum_to-less (length (strings_of p)) (λ j. near_left d (at es j)) (λ j. near_left d (at ks j)) h
      (omega (arith, k.within, o.size)) places-less
      (omega (arith, turn-left, near_left-near d (at ks h) near, near_left-near d (at es h) (omega (arith, turn-due))))

  -- who is on the bank at the end of the day used it
  pub used-on : ((i : ℕ) → i < length (strings_of p) → on_bank (at ks i).job ≡ true → i ≡ h) → (i : ℕ) → i < length (strings_of p)
      → on_bank (at es i).job ≡ true → i ≡ h
  used-on only i a on =
      elim (ℕ_discrete i h) [
        | yes here ↦ here
        | no other ↦ only i a (sym (ap (λ s. on_bank s.job) (k.rest i other)) ∙ on)
      ]

  -- and if he is near, the bank flows
  pub used-flowing : {start b : ℕ} {c : ℕ → ℕ} → ((i : ℕ) → i < length (strings_of p) → on_bank (at ks i).job ≡ true → i ≡ h)
      → (at ks h).deadline.0 ≤ d → Phase p rs d t es start b c
  used-flowing only near =
      flowing (λ i a on. subst (λ j. (at es j).deadline.0 ≤ d) (sym (used-on only i a on)) (omega (arith, turn-due)))
