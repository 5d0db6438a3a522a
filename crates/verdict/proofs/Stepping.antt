-- Laws of the steps of job counts: where the next one is, that nothing changes before it, and what changes at it.
use Rattle.base.proofs.Prelude.{ℕ, suc, ◌+◌, ◌-◌, ◌*◌, ◌≤◌, ◌<◌, ◌≡◌, sym, ap, ◌∙◌, cond, List, arith, dec_le, ℕ_discrete, mul-le-mul, le_refl, suc-mul, add-mul, one-mul, mul-zero, zero-mul, eq-eqb, ne_eqb, eqb, length, get_or, get_or-take}
use Rattle.rules.specs.{declared.BatteryString.BatteryString, declared.Plan.Plan, Plan.{strings_of, no_string, leeway, leeway_min}, Demand.{hold_of, jobs}}
use Rattle.base.specs.Count.{smallest_with}
use Rattle.base.proofs.{Lists.{All, all_map, all-at, sum_of-eq, smallest_with-le, smallest_with-all, smallest_with-above}, Order.{all_both, sum_of-zero}}
use Rattle.laws.proofs.{Jobs.{jobs-short, jobs-last, jobs-step-after, jobs-until, jobs-at-step}, Lawful.LawfulString}
use Rattle.demand.proofs.Counts.{early-no-jobs}
use Rattle.verdict.specs.{inner.Asked.{Ready, asked_of, asked_by}, inner.Steps.{job_of, step_after, Due}}
use Rattle.verdict.proofs.{Asked.{asked_of-yes, asked_of-no}, StringSums.{strings-count, string-at}}

-- ---- One string

module _ (s : BatteryString) (ok : LawfulString s) where
  step_past : (l : ℕ) → l < step_after l s
  unfolding step_after
  step_past l = omega (arith, jobs-step-after s l ok.t_pos, ok.j_max)

  pub step-jobs : (l w : ℕ) → l ≤ w → w < step_after l s → jobs s w ≡ jobs s l
  unfolding step_after
  step-jobs l w h k =
      let late = ok.j_max in
      jobs-until s l w ok.t_pos h (omega arith)

  -- before the step it is still the next
  step_stays : (l w : ℕ) → l ≤ w → w < step_after l s → step_after w s ≡ step_after l s
  step_stays l w h k =
      let same = step-jobs l w h k in
      unfold step_after in ap (λ j. j * s.t.0 + leeway s) same

  pub step-jobs-more : (l w : ℕ) → w ≡ step_after l s → jobs s w ≡ jobs s l + 1
  unfolding step_after
  step-jobs-more l w e =
      let late = ok.j_max in
      jobs-at-step s l w ok.t_pos (omega arith)

  -- at the step the next is T days on
  step-next : (l w : ℕ) → w ≡ step_after l s → step_after w s ≡ w + s.t.0
  unfolding step_after
  step-next l w e =
      let more = ap (λ j. j * s.t.0) (step-jobs-more l w e) ∙ add-mul (jobs s l) 1 s.t.0 in
      omega (arith, one-mul s.t.0)

  pub step-soon : (l : ℕ) → step_after l s ≤ l + 1000
  unfolding step_after
  step-soon l =
      let t = ok.t_max in
      let d = ok.d_max in
      let late = ok.j_max in
      elim (dec_le s.d.0 (l + s.j.0)) [
        | yes long ↦
            let parts : jobs s l * s.t.0 ≤ (suc (jobs s l - 1)) * s.t.0 = mul-le-mul (omega arith) (le_refl s.t.0) in
            omega (arith, jobs-last s l ok.t_pos long, suc-mul (jobs s l - 1) s.t.0)
        | no short ↦
            let none = ap (λ j. j * s.t.0) (jobs-short s l (omega arith)) in
            omega arith
      ]

  -- as an interval comes, a step that is due goes T days on
  pub step_by : (l due : ℕ) → 1 ≤ l → due ≡ step_after (l - 1) s → cond (eqb due l) (due + s.t.0) due ≡ step_after l s
  step_by l due pos e =
      elim (ℕ_discrete due l) [
        | yes here ↦
            let next = step-next (l - 1) l (omega arith) in
            ap (λ t. cond t (due + s.t.0) due) (eq-eqb due l here) ∙ omega arith
        | no later ↦
            let past = step_past (l - 1) in
            ap (λ t. cond t (due + s.t.0) due) (ne_eqb due l later) ∙ e ∙ sym (step_stays (l - 1) l (omega arith) (omega arith))
      ]

-- ---- What a string asks

module _ (p : Plan) (x : ℕ) (s : BatteryString) where
  pub job_of-yes : s.x ≡ x → job_of p x s ≡ hold_of p s
  unfolding job_of
  job_of-yes e = rw (eq-eqb s.x x e)

  pub job_of-no : (s.x ≡ x → ⊥) → job_of p x s ≡ 0
  unfolding job_of
  job_of-no e = rw (ne_eqb s.x x e)

  asked-jobs : (w : ℕ) → asked_of p x w s ≡ jobs s w * job_of p x s
  asked-jobs w =
      elim (ℕ_discrete s.x x) [
        | yes e ↦ asked_of-yes p x w s e ∙ sym (ap (λ h. jobs s w * h) (job_of-yes e))
        | no e ↦ asked_of-no p x w s e ∙ sym (ap (λ h. jobs s w * h) (job_of-no e) ∙ mul-zero (jobs s w))
      ]

  module _ (ok : LawfulString s) where
    asked-stays : (l w : ℕ) → l ≤ w → w < step_after l s → asked_of p x w s ≡ asked_of p x l s
    asked-stays l w h k = asked-jobs w ∙ ap (λ j. j * job_of p x s) (step-jobs s ok l w h k) ∙ sym (asked-jobs l)

    -- as an interval comes, a string whose step is due asks for one job more
    pub asked-more :
        (l due : ℕ) → 1 ≤ l → due ≡ step_after (l - 1) s
        → cond (eqb due l) (job_of p x s) 0 + asked_of p x (l - 1) s ≡ asked_of p x l s
    asked-more l due pos e =
        elim (ℕ_discrete due l) [
          | yes here ↦
              let one_more = step-jobs-more s ok (l - 1) l (omega arith) in
              let more = ap (λ j. j * job_of p x s) one_more ∙ add-mul (jobs s (l - 1)) 1 (job_of p x s) in
              ap (λ t. cond t (job_of p x s) 0 + asked_of p x (l - 1) s) (eq-eqb due l here)
              ∙ omega (arith, asked-jobs l, asked-jobs (l - 1), one-mul (job_of p x s))
          | no later ↦
              let past = step_past s ok (l - 1) in
              ap (λ t. cond t (job_of p x s) 0 + asked_of p x (l - 1) s) (ne_eqb due l later)
              ∙ omega (arith, asked-stays (l - 1) l (omega arith) (omega arith))
        ]

-- before the smallest D − J nobody asks for anything
pub asked-early : (p : Plan) (x w : ℕ) → w < leeway_min p → asked_by p x w ≡ 0
unfolding asked_by
asked-early p x w h =
    sum_of-zero (asked_of p x w) (strings_of p)
    (all_map (λ s. jobs s w ≡ 0) (λ s. asked_of p x w s ≡ 0)
    (λ s none. asked-jobs p x s w ∙ ap (λ j. j * job_of p x s) none ∙ zero-mul (job_of p x s)) (strings_of p) (early-no-jobs p w h))

-- ---- All strings of a plan that is ready, in an interval in which none steps before `end`

module _ (p : Plan) (ready : Ready p) (l end : ℕ) where
  abbrev pub soonest : ℕ
  soonest = smallest_with (step_after l) end (strings_of p)

  -- before the soonest step nobody steps
  before-soonest : (w : ℕ) → w < soonest → All (λ s. w < step_after l s) (strings_of p)
  before-soonest w h =
      all_map (λ s. soonest ≤ step_after l s) (λ s. w < step_after l s) (λ s k. omega arith) (strings_of p)
      (smallest_with-all (step_after l) end (strings_of p))

  pub soonest-past : l < end → l < soonest
  soonest-past h =
      smallest_with-above (step_after l) end l (strings_of p) h
      (all_map LawfulString (λ s. l < step_after l s) (λ s ok. step_past s ok l) (strings_of p) ready.lawful.each)

  pub soonest-within : soonest ≤ end
  soonest-within = smallest_with-le (step_after l) end (strings_of p)

  pub soonest-asked : (x w : ℕ) → l ≤ w → w < soonest → asked_by p x w ≡ asked_by p x l
  unfolding asked_by
  soonest-asked x w h k =
      sum_of-eq (asked_of p x w) (asked_of p x l) (strings_of p)
      (all_both LawfulString (λ s. w < step_after l s) (λ s. asked_of p x w s ≡ asked_of p x l s) (λ s ok k. asked-stays p x s ok l w h k)
      (strings_of p) ready.lawful.each (before-soonest w k))

  pub soonest-due : (w : ℕ) (next : List ℕ) → l ≤ w → w < soonest → Due p l next → Due p w next
  soonest-due w next h k due = record { size = due.size; each = stays }
    where
      stays : (i : ℕ) → i < p.n → get_or next i 0 ≡ step_after w (get_or p.strings i no_string)
      stays i inside =
          let there : i < length (strings_of p) = omega (arith, strings-count p ready) in
          let under = all-at (λ s. w < step_after l s) (strings_of p) no_string (before-soonest w k) i there in
          let here : w < step_after l (get_or p.strings i no_string) = rw (get_or-take p.n p.strings i no_string inside) at under in
          due.each i inside ∙ sym (step_stays _ (string-at p ready i inside).lawful l w h here)
