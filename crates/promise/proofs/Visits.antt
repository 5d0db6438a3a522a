-- The contractor's visit list (document 02, W-211), of what `check_visits` answered: accepted exactly if the six rules hold; 14 and 15
-- exactly where the page gives them, 4 to 8 before both; and our own clean run is accepted where moving is free and every deadline lies
-- within it, as records and as a text.
-- The clause of `check_visits` is written out: r is its answer for the plan p, the releases rs and a lent list whose records are vs. That
-- it is the function's own is `visits-answered`.
use Rattle.base.proofs.Prelude.{ℕ, ◌≤◌, ◌≡◌, refl, sym, ◌∙◌, subst, ◌↔◌, arith, leb, ltb, lt-ltb, le-leb, leb-true, ltb-true, ap, length, take, take_at}
use Rattle.faults.specs.Checks.{Lawful, Checked}
use Rattle.faults.specs.declared.Refusal.{Refusal}
use Rattle.std.specs.Prelude.{Ok, Result}
use Rattle.base.proofs.Lists.{All}
use Rattle.days.specs.declared.Length.{Length}
use Rattle.faults.specs.declared.Fault.TheVariants.{VisitUnlawful, SumDiffers}
use Rattle.faults.specs.Checks.{fault_number, then, refuse_if}
use Rattle.faults.proofs.Refusing.{Refusals, refusals-then, refusals-if}
use Rattle.rules.specs.declared.Plan.{Plan}
use Rattle.rules.specs.declared.Releases.{Releases}
use Rattle.rules.specs.declared.Outcome.TheVariants.{Clean}
use Rattle.rules.specs.Plan.{strings_of}
use Rattle.rules.specs.Demand.{moving_cost}
use Rattle.rules.specs.Release.{releases_of, released, deadline_of}
use Rattle.rules.specs.Refusal.{run_check}
use Rattle.rules.specs.Said.{refused, checked_says}
use Rattle.laws.proofs.RefusedBy.{Never, run_check-numbers, never-above, if-says, first_says, second-says}
use Rattle.visits.specs.{declared.Visit.Visit, declared.OwnVisits.OwnVisits, Visits.{first_breaking, first_short, visit_list_check, visits_check}, Accepted.Accepted, OwnRun.{run_visits, handed_out, own_visits}, Texts.{visits_text, visit_text_check}}
use Rattle.visits.proofs.{AcceptedExactly.accepted-exactly, OwnRun.clean-run-accepted, OwnText.own-text-accepted}
use Rattle.sound.proofs.CleanAnswer.{answer-clean}
use Rattle.visits.proofs.check_visits.Reads as check-visits
use Rattle.visits.proofs.own_visits.Reads as own-visits
use Rattle.visits.proofs.check_visit_text.Reads as check-visit-text
use Rattle.run.proofs.run.Reads as run
use contract.Lifetimes.{Lfts}
use mathlib.Core.List.{List}

-- a is the plan, the releases and the lent list
pub visits-answered : (κs : Lfts 1) (a : _) (e : _) (r : Checked) → check-visits.Learnt κs a r e → r ≡ visits_check a.0 a.1.0 a.1.1.0.now
visits-answered κs a e r h = h.0

module _ (p : Plan) (rs : Releases) (vs : List Visit) (r : Checked) (answered : r ≡ visits_check p rs vs) where
  -- the records, then the sums
  abbrev records : Checked
  records = refuse_if (ltb 0 (first_breaking p (releases_of rs) vs)) VisitUnlawful (first_breaking p (releases_of rs) vs)

  abbrev sums : Checked
  sums = refuse_if (leb (first_short p (releases_of rs) vs) (length (releases_of rs))) SumDiffers (first_short p (releases_of rs) vs)

  -- which numbers the two never give
  records-never : (n : ℕ) → (fault_number VisitUnlawful ≡ n → ⊥) → Refusals (Never n) records
  records-never n other =
      refusals-if (Never n) (ltb 0 (first_breaking p (releases_of rs) vs)) VisitUnlawful (first_breaking p (releases_of rs) vs) other

  sums-never : (n : ℕ) → (fault_number SumDiffers ≡ n → ⊥) → Refusals (Never n) sums
  sums-never n other =
      let short = first_short p (releases_of rs) vs in
      refusals-if (Never n) (leb short (length (releases_of rs))) SumDiffers short other

  checks-are : r ≡ then (run_check p rs) (then records sums)
  unfolding visits_check visit_list_check
  checks-are = answered

  -- accepted exactly if all the rules hold
  pub visits-accepted : (r ≡ Lawful) ↔ ((run_check p rs ≡ Lawful) × Accepted p (releases_of rs) vs)
  visits-accepted = (
    λ h. (accepted-exactly p rs vs).0 (sym answered ∙ h),
    λ h. answered ∙ (accepted-exactly p rs vs).1 h,
  )

  -- 14 exactly with the number of the first record that breaks a rule, where 4 to 8 find nothing
  pub visits-fourteen : (k : ℕ) → (checked_says r ≡ refused 14 k) ↔ ((run_check p rs ≡ Lawful) × (1 ≤ k)
      × (first_breaking p (releases_of rs)
      vs ≡ k))
  visits-fourteen k =
      let bad = first_breaking p (releases_of rs) vs in
      let plan = second-says 14 k (run_check p rs) (then records sums)
      (never-above 14 8 (omega arith) (run_check p rs) (run_check-numbers p rs)) in
      let first = first_says 14 k records sums (sums-never 14 (λ h. omega arith)) in
      let says = if-says 14 k (ltb 0 bad) VisitUnlawful bad in (
        λ h.
            let both = plan.0 (subst (λ c. checked_says c ≡ refused 14 k) checks-are h) in
            let found = says.0 (first.0 both.1) in
            (both.0, omega (arith, ltb-true 0 bad found.0, found.2), found.2),
        λ h. subst (λ c. checked_says c ≡ refused 14 k) (sym checks-are)
            (plan.1 (h.0, first.1 (says.1 (lt-ltb 0 bad (omega (arith, h.1, h.2)), refl, h.2)))),
      )

  -- 15 exactly with the first release that does not add up, where no record breaks a rule
  pub visits-fifteen : (k : ℕ)
      → (checked_says r ≡ refused 15 k)
      ↔ ((run_check p rs ≡ Lawful) × (records ≡ Lawful) × (k ≤ length (releases_of rs)) × (first_short p (releases_of rs) vs ≡ k))
  visits-fifteen k =
      let short = first_short p (releases_of rs) vs in
      let plan = second-says 15 k (run_check p rs) (then records sums)
      (never-above 15 8 (omega arith) (run_check p rs) (run_check-numbers p rs)) in
      let second = second-says 15 k records sums (records-never 15 (λ h. omega arith)) in
      let says = if-says 15 k (leb short (length (releases_of rs))) SumDiffers short in (
        λ h.
            let both = plan.0 (subst (λ c. checked_says c ≡ refused 15 k) checks-are h) in
            let last = second.0 both.1 in
            let found = says.0 last.1 in
            (both.0, last.0, omega (arith, leb-true short (length (releases_of rs)) found.0, found.2), found.2),
        λ h. subst (λ c. checked_says c ≡ refused 15 k) (sym checks-are)
            (plan.1 (h.0, second.1 (h.1, says.1 (le-leb short (length (releases_of rs)) (omega (arith, h.2, h.3)), refl, h.3)))),
      )

  -- every other number comes from the plan and its releases, and before both
  pub visits-refused-as-run : (n k : ℕ) → n ≤ 8 → (checked_says r ≡ refused n k) ↔ (checked_says (run_check p rs) ≡ refused n k)
  visits-refused-as-run n k low =
      let first = first_says n k (run_check p rs) (then records sums)
      (refusals-then (Never n) records sums (records-never n (λ h. omega arith)) (sums-never n (λ h. omega arith))) in (
        λ h. first.0 (subst (λ c. checked_says c ≡ refused n k) checks-are h),
        λ h. subst (λ c. checked_says c ≡ refused n k) (sym checks-are) (first.1 h),
      )

-- Of what `run` answered and what `check_visits` answered for the visits of that run: a is the plan and the releases.
pub own-run-visits : (κs : Lfts 0) (a : _) (e : _) (w m i : Length) (r : Checked) → run.Learnt κs a (Ok (Clean w m i)) e
    → r ≡ visits_check a.0 a.1.0 (run_visits a.0 (releases_of a.1.0))
    → All (λ s. moving_cost a.0 s ≡ 0) (strings_of a.0)
    → ((k : ℕ) → 1 ≤ k → k ≤ length (releases_of a.1.0) → deadline_of a.0 (released (releases_of a.1.0) k) ≤ a.0.run.0)
    → r ≡ Lawful
own-run-visits κs a e w m i r ran answered free inside =
    answered ∙ clean-run-accepted a.0 a.1.0 w m i (sym ran) free inside

-- The same of a text: what `check_visit_text` answered for the lines of the visits that `own_visits` gave; it gave some, of such a run.
-- Its arguments are the plan, the releases and the text.
module _ (κs κt : Lfts 0) (a : _) (e f : _) (w m i : Length) (given : Result OwnVisits Refusal)
    (ran : run.Learnt κs a (Ok (Clean w m i)) e)
    (gave : own-visits.Learnt κt a given f)
  where
    own-are : given ≡ Ok (handed_out (run_visits a.0 (releases_of a.1.0)))
    unfolding own_visits
    own-are =
        let good = (answer-clean a.0 w m i a.1.0 (sym ran)).0 in
        gave ∙ rw good

    pub own-text-visits : (own : OwnVisits) × (given ≡ Ok own)
        × ((κu : Lfts 1) (b : _) (g : _) (r : Checked) → check-visit-text.Learnt κu b r g → b.0 ≡ a.0 → b.1.0 ≡ a.1.0
        → b.1.1.0.now ≡ visits_text (take own.count own.list)
        → All (λ s. moving_cost a.0 s ≡ 0) (strings_of a.0)
        → ((k : ℕ) → 1 ≤ k → k ≤ length (releases_of a.1.0) → deadline_of a.0 (released (releases_of a.1.0) k) ≤ a.0.run.0)
        → r ≡ Lawful)
    own-text-visits =
        let vs = run_visits a.0 (releases_of a.1.0) in (
          handed_out vs,
          own-are,
          λ κu b g r answered plan list text free inside.
              answered.0
              ∙ ap (λ p. visit_text_check p b.1.0 b.1.1.0.now) plan
              ∙ ap (λ rs. visit_text_check a.0 rs b.1.1.0.now) list
              ∙ ap (visit_text_check a.0 a.1.0) (text ∙ ap visits_text (take_at vs _ (length vs) refl))
              ∙ own-text-accepted a.0 a.1.0 w m i (sym ran) free inside,
        )
