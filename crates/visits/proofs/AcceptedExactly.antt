-- The check finds nothing exactly where the plan and its releases are lawful and the list keeps the six rules of the page, each over the
-- whole list.
use Rattle.base.proofs.Prelude.{ℕ, zero, suc, ◌≤◌, ◌<◌, ◌≡◌, sym, ◌↔◌, false, not, List, [], ◌∷◌, arith, leb, ltb, le-ltb, ltb-false, lt-leb, eqb-true, eq-eqb, not-false, not-suc-le-zero, length, ap, ℕ_discrete}
use Rattle.faults.specs.Checks.{Lawful}
use borrow.Author.Tests.{leb-false}
use Rattle.base.specs.Count.{least_from}
use Rattle.base.proofs.{Lists.{All, all-at, all-by}, Order.Rising, Least.{least_from-before, least_from-none}}
use Rattle.faults.specs.declared.Fault.TheVariants.{VisitUnlawful, SumDiffers}
use Rattle.faults.specs.Checks.{refuse_if}
use Rattle.faults.proofs.Checks.{then-first, then-second, refuse_if-not}
use Rattle.rules.specs.{declared.Plan.Plan, declared.Release.Release, declared.Releases.Releases, Release.releases_of, Refusal.run_check}
use Rattle.visits.specs.{declared.Visit.Visit, Visits.{end_of_visit, days_for, days_asked, adds_up, first_breaking, first_short, visit_list_check, visits_check}, Accepted.{no_visit, visit_at, Follows, Accepted}}
use Rattle.visits.proofs.Records.{LawfulVisit, ClearBefore, none-breaking}

-- ---- By index

module _ (R : Visit → Visit → Type 0) where
  rising-at : (vs : List Visit) → Rising R vs → (i j : ℕ) → i < j → j < length vs → R (visit_at vs i) (visit_at vs j)
  rising-at [] rise i j less within = absurd (not-suc-le-zero within)
  rising-at (v ∷ vs) rise i zero less within = absurd (not-suc-le-zero less)
  rising-at (v ∷ vs) rise zero (suc j) less within = all-at (R v) vs no_visit rise.0 j (omega arith)
  rising-at (v ∷ vs) rise (suc i) (suc j) less within = rising-at vs rise.1 i j (omega arith) (omega arith)

  rising-by : (vs : List Visit) → ((i j : ℕ) → i < j → j < length vs → R (visit_at vs i) (visit_at vs j)) → Rising R vs
  rising-by [] each = tt
  rising-by (v ∷ vs) each = (
    all-by (R v) vs no_visit (λ j within. each 0 (suc j) (omega arith) (omega arith)),
    rising-by vs (λ i j less within. each (suc i) (suc j) (omega arith) (omega arith)),
  )

-- ---- Sums

module _ (p : Plan) (rs : List Release) (vs : List Visit) where
  all-add-up : leb (first_short p rs vs) (length rs) ≡ false → (k : ℕ) → 1 ≤ k → k ≤ length rs → days_for k vs ≡ days_asked p rs vs k
  unfolding first_short
  all-add-up none k low high =
      let over = leb-false (least_from (λ m. not (adds_up p rs vs m)) 1 (length rs)) (length rs) none in
      eqb-true _ _ (not-false (adds_up p rs vs k) (least_from-before (λ m. not (adds_up p rs vs m)) 1 (length rs) k low (omega arith)))

  none-short : ((k : ℕ) → 1 ≤ k → k ≤ length rs → days_for k vs ≡ days_asked p rs vs k) → leb (first_short p rs vs) (length rs) ≡ false
  unfolding first_short
  none-short sums =
      let all =
      least_from-none (λ m. not (adds_up p rs vs m)) 1 (length rs)
      (λ k low high. ap not (eq-eqb _ _ (sums k low (omega arith)))) in
      lt-leb (least_from (λ m. not (adds_up p rs vs m)) 1 (length rs)) (length rs) (omega arith)

-- ---- The rules

module _ (p : Plan) (rs : List Release) (vs : List Visit) where
  -- two that follow each other, the second on the day on which the first has ended, have no visit between them
  follow-close : Accepted p rs vs → (i j : ℕ) → i < j → j < length vs → (visit_at vs j).release ≡ (visit_at vs i).release
      → end_of_visit (visit_at vs i) ≡ (visit_at vs j).first.0 → Follows vs i j
  follow-close a i j less within same meets =
      record {
        later = less;
        same = same;
        none_between = λ m low high serves.
            absurd (omega (arith, a.in_order i m low (omega arith), a.in_order m j high within, a.long m (omega arith)));
      }

  accepted-clear : Accepted p rs vs → (i j : ℕ) → i < j → j < length vs → ClearBefore p rs (visit_at vs i) (visit_at vs j)
  accepted-clear a i j less within = (
    a.in_order i j less within,
    λ same.
        elim (ℕ_discrete (end_of_visit (visit_at vs i)) (visit_at vs j).first.0) [
          | yes meets ↦ absurd (a.apart i j within (follow-close a i j less within (sym same) meets) meets)
          | no apart ↦ omega (arith, a.in_order i j less within)
        ],
  )

  accepted-each : Accepted p rs vs → (i : ℕ) → i < length vs → LawfulVisit p rs (visit_at vs i)
  accepted-each a i within =
      record {
        long = a.long i within;
        low = (a.listed i within).0;
        high = (a.listed i within).1;
        since = a.since i within;
        due = a.due i within;
      }

  pub accepted-of : All (LawfulVisit p rs) vs → Rising (ClearBefore p rs) vs
      → ((k : ℕ) → 1 ≤ k → k ≤ length rs → days_for k vs ≡ days_asked p rs vs k) → Accepted p rs vs
  accepted-of good rise sums =
      let each = all-at (LawfulVisit p rs) vs no_visit good in
      let clear = rising-at (ClearBefore p rs) vs rise in
      record {
        long = λ i within. (each i within).long;
        in_order = λ i j less within. (clear i j less within).0;
        listed = λ i within. ((each i within).low, (each i within).high);
        apart = λ i j within f meets. omega (arith, (clear i j f.later within).1 (sym f.same));
        since = λ i within. (each i within).since;
        due = λ i within. (each i within).due;
        sums = sums;
      }

  -- the list alone
  pub list-accepted : (visit_list_check p rs vs ≡ Lawful) ↔ Accepted p rs vs
  unfolding visit_list_check
  list-accepted = (
    λ h.
        let bad = first_breaking p rs vs in
        let short = first_short p rs vs in
        let first = refuse_if (ltb 0 bad) VisitUnlawful bad in
        let second = refuse_if (leb short (length rs)) SumDiffers short in
        let none : bad ≤ 0 = ltb-false 0 bad (refuse_if-not (ltb 0 bad) VisitUnlawful bad (then-first first second h)) in
        let lawful = (none-breaking p rs vs).0 (omega arith) in
        accepted-of lawful.0 lawful.1
        (all-add-up p rs vs (refuse_if-not (leb short (length rs)) SumDiffers short (then-second first second h))),
    λ a.
        let none =
        (none-breaking p rs vs).1
        (all-by (LawfulVisit p rs) vs no_visit (accepted-each a), rising-by (ClearBefore p rs) vs (accepted-clear a)) in
        rw (le-ltb 0 (first_breaking p rs vs) (omega arith), none-short p rs vs a.sums),
  )

-- accepted exactly if all the rules hold
pub accepted-exactly : (p : Plan) (rs : Releases) (vs : List Visit)
    → (visits_check p rs vs ≡ Lawful) ↔ ((run_check p rs ≡ Lawful) × Accepted p (releases_of rs) vs)
unfolding visits_check
accepted-exactly p rs vs = (
  λ h.
      let list = visit_list_check p (releases_of rs) vs in
      (then-first (run_check p rs) list h, (list-accepted p (releases_of rs) vs).0 (then-second (run_check p rs) list h)),
  λ h. rw h.0 ((list-accepted p (releases_of rs) vs).1 h.1),
)
