-- A plan that passes with smaller T never misses on releases that are lawful for the larger: they are lawful for the smaller too, and a run
-- never looks at T. Nothing is asked of the plan with the larger T: its H may be over 100,000.
use Rattle.base.proofs.Prelude.{ℕ, suc, ◌+◌, ◌≤◌, ◌≡◌, sym, ap, ◌∙◌, Bool, true, false, not, ◌&&◌, List, [], ◌∷◌, arith, eqb, ltb, le-ltb, ltb-false, not-true}
use Rattle.base.proofs.Lists.{by_bool, and_left, and_right, and_both}
use Rattle.faults.specs.Checks.{in_bounds}
use Rattle.rules.specs.{declared.BatteryString.BatteryString, declared.Plan.Plan, declared.Release.Release, declared.Outcome.TheVariants.Clean, Plan.string_at, Release.{too_close, out_of_order, release_lawful, unlawful_from, first_unlawful, due_day}, Demand.Passes, Run.{is_work, is_move, is_idle, days_of, run_of}}
use Rattle.laws.proofs.Lawful.{LawfulPlan}
use Rattle.sound.proofs.Clean.{run-clean}
use Rattle.spacing.specs.Closer.{untimed_string, Closer}
use Rattle.spacing.proofs.Untimed.{untimed-at, run-untimed}

-- far enough apart for more days is far enough for fewer
close-fewer : (s t : ℕ) (r : Release) (seen : List Release) → s ≤ t → too_close t r seen ≡ false → too_close s r seen ≡ false
unfolding too_close
close-fewer s t r [] h far = far
close-fewer s t r (q ∷ seen) h far =
    by_bool (eqb q.place r.place)
    (λ same.
    let apart = ltb-false (due_day r) (due_day q + t) (rw same at far) in
    rw same (le-ltb (due_day r) (due_day q + s) (omega arith)))
    (λ other. rw other (close-fewer s t r seen h (rw other at far)))

-- what is asked of a release beside its distance to others
abbrev front : ℕ → ℕ → ℕ → ℕ → List Release → Release → Bool
front n c run j seen r =
    in_bounds 1 r.place n
    && in_bounds 1 r.need.0 c
    && ltb r.day.0 run
    && in_bounds (due_day r) r.day.0 (due_day r + j)
    && not (out_of_order r seen)

module _ (p q : Plan) (closer : Closer q p) where
  string-alike : (i : ℕ) → untimed_string (string_at q i) ≡ untimed_string (string_at p i)
  string-alike i = sym (untimed-at q i) ∙ ap (λ r. string_at r i) closer.alike ∙ untimed-at p i

  release-fewer : (seen : List Release) (r : Release) → release_lawful p seen r ≡ true → release_lawful q seen r ≡ true
  unfolding release_lawful
  release-fewer seen r ok =
      let s = string_at q r.place in
      let z = string_at p r.place in
      let is = string-alike r.place in
      let same : front q.n s.c.0 q.run.0 s.j.0 seen r ≡ front p.n z.c.0 p.run.0 z.j.0 seen r =
      ap (λ (w : Plan). front w.n s.c.0 w.run.0 s.j.0 seen r) closer.alike
      ∙ ap (λ (w : BatteryString). front p.n w.c.0 p.run.0 w.j.0 seen r) is in
      let rest = front p.n z.c.0 p.run.0 z.j.0 seen r in
      let apart = not-true _ (and_right rest (not (too_close z.t.0 r seen)) ok) in
      let far = close-fewer s.t.0 z.t.0 r seen (closer.shorter r.place) apart in
      and_both _ _ (same ∙ and_left rest (not (too_close z.t.0 r seen)) ok) (ap not far)

  list-fewer : (seen : List Release) (k : ℕ) (rs : List Release) → unlawful_from p seen (suc k) rs ≡ 0 → unlawful_from q seen (suc k) rs ≡ 0
  unfolding unlawful_from
  list-fewer seen k [] none = none
  list-fewer seen k (r ∷ rs) none =
      by_bool (release_lawful p seen r)
      (λ ok. rw (release-fewer seen r ok) (list-fewer (r ∷ seen) (suc k) rs (rw ok at none)))
      (λ bad.
      let z : suc k ≡ 0 = rw bad at none in
      absurd (omega arith))

  -- what is lawful for the larger T is lawful for the smaller
  pub lawful-for-fewer : (rs : List Release) → first_unlawful p rs ≡ 0 → first_unlawful q rs ≡ 0
  unfolding first_unlawful
  lawful-for-fewer rs none = list-fewer [] 0 rs none

  -- and runs the same
  pub closer-runs-alike : (rs : List Release) → run_of p rs ≡ run_of q rs
  closer-runs-alike rs = sym (run-untimed p rs) ∙ ap (λ r. run_of r rs) (sym closer.alike) ∙ run-untimed q rs

  pub closer-never-misses : LawfulPlan q → Passes q → (rs : List Release) → first_unlawful p rs ≡ 0
      → run_of p rs ≡ Clean (days_of q rs is_work) (days_of q rs is_move) (days_of q rs is_idle)
  closer-never-misses lawful passes rs listed =
      closer-runs-alike rs ∙ run-clean q rs lawful (lawful-for-fewer rs listed) passes
