-- Job by job: in a run of a plan that passes, each release has, by its deadline, exactly its need in days of work, and the moving cost
-- in moving days if it was the payer of its release day, else none; no day is for it before its release, and none after its deadline.
use Rattle.base.proofs.Prelude.{ℕ, zero, suc, ◌+◌, ◌-◌, ◌≤◌, ◌<◌, ◌≡◌, refl, sym, ap, ◌∙◌, subst, List, arith, dec_le, length, get_or}
use Rattle.rules.specs.{declared.Plan.Plan, declared.Release.Release, Plan.strings_of, Release.{no_release, first_unlawful}, Demand.Passes, Run.{left, given, spent, use_of, joined, taken, morning, state_at, use_on, late_on, history}}
use Rattle.base.specs.Count.{count_of}
use Rattle.laws.proofs.{Lawful.LawfulPlan, JobParts.parts-left, Slots.at, History.history-next, ReleaseList.{str, due_at, release-lawful, released-late}}
use Rattle.sound.specs.Sharp.{SharplyPasses}
use Rattle.sound.specs.Served.{released, due_of, works_for, moves_for, payer_in, payer_on, paid, moving_caused, Served, Untouched}
use Rattle.sound.proofs.{Using.spent-using, Orderly.live-if-left, Arriving.{lawful-str, later-due, morning-orderly}, Morning.{fee, morning-place}, Clean.{Punctual, orderly-at, sharply-punctual}, Sharp.passes-sharply, Progress.{Progress, to_come, serving, past, morning-progress, using-progress}}

module _ (p : Plan) (rs : List Release) (lawful : LawfulPlan p) (listed : first_unlawful p rs ≡ 0)
    (m j : ℕ) (h : m < length rs) (place : (get_or rs m no_release).place ≡ suc j) where
  -- the days for the release so far
  abbrev works : ℕ → ℕ
  works t = count_of (works_for (suc m)) (history p rs t)

  abbrev moves : ℕ → ℕ
  moves t = count_of (moves_for (suc m)) (history p rs t)

  -- what it pays
  abbrev owed : ℕ
  owed = fee p (payer_on p rs (get_or rs m no_release).day.0) j

  there : j < length (strings_of p)
  there = omega (arith, (release-lawful p rs listed m h).within)

  abbrev Sofar : ℕ → Type 0
  Sofar t = Progress rs m j owed t (works t) (moves t) (at (state_at p rs t) j)

  progress-day : (t : ℕ) → Punctual p rs (suc t) → Sofar t → Sofar (suc t)
  unfolding state_at morning use_on late_on payer_on
  progress-day t so_far before =
      let ss = state_at p rs t in
      let o = orderly-at p rs lawful listed t (λ i a. so_far i (omega arith)) in
      let today = so_far t (omega arith) in
      let js = joined p rs t ss in
      let ks = taken p t js in
      let owes : (get_or rs m no_release).day.0 ≡ t → fee p (payer_in t js) j ≡ owed = λ e. ap (λ d. fee p (payer_on p rs d) j) (sym e) in
      let string = lawful-str p lawful j there in
      let mid =
      morning-progress p rs listed m j h place (omega (arith, string.j_max, string.d_max)) owed t (works t) (moves t) (payer_in t js)
      (at ss j) (at ks j)
      owes (morning-place p rs lawful listed t ss o today j there) before in
      let done =
      using-progress p rs m j place owed (suc t) (works t) (moves t) ks (spent (given ks)) (use_of (given ks))
      (morning-orderly p rs lawful listed t ss o today) (spent-using ks) mid in
      rw (history-next p rs t (works_for (suc m)), history-next p rs t (moves_for (suc m))) done

  progress-at : (t : ℕ) → Punctual p rs t → Sofar t
  unfolding history count_of
  progress-at zero so_far = to_come (omega arith) refl refl
  progress-at (suc t) so_far = progress-day t so_far (progress-at t (λ i a. so_far i (omega arith)))

  -- by its deadline the slot has nothing left for it, where nobody has been late
  nothing-owed : (e : ℕ) → Punctual p rs (suc e) → due_at rs m + (str p j).d.0 ≤ e → (at (state_at p rs e) j).serves ≡ suc m
      → left (at (state_at p rs e) j).job ≡ 0
  unfolding late_on
  nothing-owed e so_far due named =
      let s = at (state_at p rs e) j in
      let o = orderly-at p rs lawful listed e (λ i a. so_far i (omega arith)) in
      elim (dec_le 1 (left s.job)) [
        | yes some ↦
            let l = live-if-left p rs e j s (o.sits j there) some in
            let this : l.released.0 ≡ m = omega (arith, l.named) in
            let same : due_at rs l.released.0 ≡ due_at rs m = ap (due_at rs) this in
            let later = later-due p rs lawful listed e (state_at p rs e) o (so_far e (omega arith)) j there l in
            absurd (omega (arith, l.due))
        | no none ↦ omega arith
      ]

  served-by : (e : ℕ) → Punctual p rs (suc e) → due_at rs m + (str p j).d.0 ≤ e → Sofar e
      → (works e ≡ (get_or rs m no_release).need.0) × (moves e ≡ owed)
  served-by e so_far due (to_come before w v) =
      let late = released-late p rs listed j (get_or rs m no_release).day.0 (m, h, place, refl) in
      absurd (omega (arith, (lawful-str p lawful j there).j_max))
  served-by e so_far due (serving before named w v) =
      let s = at (state_at p rs e) j in
      let none = nothing-owed e so_far due named in
      let parts = parts-left s.job in
      (omega arith, omega arith)
  served-by e so_far due (past before named w v) = (w, v)

  -- before its release nothing is done for it
  untouched-by : (e : ℕ) → e ≤ (get_or rs m no_release).day.0 → Sofar e → (works e ≡ 0) × (moves e ≡ 0)
  untouched-by e early (to_come before w v) = (w, v)
  untouched-by e early (serving before named w v) = absurd (omega arith)
  untouched-by e early (past before named w v) = absurd (omega arith)

-- what the release with index m pays, by its place
caused-fee : (p : Plan) (rs : List Release) (m j : ℕ) → (get_or rs m no_release).place ≡ suc j
    → fee p (payer_on p rs (get_or rs m no_release).day.0) j ≡ moving_caused p rs (suc m)
unfolding moving_caused paid
caused-fee p rs m j place =
    let number : suc m - 1 ≡ m = omega arith in
    let index : suc j - 1 ≡ j = omega arith in
    rw (number, place, index)

module _ (p : Plan) (rs : List Release) (lawful : LawfulPlan p) (listed : first_unlawful p rs ≡ 0) where
  -- the place of the release with index m
  placed : (m : ℕ) → m < length rs → (get_or rs m no_release).place ≡ suc ((get_or rs m no_release).place - 1)
  placed m h = omega (arith, (release-lawful p rs listed m h).place_pos)

  -- ---- Before its release

  untouched-index : (m e : ℕ) → m < length rs → Punctual p rs e → e ≤ (get_or rs m no_release).day.0 → Untouched p rs (suc m) e
  untouched-index m e h so_far early =
      let j = (get_or rs m no_release).place - 1 in
      let none = untouched-by p rs lawful listed m j h (placed m h) e early (progress-at p rs lawful listed m j h (placed m h) e so_far) in
      record { work = none.0; moving = none.1 }

  -- no day of a job lies before its release, in any run that has not missed by then
  pub untouched : (k e : ℕ) → 1 ≤ k → k ≤ length rs → Punctual p rs e → e ≤ (released rs k).day.0 → Untouched p rs k e
  untouched k e low high so_far early =
      let number : suc (k - 1) ≡ k = omega arith in
      subst (λ n. Untouched p rs n e) number (untouched-index (k - 1) e (omega arith) so_far early)

  -- ---- By its deadline

  served-index : (m e : ℕ) → m < length rs → Punctual p rs (suc e) → due_of p (get_or rs m no_release) ≤ e → Served p rs (suc m) e
  served-index m e h so_far due =
      let j = (get_or rs m no_release).place - 1 in
      let progress = progress-at p rs lawful listed m j h (placed m h) e (λ i a. so_far i (omega arith)) in
      let done = served-by p rs lawful listed m j h (placed m h) e so_far due progress in
      let number : suc m - 1 ≡ m = omega arith in
      record { work = rw number done.0; moving = done.1 ∙ caused-fee p rs m j (placed m h) }

  -- the k-th release, in the history up to any day e from its deadline on, in any run that has not missed up to e
  pub served-punctual : (k e : ℕ) → 1 ≤ k → k ≤ length rs → Punctual p rs (suc e) → due_of p (released rs k) ≤ e → Served p rs k e
  served-punctual k e low high so_far due =
      let number : suc (k - 1) ≡ k = omega arith in
      subst (λ n. Served p rs n e) number (served-index (k - 1) e (omega arith) so_far due)

  -- In a run that is late on no day up to N, whatever the verdict: each job whose deadline lies within the run has had all its work, and
  -- any moving it caused, on days from its release on and before its deadline.
  pub served-clean : Punctual p rs (suc p.run.0) → (k : ℕ) → 1 ≤ k → k ≤ length rs → due_of p (released rs k) ≤ p.run.0
      → Untouched p rs k (released rs k).day.0 × Served p rs k (due_of p (released rs k))
  served-clean so_far k low high due =
      let early = (release-lawful p rs listed (k - 1) (omega arith)).early in (
        untouched k (released rs k).day.0 low high (λ i a. so_far i (omega arith)) (omega arith),
        served-punctual k (due_of p (released rs k)) low high (λ i a. so_far i (omega arith)) (omega arith),
      )

  -- In a run of a plan that passes. Where e is at most N this is the history of the run; after it the definition goes on with no further
  -- release.
  pub sharply-served : SharplyPasses p → (k e : ℕ) → 1 ≤ k → k ≤ length rs → due_of p (released rs k) ≤ e → Served p rs k e
  sharply-served sharp k e low high due = served-punctual k e low high (sharply-punctual p rs lawful listed sharp (suc e)) due

  pub served : Passes p → (k e : ℕ) → 1 ≤ k → k ≤ length rs → due_of p (released rs k) ≤ e → Served p rs k e
  served passes = sharply-served (passes-sharply p passes)
