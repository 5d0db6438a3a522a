-- A run made longer: what happens on a day does not depend on N, so a list that misses in a run misses in every longer one, on the same day
-- and at the same place.
use Rattle.base.proofs.Prelude.{ℕ, zero, suc, ◌+◌, ◌≤◌, ◌≡◌, refl, sym, ap, ◌∙◌, true, not, ◌&&◌, List, [], ◌∷◌, arith, leb-true, ltb-true, lt-ltb, leb, ltb}
use Rattle.days.specs.{Days.day, declared.Day.Day}
use Rattle.faults.specs.Checks.{in_bounds}
use Rattle.rules.specs.{declared.Plan.Plan, declared.Release.Release, declared.Slot.Slot, declared.Outcome.TheVariants.Miss, Plan.{string_at, with_run}, Demand.moving_cost, Release.{due_day, too_close, out_of_order, release_lawful, unlawful_from, first_unlawful}, Run.{new_slot, join_from, joined, taken, morning, state_at, late_on, miss_day, run_of}}
use Rattle.base.proofs.{Lists.{by_bool, and_left, and_right}, Least.least_from-passes}
use Rattle.laws.proofs.History.{miss_day-before, miss_day-is, run_of-miss}
use Rattle.exact.specs.Missing.{MissesBy}

-- ---- The day of a miss

module _ (p : Plan) (rs : List Release) where
  miss-within : (t : Day) (place : ℕ) → run_of p rs ≡ Miss t place → miss_day p rs ≤ p.run.0
  unfolding run_of
  miss-within t place h =
      by_bool (leb (miss_day p rs) p.run.0)
      (λ yes. leb-true (miss_day p rs) p.run.0 yes)
      (λ no.
      let clean = rw no at h in
      let z : ◌≡◌ {A = ℕ} 0 1 = cc in
      absurd (omega arith))

  -- a run that misses does so within its days
  pub miss-soon : (t : Day) (place : ℕ) → run_of p rs ≡ Miss t place → t.0 ≤ p.run.0
  miss-soon t place h =
      let within = miss-within t place h in
      let said = sym (run_of-miss p rs within) ∙ h in
      let same : day (miss_day p rs) ≡ t = cc in
      omega (arith, ap (λ (d : Day). d.0) same)

  miss_day-late : miss_day p rs ≤ p.run.0 → 1 ≤ late_on p rs (miss_day p rs)
  unfolding miss_day
  miss_day-late within =
      ltb-true 0 (late_on p rs (miss_day p rs)) (least_from-passes (λ t. ltb 0 (late_on p rs t)) 0 (suc p.run.0) (omega arith))

-- ---- A day does not depend on N

module _ (p : Plan) (rs : List Release) (n : ℕ) where
  join_from-run : (t k : ℕ) (qs : List Release) (ss : List Slot) → join_from (with_run p n) t k qs ss ≡ join_from p t k qs ss
  unfolding join_from new_slot
  join_from-run t k [] ss = refl
  join_from-run t k (q ∷ qs) ss = join_from-run t (suc k) qs _

  morning-run : (t : ℕ) (ss : List Slot) → morning (with_run p n) rs t ss ≡ morning p rs t ss
  unfolding morning taken joined moving_cost
  morning-run t ss = rw (join_from-run t 1 rs ss)

  state_at-run : (t : ℕ) → state_at (with_run p n) rs t ≡ state_at p rs t
  unfolding state_at
  state_at-run zero = refl
  state_at-run (suc t) = rw (state_at-run t, morning-run t (state_at p rs t))

  late_on-run : (t : ℕ) → late_on (with_run p n) rs t ≡ late_on p rs t
  unfolding late_on
  late_on-run t = rw (state_at-run t)

-- ---- A longer run

module _ (p : Plan) (rs : List Release) (n m : ℕ) (more : n ≤ m) where
  late_on-same : (t : ℕ) → late_on (with_run p m) rs t ≡ late_on (with_run p n) rs t
  late_on-same t = late_on-run p rs m t ∙ sym (late_on-run p rs n t)

  -- a list that is lawful stays lawful
  release-longer : (seen : List Release) (r : Release) → release_lawful (with_run p n) seen r ≡ true
      → release_lawful (with_run p m) seen r ≡ true
  unfolding release_lawful
  release-longer seen r h =
      let P = in_bounds 1 r.place p.n in
      let N = in_bounds 1 r.need.0 (string_at p r.place).c.0 in
      let D = ltb r.day.0 n in
      let L = in_bounds (due_day r) r.day.0 (due_day r + (string_at p r.place).j.0) in
      let O = not (out_of_order r seen) in
      let A = not (too_close (string_at p r.place).t.0 r seen) in
      let early : ltb r.day.0 n ≡ true =
      and_right (P && N) D (and_left (P && N && D) L (and_left (P && N && D && L) O (and_left (P && N && D && L && O) A h))) in
      let still : ltb r.day.0 m ≡ true = lt-ltb r.day.0 m (omega (arith, ltb-true r.day.0 n early)) in
      rw still (rw early at h)

  list-longer : (seen : List Release) (k : ℕ) (qs : List Release) → 1 ≤ k → unlawful_from (with_run p n) seen k qs ≡ 0
      → unlawful_from (with_run p m) seen k qs ≡ 0
  unfolding unlawful_from
  list-longer seen k [] low h = refl
  list-longer seen k (q ∷ qs) low h =
      by_bool (release_lawful (with_run p n) seen q)
      (λ yes. rw (release-longer seen q yes) (list-longer (q ∷ seen) (suc k) qs (omega arith) (rw yes at h)))
      (λ no.
      let here : k ≡ 0 = rw no at h in
      absurd (omega arith))

  longer-lawful : first_unlawful (with_run p n) rs ≡ 0 → first_unlawful (with_run p m) rs ≡ 0
  unfolding first_unlawful
  longer-lawful h = list-longer [] 1 rs (omega arith) h

  -- a run that misses within n days ends in the same way
  longer-same : miss_day (with_run p n) rs ≤ n → run_of (with_run p m) rs ≡ run_of (with_run p n) rs
  longer-same within =
      let t = miss_day (with_run p n) rs in
      let late = miss_day-late (with_run p n) rs within in
      let first : miss_day (with_run p m) rs ≡ t =
      miss_day-is (with_run p m) rs t (omega arith) (omega (arith, late_on-same t))
      (λ i h. late_on-same i ∙ miss_day-before (with_run p n) rs i h) in
      run_of-miss (with_run p m) rs (omega arith)
      ∙ ap (λ d. Miss (day d) (late_on (with_run p m) rs d)) first
      ∙ ap (λ place. Miss (day t) place) (late_on-same t)
      ∙ sym (run_of-miss (with_run p n) rs within)

  pub longer-misses : (d : ℕ) → MissesBy (with_run p n) rs d → MissesBy (with_run p m) rs d
  longer-misses d misses =
      record {
        listed = longer-lawful misses.listed;
        t = misses.t;
        place = misses.place;
        soon = misses.soon;
        ends = longer-same (miss-within (with_run p n) rs (day misses.t) misses.place misses.ends) ∙ misses.ends;
      }
