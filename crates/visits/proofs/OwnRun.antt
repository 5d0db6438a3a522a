-- The visits of our own clean run are accepted, where all moving costs are 0 and every deadline lies within the run: each day is for a
-- release that has joined and is not yet due, and each release has had exactly its need.
use Rattle.base.proofs.Prelude.{ℕ, zero, suc, ◌+◌, ◌-◌, ◌*◌, ◌≤◌, ◌<◌, ◌≡◌, refl, sym, ap, ◌∙◌, subst, Bool, true, false, cond, ◌&&◌, List, [], ◌∷◌, ◌++◌, arith, ℕ_discrete, eqb, length, eqb-true, eqb-false, eq-eqb, ne_eqb, zero-mul, le_refl, min}
use Rattle.faults.specs.Checks.{Lawful}
use Rattle.std.specs.Prelude.{Ok}
use Rattle.base.specs.Count.{sum_of, keep, count_of}
use Rattle.base.proofs.{Lists.{All, by_bool, and_left, and_right, and_both, all_map, all-at}, Order.Rising}
use Rattle.days.specs.{declared.Length.Length, Days.{day, days}}
use Rattle.rules.specs.declared.Plan.{Plan}
use Rattle.rules.specs.declared.Release.{Release}
use Rattle.rules.specs.declared.Use.{Use}
use Rattle.rules.specs.declared.Releases.{Releases}
use Rattle.rules.specs.declared.Use.TheVariants.{Idle, Work, Move}
use Rattle.rules.specs.declared.Outcome.TheVariants.{Clean}
use Rattle.rules.specs.Plan.{strings_of, string_at, no_string}
use Rattle.rules.specs.Demand.{moving_cost}
use Rattle.rules.specs.Release.{releases_of, first_unlawful, released, deadline_of}
use Rattle.rules.specs.Run.{history, use_on, miss_day}
use Rattle.rules.specs.Refusal.{run_answer}
use Rattle.rules.specs.Stints.{release_used, days_run}
use Rattle.laws.proofs.{Lawful.LawfulPlan, History.{history-length, miss_day-none}, Releases.run_check-lawful, ReleaseList.release-lawful}
use Rattle.sound.specs.Served.{works_for, moves_for, moving_caused, paid, Named}
use Rattle.sound.proofs.{Clean.Punctual, CleanAnswer.answer-clean, Naming.day-named, Served.served-punctual}
use Rattle.visits.specs.{declared.Visit.Visit, Visits.{end_of_visit, visits_for, days_for, visits_check}, Accepted.Accepted, OwnRun.{one_day, joined_to, day_before, visits_from, visits_to, run_visits}}
use Rattle.visits.proofs.{Records.{LawfulVisit, ClearBefore}, AcceptedExactly.{accepted-of, accepted-exactly}, Reached.{days-this, days-other}}

-- ---- Each day

-- what holds of each use, and of its day
abbrev pub DayByDay : (ℕ → Use → Type 0) → ℕ → List Use → Type 0
DayByDay P t [] = Unit {0}
DayByDay P t (u ∷ us) = P t u × DayByDay P (suc t) us

day-more : (P : ℕ → Use → Type 0) (t : ℕ) (us : List Use) (u : Use) → DayByDay P t us → P (t + length us) u → DayByDay P t (us ++ (u ∷ []))
day-more P t [] u h last =
    let here : t + 0 ≡ t = omega arith in
    (subst (λ d. P d u) here last, tt)
day-more P t (w ∷ us) u h last =
    let later : t + suc (length us) ≡ suc t + length us = omega arith in
    (h.0, day-more P (suc t) us u h.1 (subst (λ d. P d u) later last))

module _ (p : Plan) (rs : List Release) where
  pub history_named : LawfulPlan p → first_unlawful p rs ≡ 0 → (e : ℕ) → Punctual p rs e → DayByDay (Named p rs) 0 (history p rs e)
  unfolding history
  history_named lawful listed zero so_far = tt
  history_named lawful listed (suc e) so_far =
      let before = history_named lawful listed e (λ i a. so_far i (omega arith)) in
      let long = history-length p rs e in
      let here : e ≡ 0 + length (history p rs e) = omega arith in
      day-more (Named p rs) 0 (history p rs e) (use_on p rs e) before
      (subst (λ d. Named p rs d (use_on p rs e)) here (day-named p rs e lawful listed so_far))

  -- ---- The visits keep the rules

  -- every visit is lawful and starts on day t or later, and each is clear of those before it
  pub record InTurn (t : ℕ) (vs : List Visit) : Type 0 where
    pub good : All (LawfulVisit p rs) vs
    pub late : All (λ v. t ≤ v.first.0) vs
    pub rise : Rising (ClearBefore p rs) vs

  in-turn-later : (t : ℕ) (vs : List Visit) → InTurn (suc t) vs → InTurn t vs
  in-turn-later t vs h =
      record {
        good = h.good;
        late = all_map (λ v. suc t ≤ v.first.0) (λ v. t ≤ v.first.0) (λ v l. omega arith) vs h.late;
        rise =
            h.rise;
      }

  -- a day for a release
  pub record ForDay (t k : ℕ) : Type 0 where
    pub low : 1 ≤ k
    pub high : k ≤ length rs
    pub since : (released rs k).day.0 ≤ t
    pub due : t < deadline_of p (released rs k)

  module _ (t k : ℕ) (this : ForDay t k) where
    one-lawful : LawfulVisit p rs (one_day k t)
    one-lawful =
        record { long = omega arith; low = this.low; high = this.high; since = this.since; due = omega (arith, this.due) }

    in-turn-joined : (v : Visit) (vs : List Visit) → InTurn (suc t) (v ∷ vs) → v.release ≡ k → v.first.0 ≡ suc t
        → InTurn t (record { release = k; first = day t; length = days (suc v.length.0) } ∷ vs)
    in-turn-joined v vs h same next =
        let longer : Visit = record { release = k; first = day t; length = days (suc v.length.0) } in
        let ends : end_of_visit longer ≡ end_of_visit v = omega arith in
        let due : end_of_visit v ≤ deadline_of p (released rs k) =
        subst (λ r. end_of_visit v ≤ deadline_of p (released rs r)) same h.good.0.due in
        record {
          good = (
            record { long = omega arith; low = this.low; high = this.high; since = this.since; due = omega arith },
            h.good.1,
          );
          late = (le_refl t, all_map (λ w. suc t ≤ w.first.0) (λ w. t ≤ w.first.0) (λ w l. omega arith) vs h.late.1);
          rise = (
            all_map (ClearBefore p rs v) (ClearBefore p rs longer) (λ w c. (omega (arith, c.0), λ r. omega (arith, c.1 (same ∙ r)))) vs
                h.rise.0,
            h.rise.1,
          );
        }

    in-turn-new : (v : Visit) (vs : List Visit) → InTurn (suc t) (v ∷ vs) → (v.release ≡ k → v.first.0 ≡ suc t → ⊥)
        → InTurn t (one_day k t ∷ v ∷ vs)
    in-turn-new v vs h apart =
        let long = h.good.0.long in
        let starts = h.late.0 in
        record {
          good = (one-lawful, h.good);
          late = (le_refl t, (in-turn-later t (v ∷ vs) h).late);
          rise = (
            (
              (
                omega arith,
                λ r.
                    elim (ℕ_discrete v.first.0 (suc t)) [
                      | yes next ↦ absurd (apart (sym r) next)
                      | no other ↦ omega arith
                    ],
              ),
              all_map (ClearBefore p rs v) (ClearBefore p rs (one_day k t)) (λ w c. (omega (arith, c.0), λ r. omega (arith, c.0))) vs
                  h.rise.0,
            ),
            h.rise,
          );
        }

    in-turn-day : (vs : List Visit) → InTurn (suc t) vs → InTurn t (joined_to t k vs)
    unfolding joined_to
    in-turn-day [] h = record { good = (one-lawful, tt); late = (le_refl t, tt); rise = (tt, tt) }
    in-turn-day (v ∷ vs) h =
        let A = eqb v.release k in
        let B = eqb v.first.0 (suc t) in
        by_bool (A && B)
        (λ both. rw both (in-turn-joined v vs h (eqb-true _ _ (and_left A B both)) (eqb-true _ _ (and_right A B both))))
        (λ apart. rw apart (in-turn-new v vs h (λ same next. both-not A B apart (eq-eqb _ _ same) (eq-eqb _ _ next))))
      where
        both-not : (a b : Bool) → (a && b) ≡ false → a ≡ true → b ≡ true → ⊥
        both-not a b not-both one two =
            let z : true ≡ false = sym (and_both a b one two) ∙ not-both in
            let y : ◌≡◌ {A = ℕ} 0 1 = cc in
            omega arith

  -- a day that is named keeps the turn
  in-turn-use : (t : ℕ) (u : Use) (vs : List Visit) → Named p rs t u → InTurn (suc t) vs → InTurn t (day_before t (release_used u) vs)
  unfolding day_before
  in-turn-use t Idle vs named h = in-turn-later t vs h
  in-turn-use t (Work i k) vs named h =
      let this : ForDay t k = record { low = named.low; high = named.high; since = named.since; due = named.due } in
      let some : eqb k 0 ≡ false = ne_eqb k 0 (λ e. omega (arith, named.low)) in
      rw some (in-turn-day t k this vs h)
  in-turn-use t (Move i k) vs named h =
      let this : ForDay t k = record { low = named.low; high = named.high; since = named.since; due = named.due } in
      let some : eqb k 0 ≡ false = ne_eqb k 0 (λ e. omega (arith, named.low)) in
      rw some (in-turn-day t k this vs h)

  pub in-turn-from : (t : ℕ) (us : List Use) → DayByDay (Named p rs) t us → InTurn t (visits_from t us)
  unfolding visits_from
  in-turn-from t [] named = record { good = tt; late = tt; rise = tt }
  in-turn-from t (u ∷ us) named = in-turn-use t u (visits_from (suc t) us) named.0 (in-turn-from (suc t) us named.1)

-- ---- The days add up

-- the days that serve the k-th release
abbrev serves_release : ℕ → Use → Bool
serves_release k u = eqb (release_used u) k

module _ (k : ℕ) (low : 1 ≤ k) where
  days-one : (v : Visit) (ws : List Visit) → v.length.0 ≡ 1 → days_for k (v ∷ ws) ≡ cond (eqb v.release k) 1 0 + days_for k ws
  days-one v ws one =
      by_bool (eqb v.release k)
      (λ same. rw same (omega (arith, days-this k v ws (eqb-true _ _ same))))
      (λ other. rw other (omega (arith, days-other k v ws (eqb-false _ _ other))))

  days-joined : (t j : ℕ) (vs : List Visit) → days_for k (joined_to t j vs) ≡ cond (eqb j k) 1 0 + days_for k vs
  unfolding joined_to
  days-joined t j [] = days-one (one_day j t) [] refl
  days-joined t j (v ∷ vs) =
      let longer : Visit = record { release = j; first = day t; length = days (suc v.length.0) } in
      by_bool (eqb v.release j && eqb v.first.0 (suc t))
      (λ both.
      let same : v.release ≡ j = eqb-true _ _ (and_left (eqb v.release j) (eqb v.first.0 (suc t)) both) in
      rw both
      (by_bool (eqb j k)
      (λ this. rw this (omega (arith, days-this k longer vs (eqb-true _ _ this), days-this k v vs (same ∙ eqb-true _ _ this))))
      (λ other.
      rw other
      (omega (arith, days-other k longer vs (eqb-false _ _ other), days-other k v vs (λ e. eqb-false _ _ other (sym same ∙ e)))))))
      (λ apart. rw apart (days-one (one_day j t) (v ∷ vs) refl))

  days-use : (t : ℕ) (u : Use) (vs : List Visit) → days_for k (day_before t (release_used u) vs)
      ≡ cond (serves_release k u) 1 0 + days_for k vs
  unfolding day_before
  days-use t u vs =
      by_bool (eqb (release_used u) 0)
      (λ idle.
      let none : serves_release k u ≡ false = ne_eqb (release_used u) k (λ e. omega (arith, eqb-true (release_used u) 0 idle)) in
      rw (idle, none) (omega arith))
      (λ used. rw used (days-joined t (release_used u) vs))

  days-from : (t : ℕ) (us : List Use) → days_for k (visits_from t us) ≡ count_of (serves_release k) us
  unfolding visits_from count_of sum_of keep
  days-from t [] = refl
  days-from t (u ∷ us) =
      days-use t u (visits_from (suc t) us) ∙ ap (λ m. cond (serves_release k u) 1 0 + m) (days-from (suc t) us)

  -- work and moving
  served-kinds : (u : Use) → cond (serves_release k u) 1 0 ≡ cond (works_for k u) 1 0 + cond (moves_for k u) 1 0
  served-kinds Idle = rw (ne_eqb 0 k (λ e. omega arith))
  served-kinds (Work i m) = omega arith
  served-kinds (Move i m) = omega arith

  counts-kinds : (us : List Use) → count_of (serves_release k) us ≡ count_of (works_for k) us + count_of (moves_for k) us
  unfolding count_of
  counts-kinds [] = refl
  counts-kinds (u ∷ us) = omega (arith, served-kinds u, counts-kinds us)

-- ---- Accepted

module _ (p : Plan) (rs : List Release) (lawful : LawfulPlan p) (listed : first_unlawful p rs ≡ 0)
    (clean : Punctual p rs (suc p.run.0))
    (inside : (k : ℕ) → 1 ≤ k → k ≤ length rs → deadline_of p (released rs k) ≤ p.run.0)
    (free : (k : ℕ) → 1 ≤ k → k ≤ length rs → moving_cost p (string_at p (released rs k).place) ≡ 0) where
  abbrev N : ℕ
  N = p.run.0

  -- each release has had its need, and nothing else
  need-had : (k : ℕ) → 1 ≤ k → k ≤ length rs → days_for k (visits_to p rs N) ≡ (released rs k).need.0
  unfolding visits_to moving_caused
  need-had k low high =
      let done = served-punctual p rs lawful listed k N low high clean (inside k low high) in
      let moves : count_of (moves_for k) (history p rs N) ≡ 0 =
      done.moving
      ∙ by_bool (paid p rs k) (λ t. rw t (free k low high)) (λ e. rw e) in
      let all = days-from k low 0 (history p rs N) ∙ counts-kinds k low (history p rs N) in
      omega (arith, done.work)

  pub own-run-accepted : Accepted p rs (visits_to p rs N)
  unfolding visits_to
  own-run-accepted =
      let turn = in-turn-from p rs 0 (history p rs N) (history_named p rs lawful listed N (λ i a. clean i (omega arith))) in
      accepted-of p rs (visits_to p rs N) turn.good turn.rise
      (λ k low high.
      let again = length (visits_for k (visits_to p rs N)) - 1 in
      let nothing : moving_cost p (string_at p (released rs k).place) * again ≡ 0 =
      ap (λ a. a * again) (free k low high) ∙ zero-mul again in
      omega (arith, need-had k low high))

-- ---- Over the answer of the run

-- of a run that is late on no day, the visits are those of all its days
pub clean-visits : (p : Plan) (rs : List Release) → Punctual p rs (suc p.run.0) → run_visits p rs ≡ visits_to p rs p.run.0
unfolding run_visits days_run
clean-visits p rs clean =
    let none = miss_day-none p rs (λ t h. clean t (omega arith)) in
    let all : min (miss_day p rs) p.run.0 ≡ p.run.0 = omega arith in
    ap (visits_to p rs) all

-- the string of a listed release is one of the plan's
free-here : (p : Plan) (rs : List Release) → first_unlawful p rs ≡ 0 → All (λ s. moving_cost p s ≡ 0) (strings_of p) → (k : ℕ) → 1 ≤ k
    → k ≤ length rs → moving_cost p (string_at p (released rs k).place) ≡ 0
free-here p rs listed free k low high =
    let r = release-lawful p rs listed (k - 1) (omega arith) in
    all-at (λ s. moving_cost p s ≡ 0) (strings_of p) no_string free ((released rs k).place - 1) (omega (arith, r.within, r.place_pos))

-- all moving costs 0, every deadline inside the run, the run clean: its visits are accepted
pub clean-run-accepted : (p : Plan) (rs : Releases) (w m i : Length) → run_answer p rs ≡ Ok (Clean w m i)
    → All (λ s. moving_cost p s ≡ 0) (strings_of p)
    → ((k : ℕ) → 1 ≤ k → k ≤ length (releases_of rs) → deadline_of p (released (releases_of rs) k) ≤ p.run.0)
    → visits_check p rs (run_visits p (releases_of rs)) ≡ Lawful
clean-run-accepted p rs w m i clean free inside =
    let run = answer-clean p w m i rs clean in
    let good = run_check-lawful p rs run.0 in
    let own =
    own-run-accepted p (releases_of rs) good.plan good.none_bad run.1 inside
    (free-here p (releases_of rs) good.none_bad free) in
    (accepted-exactly p rs (run_visits p (releases_of rs))).1
    (run.0, subst (Accepted p (releases_of rs)) (sym (clean-visits p (releases_of rs) run.1)) own)
