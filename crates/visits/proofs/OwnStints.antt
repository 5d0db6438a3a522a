-- The visits of a run are its stints of one release that touch, joined, idle ones left out.
use Rattle.base.proofs.Prelude.{ℕ, suc, ◌+◌, ◌≡◌, refl, sym, ap, ◌∙◌, true, cond, ◌&&◌, List, [], ◌∷◌, arith, eqb, eqb-true, eq-eqb}
use Rattle.base.proofs.Lists.{by_bool, and_right, true-not-false}
use Rattle.rules.specs.{declared.Plan.Plan, declared.Release.Release, declared.Use.Use, declared.Use.TheVariants.{Idle, Work, Move}, declared.Stint.Stint, Run.history, Stints.{same_use, day_ahead, stints_from, days_run, run_stints, release_used}}
use Rattle.visits.specs.{declared.Visit.Visit, OwnRun.{joined_to, day_before, visits_from, visits_to, run_visits, visit_of, stretch_joined, stint_ahead, stints_visits}}

-- what is the same is for the same release
same-release : (u w : Use) → same_use u w ≡ true → release_used w ≡ release_used u
unfolding same_use
same-release Idle Idle h = refl
same-release Idle (Work j m) h = absurd (true-not-false (sym h))
same-release Idle (Move j m) h = absurd (true-not-false (sym h))
same-release (Work i k) Idle h = absurd (true-not-false (sym h))
same-release (Work i k) (Work j m) h = sym (eqb-true k m (and_right (eqb i j) (eqb k m) h))
same-release (Work i k) (Move j m) h = absurd (true-not-false (sym h))
same-release (Move i k) Idle h = absurd (true-not-false (sym h))
same-release (Move i k) (Work j m) h = absurd (true-not-false (sym h))
same-release (Move i k) (Move j m) h = sym (eqb-true k m (and_right (eqb i j) (eqb k m) h))

-- a visit of equal numbers
visit-eq : (k t n m : ℕ) → n ≡ m → visit_of k t n ≡ visit_of k t m
visit-eq k t n m e = ap (visit_of k t) e

-- ---- A stretch of one day is a day

stretch-one : (t k : ℕ) (vs : List Visit) → stretch_joined t 1 k vs ≡ joined_to t k vs
unfolding stretch_joined joined_to
stretch-one t k [] = refl
stretch-one t k (v ∷ vs) =
    let next : t + 1 ≡ suc t = omega arith in
    let longer : 1 + v.length.0 ≡ suc v.length.0 = omega arith in
    ap (λ d. cond (eqb v.release k && eqb v.first.0 d) (visit_of k t (1 + v.length.0) ∷ vs) (visit_of k t 1 ∷ v ∷ vs)) next
    ∙ ap (λ w. cond (eqb v.release k && eqb v.first.0 (suc t)) (w ∷ vs) (visit_of k t 1 ∷ v ∷ vs)) (visit-eq k t _ _ longer)

-- ---- A day ahead of a stretch

-- a day ahead of a visit that starts on the next, for the same release
day-joins : (t k n : ℕ) (vs : List Visit) → joined_to t k (visit_of k (suc t) n ∷ vs) ≡ visit_of k t (suc n) ∷ vs
unfolding joined_to
day-joins t k n vs = rw (eq-eqb k k refl, eq-eqb (suc t) (suc t) refl)

stretch-more : (t n k : ℕ) (vs : List Visit) → stretch_joined t (n + 1) k vs ≡ joined_to t k (stretch_joined (suc t) n k vs)
unfolding stretch_joined
stretch-more t n k [] =
    let more : n + 1 ≡ suc n = omega arith in
    ap (λ w. w ∷ []) (visit-eq k t _ _ more) ∙ sym (day-joins t k n [])
stretch-more t n k (v ∷ vs) =
    let ends : t + (n + 1) ≡ suc t + n = omega arith in
    let more : n + 1 ≡ suc n = omega arith in
    let longer : n + 1 + v.length.0 ≡ suc (n + v.length.0) = omega arith in
    ap (λ d. cond (eqb v.release k && eqb v.first.0 d) (visit_of k t (n + 1 + v.length.0) ∷ vs) (visit_of k t (n + 1) ∷ v ∷ vs)) ends
    ∙ by_bool (eqb v.release k && eqb v.first.0 (suc t + n))
    (λ both. rw both (ap (λ w. w ∷ vs) (visit-eq k t _ _ longer) ∙ sym (day-joins t k (n + v.length.0) vs)))
    (λ apart. rw apart (ap (λ w. w ∷ v ∷ vs) (visit-eq k t _ _ more) ∙ sym (day-joins t k n (v ∷ vs))))

-- ---- Stints

-- the first of them starts on day t
abbrev pub StartAt : ℕ → List Stint → Type 0
StartAt t [] = Unit {0}
StartAt t (s ∷ ss) = s.first.0 ≡ t

pub stints-start : (t : ℕ) (us : List Use) → StartAt t (stints_from t us)
unfolding stints_from day_ahead
stints-start t [] = tt
stints-start t (u ∷ us) = go (stints_from (suc t) us)
  where
    go : (ss : List Stint) → StartAt t (day_ahead t u ss)
    go [] = refl
    go (s ∷ ss) = by_bool (same_use u s.used) (λ same. rw same refl) (λ other. rw other refl)

visits-ahead : (t : ℕ) (u : Use) (ss : List Stint) → StartAt (suc t) ss
    → stints_visits (day_ahead t u ss) ≡ day_before t (release_used u) (stints_visits ss)
unfolding day_ahead stints_visits stint_ahead day_before
visits-ahead t u [] start = ap (cond (eqb (release_used u) 0) []) (stretch-one t (release_used u) [])
visits-ahead t u (s ∷ ss) start =
    by_bool (same_use u s.used)
    (λ same.
    let k : release_used s.used ≡ release_used u = same-release u s.used same in
    rw (same, k, start)
    (by_bool (eqb (release_used u) 0)
    (λ idle. rw idle)
    (λ used. rw used (stretch-more t s.length.0 (release_used u) (stints_visits ss)))))
    (λ other. rw other (ap (cond (eqb (release_used u) 0) _) (stretch-one t (release_used u) _)))

pub visits-of-stints : (t : ℕ) (us : List Use) → stints_visits (stints_from t us) ≡ visits_from t us
unfolding stints_from visits_from stints_visits
visits-of-stints t [] = refl
visits-of-stints t (u ∷ us) =
    visits-ahead t u (stints_from (suc t) us) (stints-start (suc t) us) ∙ ap (day_before t (release_used u)) (visits-of-stints (suc t) us)

-- of a run
pub stints-visits : (p : Plan) (rs : List Release) → stints_visits (run_stints p rs) ≡ run_visits p rs
unfolding run_stints run_visits visits_to
stints-visits p rs = visits-of-stints 0 (history p rs (days_run p rs))
