-- The days of a history add up, and a run on which no day is late is clean.
use Rattle.base.proofs.Prelude.{ℕ, zero, suc, ◌+◌, ◌≤◌, ◌<◌, ◌≡◌, refl, ap, ◌∙◌, Bool, cond, List, [], ◌∷◌, arith, lt-ltb, le-ltb, ltb-false, lt-leb, le-leb, ltb, length, length-append}
use Rattle.days.specs.Days.{day}
use Rattle.rules.specs.{declared.Plan.Plan, declared.Release.Release, declared.Use.Use, declared.Use.TheVariants.{Idle, Work, Move}, declared.Outcome.TheVariants.{Clean, Miss}, Run.{use_on, history, is_work, is_move, is_idle, days_of, late_on, miss_day, run_of}}
use Rattle.base.specs.Count.{count_of}
use Rattle.base.proofs.{Counts.{count_of-append, count_of-one}, Least.{least_from-none, least_from-before, least_from-unique}}

-- ---- Counts

-- one day more
pub history-next : (p : Plan) (rs : List Release) (k : ℕ) (f : Use → Bool)
    → count_of f (history p rs (suc k)) ≡ count_of f (history p rs k) + cond (f (use_on p rs k)) 1 0
unfolding history
history-next p rs k f =
    count_of-append f (history p rs k) (use_on p rs k ∷ [])
    ∙ ap (λ m. count_of f (history p rs k) + m) (count_of-one f (use_on p rs k))

pub history-length : (p : Plan) (rs : List Release) (k : ℕ) → length (history p rs k) ≡ k
unfolding history
history-length p rs zero = refl
history-length p rs (suc k) =
    let before = history-length p rs k in
    omega (arith, length-append (history p rs k) (use_on p rs k ∷ []))

-- ---- A day is of one kind

one-kind : (u : Use) → cond (is_work u) 1 0 + cond (is_move u) 1 0 + cond (is_idle u) 1 0 ≡ 1
one-kind Idle = refl
one-kind (Work i k) = refl
one-kind (Move i k) = refl

-- so the days of the three kinds are all the days
pub kinds-add-up : (p : Plan) (rs : List Release) (k : ℕ)
    → count_of is_work (history p rs k) + count_of is_move (history p rs k) + count_of is_idle (history p rs k) ≡ k
unfolding history count_of
kinds-add-up p rs zero = refl
kinds-add-up p rs (suc k) =
    let before = kinds-add-up p rs k in
    let today = one-kind (use_on p rs k) in
    omega (arith, history-next p rs k is_work, history-next p rs k is_move, history-next p rs k is_idle)

run-adds-up : (p : Plan) (rs : List Release) → (days_of p rs is_work).0 + (days_of p rs is_move).0 + (days_of p rs is_idle).0 ≡ p.run.0
unfolding days_of
run-adds-up p rs = kinds-add-up p rs p.run.0

-- ---- The day of a miss

pub miss_day-none : (p : Plan) (rs : List Release) → ((t : ℕ) → t ≤ p.run.0 → late_on p rs t ≡ 0) → miss_day p rs ≡ suc p.run.0
unfolding miss_day
miss_day-none p rs h =
    let all =
    least_from-none (λ t. ltb 0 (late_on p rs t)) 0 (suc p.run.0)
    (λ t a b. le-ltb 0 (late_on p rs t) (omega (arith, h t (omega arith)))) in
    omega arith

-- a day before it is not late
pub miss_day-before : (p : Plan) (rs : List Release) (i : ℕ) → i < miss_day p rs → late_on p rs i ≡ 0
unfolding miss_day
miss_day-before p rs i h =
    let not = least_from-before (λ t. ltb 0 (late_on p rs t)) 0 (suc p.run.0) i (omega arith) h in
    omega (arith, ltb-false 0 (late_on p rs i) not)

-- the day of a miss is the only day that is late with none late before it
pub miss_day-is : (p : Plan) (rs : List Release) (t : ℕ) → t ≤ p.run.0 → 1 ≤ late_on p rs t → ((i : ℕ) → i < t → late_on p rs i ≡ 0)
    → miss_day p rs ≡ t
unfolding miss_day
miss_day-is p rs t within late before =
    least_from-unique (λ d. ltb 0 (late_on p rs d)) 0 (suc p.run.0) t (omega arith) (omega arith) (lt-ltb _ _ late)
    (λ i a b. le-ltb 0 (late_on p rs i) (omega (arith, before i b)))

pub run_of-clean : (p : Plan) (rs : List Release) → miss_day p rs ≡ suc p.run.0
    → run_of p rs ≡ Clean (days_of p rs is_work) (days_of p rs is_move) (days_of p rs is_idle)
unfolding run_of
run_of-clean p rs h = rw (lt-leb (miss_day p rs) p.run.0 (omega arith))

pub run_of-miss : (p : Plan) (rs : List Release) → miss_day p rs ≤ p.run.0
    → run_of p rs ≡ Miss (day (miss_day p rs)) (late_on p rs (miss_day p rs))
unfolding run_of
run_of-miss p rs h = rw (le-leb (miss_day p rs) p.run.0 h)

-- the first day that is late ends the run
pub run_of-late : (p : Plan) (rs : List Release) (t : ℕ) → t ≤ p.run.0 → 1 ≤ late_on p rs t → ((i : ℕ) → i < t → late_on p rs i ≡ 0)
    → run_of p rs ≡ Miss (day t) (late_on p rs t)
run_of-late p rs t within late before =
    let first = miss_day-is p rs t within late before in
    run_of-miss p rs (omega arith) ∙ ap (λ d. Miss (day d) (late_on p rs d)) first
