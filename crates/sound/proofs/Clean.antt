-- A plan that passes never misses a deadline: on no day of the run is anybody late, and the run ends clean. The sharp rule is enough.
use Rattle.base.proofs.Prelude.{ℕ, zero, suc, ◌≤◌, ◌<◌, ◌≡◌, ap, subst, inl, List, arith, dec_le, le_refl, length, length-map, get_or-map}
use Rattle.rules.specs.{declared.Plan.Plan, declared.Release.Release, declared.Outcome.TheVariants.Clean, Plan.{strings_of, no_string}, Release.first_unlawful, Demand.Passes, Run.{empty_slot, left, morning, state_at, late_on, days_of, is_work, is_move, is_idle, run_of}}
use Rattle.laws.proofs.{Lawful.LawfulPlan, Slots.at, History.{miss_day-none, run_of-clean}, ReleaseList.str}
use Rattle.laws.proofs.Choices.{late-nobody}
use Rattle.sound.specs.Sharp.{SharplyPasses}
use Rattle.sound.proofs.{Sharp.passes-sharply, Orderly.{Orderly, empty-not-on}, Account.{near_left, near_left-near, near_left-some, backlog, Mode, opened}, Keeping.{day-orderly, day-mode}, Closing.account-closes}
use Rattle.base.proofs.Sums.{sum_to-part, sum_to-none}

-- ---- The first day

first_slot : (p : Plan) (rs : List Release) (j : ℕ) → at (state_at p rs zero) j ≡ empty_slot (str p j)
unfolding state_at
first_slot p rs j = get_or-map empty_slot (strings_of p) j no_string

first-orderly : (p : Plan) (rs : List Release) → Orderly p rs 0 (state_at p rs zero)
unfolding state_at
first-orderly p rs =
    record {
      size = length-map (strings_of p) empty_slot;
      string-kept = λ j a. ap (λ s. s.string) (first_slot p rs j);
      sits = λ j a. inl (ap (λ s. s.job) (first_slot p rs j));
      alone = λ i j a b on on'. absurd (empty-not-on _ (ap (λ s. s.job) (first_slot p rs i)) on);
    }

first-backlog : (p : Plan) (rs : List Release) (d : ℕ) → backlog p d (state_at p rs zero) ≡ 0
unfolding backlog
first-backlog p rs d =
    sum_to-none (length (strings_of p)) (λ j. near_left d (at (state_at p rs zero) j))
    (λ j a.
    elim (dec_le 1 (near_left d (at (state_at p rs zero) j))) [
      | yes some ↦
          let none : left (at (state_at p rs zero) j).job ≡ 0 = ap (λ s. left s.job) (first_slot p rs j) in
          absurd (omega (arith, (near_left-some d (at (state_at p rs zero) j) some).1))
      | no none ↦ omega arith
    ])

-- no day before t is late
abbrev pub Punctual : Plan → List Release → ℕ → Type 0
Punctual p rs t = (i : ℕ) → i < t → late_on p rs i ≡ 0

module _ (p : Plan) (rs : List Release) (lawful : LawfulPlan p) (listed : first_unlawful p rs ≡ 0) where
  pub orderly-at : (t : ℕ) → Punctual p rs t → Orderly p rs t (state_at p rs t)
  unfolding state_at morning late_on
  orderly-at zero so_far = first-orderly p rs
  orderly-at (suc t) so_far =
      day-orderly p rs lawful listed t (state_at p rs t) (orderly-at t (λ i h. so_far i (omega arith))) (so_far t (omega arith))

  mode-at : (d t : ℕ) → Punctual p rs t → Mode p rs d t (state_at p rs t)
  unfolding state_at morning late_on
  mode-at d zero so_far = opened p rs d 0 (state_at p rs zero) (first-orderly p rs) (first-backlog p rs d)
  mode-at d (suc t) so_far =
      day-mode p rs lawful listed t (state_at p rs t) (orderly-at t (λ i h. so_far i (omega arith))) (so_far t (omega arith)) d
      (mode-at d t (λ i h. so_far i (omega arith)))

  module _ (sharp : SharplyPasses p) where
    -- what is due by day t is done by day t
    nothing_left : (t : ℕ) → Punctual p rs t → backlog p t (state_at p rs t) ≡ 0
    nothing_left t so_far =
        let mode = mode-at t t so_far in
        account-closes p rs lawful sharp t mode.start mode.b mode.k (state_at p rs t) mode.account

    due-done : (t : ℕ) → Punctual p rs t → (j : ℕ) → j < length (strings_of p) → (at (state_at p rs t) j).deadline.0 ≤ t
        → left (at (state_at p rs t) j).job ≡ 0
    unfolding backlog
    due-done t so_far j a due =
        let part = sum_to-part (length (strings_of p)) (λ i. near_left t (at (state_at p rs t) i)) j a in
        omega (arith, nothing_left t so_far, near_left-near t (at (state_at p rs t) j) due)

    next-punctual : (t : ℕ) → Punctual p rs t → late_on p rs t ≡ 0
    unfolding late_on
    next-punctual t so_far =
        late-nobody t (state_at p rs t)
        (λ j h due. due-done t so_far j (omega (arith, (orderly-at t so_far).size)) (omega arith))

    pub sharply-punctual : (t : ℕ) → Punctual p rs t
    sharply-punctual zero i h = absurd (omega arith)
    sharply-punctual (suc t) i h =
        elim (dec_le (suc i) t) [
          | yes earlier ↦ sharply-punctual t i earlier
          | no last ↦
              let today : t ≡ i = omega arith in
              subst (λ d. late_on p rs d ≡ 0) today (next-punctual t (sharply-punctual t))
        ]

    -- a plan that passes sharply never misses a deadline
    pub sharply-never-late : (t : ℕ) → late_on p rs t ≡ 0
    sharply-never-late t = sharply-punctual (suc t) t (le_refl (suc t))

    pub sharply-clean : run_of p rs ≡ Clean (days_of p rs is_work) (days_of p rs is_move) (days_of p rs is_idle)
    sharply-clean = run_of-clean p rs (miss_day-none p rs (λ t h. sharply-never-late t))

  -- so one that passes never does
  module _ (passes : Passes p) where
    pub punctual : (t : ℕ) → Punctual p rs t
    punctual = sharply-punctual (passes-sharply p passes)

    pub never-late : (t : ℕ) → late_on p rs t ≡ 0
    never-late = sharply-never-late (passes-sharply p passes)

    pub run-clean : run_of p rs ≡ Clean (days_of p rs is_work) (days_of p rs is_move) (days_of p rs is_idle)
    run-clean = sharply-clean (passes-sharply p passes)
