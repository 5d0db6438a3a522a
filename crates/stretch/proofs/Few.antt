-- A run has few stints: at most three for each release, and one more. A stint ends only where a release comes, a job has moved, or a job is
-- gone; so with what is still to come of these, the stints so far never grow beyond that.
--     weight job            1 for a job, and 1 more while it has moving left: the stints that may yet end by it
--     to_come rs t           how many releases come on day t or later
--     budget p rs t         the stints that may yet end from day t on
--     Credit p rs n t       with n releases: what has been and what may be is within 3 n + 1; and within 3 n, unless day t goes on as
--                           the day before, if no release comes
use Rattle.base.proofs.Prelude.{ℕ, zero, suc, ◌+◌, ◌-◌, ◌*◌, ◌≤◌, ◌<◌, ◌≡◌, refl, sym, ap, ◌∙◌, ◌⊎◌, inl, inr, true, false, cond, List, [], ◌∷◌, ◌++◌, map, arith, ℕ_discrete, dec_le, le-ltb, ltb-false, eq-eqb, ne_eqb, le-leb, lt-leb, not-suc-le-zero, le_of_suc-le-suc, ltb, leb, eqb, length, get_or, set, length-set}
use Rattle.days.specs.{declared.Length.Length, Days.days}
use Rattle.rules.specs.{declared.BatteryString.BatteryString, declared.Plan.Plan, declared.Release.Release, declared.Job.Job, declared.Job.TheVariants.{Empty, Waiting, OnBank}, declared.Slot.Slot, Plan.strings_of, Demand.moving_cost, Run.{on_bank, none_ahead, no_slot, slot_at, put_job, with_job, empty_slot, on_or_gone, new_slot, join_from, joined, holder, payer, stopped, charged, stop, taken, next_up, seated, given, use_of, spent_job, spent, morning, state_at, use_on, history}, Stints.stints_from}
use Rattle.base.specs.Count.{sum_of, count_of}
use Rattle.base.proofs.Lists.{by_bool, true-not-false}
use Rattle.base.proofs.Counts.{count_of-le}
use Rattle.laws.proofs.{Slots.{slot_at-suc, new_slot-job}, Choice.Choice, Choices.holder-choice, Steps.{taken_free, taken-kept, taken-over, given-held, given-nobody, given-next, spent-free, spent-held, holder-le, payer-le, next_up-le}}
use Rattle.stretch.specs.Stretch.{day_at, part_days, morning_on}
use Rattle.stretch.proofs.{QuietDay.morning-quiet, Spending.{given-twice, days_off-one, goes_on}, StintJoin.{stints-day, stints-same-day}}

-- ---- A job and a slot

abbrev weight : Job → ℕ
weight Empty = 0
weight (Waiting w m) = 1 + cond (ltb 0 m.0) 1 0
weight (OnBank w m) = 1 + cond (ltb 0 m.0) 1 0

stopped-weight : (job : Job) → weight (stopped job) ≡ weight job
stopped-weight Empty = refl
stopped-weight (Waiting w m) = refl
stopped-weight (OnBank w m) = refl

seated-weight : (job : Job) → weight (seated job) ≡ weight job
seated-weight Empty = refl
seated-weight (Waiting w m) = refl
seated-weight (OnBank w m) = refl

some-weight : (m : ℕ) → cond (ltb 0 m) 1 0 ≤ 1
some-weight m = by_bool (ltb 0 m) (λ t. rw t (omega arith)) (λ f. rw f (omega arith))

charged-weight : (a : ℕ) (job : Job) → weight (charged a job) ≤ weight job + 1
charged-weight a Empty = omega arith
charged-weight a (Waiting w m) = omega (arith, some-weight (m.0 + a))
charged-weight a (OnBank w m) = omega (arith, some-weight (m.0 + a))

on_or_gone-weight : (w m : Length) → weight (on_or_gone w m) ≤ 1 + cond (ltb 0 m.0) 1 0
on_or_gone-weight w m = by_bool (eqb (w.0 + m.0) 0) (λ t. rw t (omega arith)) (λ f. rw f (omega arith))

spent-weight : (job : Job) → weight (spent_job job) ≤ weight job
spent-weight Empty = omega arith
spent-weight (Waiting w m) = omega arith
spent-weight (OnBank w m) =
    by_bool (ltb 0 m.0)
    (λ t. rw t (omega (arith, on_or_gone-weight w (days (m.0 - 1)), some-weight (m.0 - 1))))
    (λ f. rw f (omega (arith, rw f at (on_or_gone-weight (days (w.0 - 1)) m))))

-- the last day of what it is at
last-weight : (w m : Length) → part_days (OnBank w m) ≤ 1 → suc (weight (spent_job (OnBank w m))) ≤ weight (OnBank w m)
last-weight w m last =
    by_bool (ltb 0 m.0)
    (λ t.
    let one : m.0 ≤ 1 = rw t at last in
    let none : ltb 0 (m.0 - 1) ≡ false = le-ltb 0 (m.0 - 1) (omega arith) in
    rw t (omega (arith, rw none at (on_or_gone-weight w (days (m.0 - 1))))))
    (λ f.
    let one : w.0 ≤ 1 = rw f at last in
    let gone : w.0 - 1 + m.0 ≡ 0 = omega (arith, ltb-false 0 m.0 f) in
    rw (f, eq-eqb _ 0 gone) (omega arith))

-- ---- The slots

abbrev all : List Slot → ℕ
all ss = sum_of (λ s. weight s.job) ss

module _ {A : Type 0} (f : A → ℕ) where
  -- one of a list made another
  sum_of-set : (xs : List A) (i : ℕ) (v z : A) → i < length xs → sum_of f (set xs i v) + f (get_or xs i z) ≡ sum_of f xs + f v
  unfolding sum_of
  sum_of-set [] i v z h = absurd (not-suc-le-zero h)
  sum_of-set (x ∷ xs) zero v z h = omega arith
  sum_of-set (x ∷ xs) (suc i) v z h = omega (arith, sum_of-set xs i v z (le_of_suc-le-suc h))

  sum_of-set-le : (xs : List A) (i : ℕ) (v : A) → sum_of f (set xs i v) ≤ sum_of f xs + f v
  unfolding sum_of
  sum_of-set-le [] i v = omega arith
  sum_of-set-le (x ∷ xs) zero v = omega arith
  sum_of-set-le (x ∷ xs) (suc i) v = omega (arith, sum_of-set-le xs i v)

-- a job made another at a place of the list
change-weight : (ss : List Slot) (i : ℕ) (job : Job) → 1 ≤ i → i ≤ length ss
    → all (with_job ss i job) + weight (slot_at ss i).job ≡ all ss + weight job
change-weight ss i job low high = sum_of-set (λ s. weight s.job) ss (i - 1) (put_job (slot_at ss i) job) no_slot (omega arith)

-- step 2: each release of the day adds one
join-weight : (p : Plan) (t k : ℕ) (rs : List Release) (ss : List Slot)
    → all (join_from p t k rs ss) ≤ all ss + count_of (λ r. eqb r.day.0 t) rs
unfolding join_from count_of
join-weight p t k [] ss = omega arith
join-weight p t k (r ∷ rs) ss =
    by_bool (eqb r.day.0 t)
    (λ e.
    let new = new_slot p r k in
    let one : weight new.job ≡ 1 = ap weight (new_slot-job p r k) in
    rw e
    (omega (arith, join-weight p t (suc k) rs (set ss (r.place - 1) new), sum_of-set-le (λ s. weight s.job) ss (r.place - 1) new)))
    (λ e. rw e (omega (arith, join-weight p t (suc k) rs ss)))

-- step 3: the payer adds one at most
taken-weight : (p : Plan) (t : ℕ) (ss : List Slot) → all (taken p t ss) ≤ all ss + 1
taken-weight p t ss =
    elim (ℕ_discrete (holder ss) 0) [
      | yes free ↦ rw (taken_free p t ss free) (omega arith)
      | no held ↦
          elim (ℕ_discrete (payer t ss) 0) [
            | yes kept ↦ rw (taken-kept p t ss held kept) (omega arith)
            | no paid ↦
                let freed = stop ss (holder ss) in
                let s = slot_at freed (payer t ss) in
                let room : payer t ss ≤ length freed = simp length-set (payer-le t ss) in
                let stops = change-weight ss (holder ss) (stopped (slot_at ss (holder ss)).job) (omega arith) (holder-le ss) in
                let pays = change-weight freed (payer t ss) (charged (moving_cost p s.string) s.job) (omega arith) room in
                rw (taken-over p t ss held paid)
                (omega (arith, stopped-weight (slot_at ss (holder ss)).job, charged-weight (moving_cost p s.string) s.job))
          ]
    ]

-- step 4
given-weight : (ss : List Slot) → all (given ss) ≤ all ss
given-weight ss =
    elim (ℕ_discrete (holder ss) 0) [
      | yes free ↦
          elim (ℕ_discrete (next_up ss) 0) [
            | yes nobody ↦ rw (given-nobody ss free nobody) (omega arith)
            | no some ↦
                let job = (slot_at ss (next_up ss)).job in
                rw (given-next ss free some)
                (omega (arith, change-weight ss (next_up ss) (seated job) (omega arith) (next_up-le ss), seated-weight job))
          ]
      | no held ↦ rw (given-held ss held) (omega arith)
    ]

-- step 5, and on the last day of what the holder is at
spent-less : (ss : List Slot) → all (spent ss) ≤ all ss
spent-less ss =
    elim (ℕ_discrete (holder ss) 0) [
      | yes free ↦ rw (spent-free ss free) (omega arith)
      | no held ↦
          let job = (slot_at ss (holder ss)).job in
          rw (spent-held ss held)
          (omega (arith, change-weight ss (holder ss) (spent_job job) (omega arith) (holder-le ss), spent-weight job))
    ]

last-day : (job : Job) → on_bank job ≡ true → part_days job ≤ 1 → suc (weight (spent_job job)) ≤ weight job
last-day Empty on last = absurd (true-not-false (sym on))
last-day (Waiting w m) on last = absurd (true-not-false (sym on))
last-day (OnBank w m) on last = last-weight w m last

holder-on : (ss : List Slot) → (holder ss ≡ 0 → ⊥) → on_bank (slot_at ss (holder ss)).job ≡ true
holder-on ss held = go (holder-choice ss)
  where
    go : Choice (λ s. on_bank s.job) none_ahead ss (length ss) (holder ss) → on_bank (slot_at ss (holder ss)).job ≡ true
    go (inl c) = absurd (held c.0)
    go (inr c) = ap (λ s. on_bank s.job) (ap (slot_at ss) c.1 ∙ slot_at-suc ss c.0) ∙ c.2.passes

spent-last : (ss : List Slot) → (holder ss ≡ 0 → ⊥) → part_days (slot_at ss (holder ss)).job ≤ 1 → suc (all (spent ss)) ≤ all ss
spent-last ss held last =
    let job = (slot_at ss (holder ss)).job in
    rw (spent-held ss held)
    (omega (arith, change-weight ss (holder ss) (spent_job job) (omega arith) (holder-le ss), last-day job (holder-on ss held) last))

empty-weight : (strings : List BatteryString) → all (map empty_slot strings) ≡ 0
unfolding sum_of
empty-weight [] = refl
empty-weight (s ∷ strings) = omega (arith, empty-weight strings)

-- ---- The releases to come

abbrev on_day : ℕ → List Release → ℕ
on_day t rs = count_of (λ r. eqb r.day.0 t) rs

abbrev to_come : List Release → ℕ → ℕ
to_come rs t = count_of (λ r. leb t r.day.0) rs

comes : (t d : ℕ) → cond (leb t d) 1 0 ≡ cond (leb (suc t) d) 1 0 + cond (eqb d t) 1 0
comes t d =
    elim (ℕ_discrete d t) [
      | yes same ↦ rw (le-leb t d (omega arith), lt-leb (suc t) d (omega arith), eq-eqb d t same)
      | no other ↦
          elim (dec_le t d) [
            | yes later ↦ rw (le-leb t d later, le-leb (suc t) d (omega arith), ne_eqb d t other)
            | no sooner ↦ rw (lt-leb t d (omega arith), lt-leb (suc t) d (omega arith), ne_eqb d t other)
          ]
    ]

to_come-next : (t : ℕ) (rs : List Release) → to_come rs t ≡ to_come rs (suc t) + on_day t rs
unfolding count_of
to_come-next t [] = refl
to_come-next t (r ∷ rs) = omega (arith, comes t r.day.0, to_come-next t rs)

none-on-day : (t : ℕ) (rs : List Release) → on_day t rs ≡ 0 → (i : ℕ) → i < length rs → day_at rs i ≡ t → ⊥
unfolding count_of
none-on-day t [] none i h e = absurd (not-suc-le-zero h)
none-on-day t (r ∷ rs) none zero h e =
    let one : ◌≡◌ {A = ℕ} (cond (eqb r.day.0 t) 1 0) 1 = rw (eq-eqb _ t e) in
    omega arith
none-on-day t (r ∷ rs) none (suc i) h e = none-on-day t rs (omega arith) i (le_of_suc-le-suc h) e

-- ---- Day by day

module _ (p : Plan) (rs : List Release) where
  so_far : ℕ → ℕ
  so_far t = length (stints_from 0 (history p rs t))

  abbrev budget : ℕ → ℕ
  budget t = 3 * to_come rs t + all (state_at p rs t)

  -- day t, which is not the first, goes on as the day before if no release comes
  abbrev GoesOn : ℕ → Type 0
  GoesOn zero = ⊥
  GoesOn (suc t) = use_of (given (state_at p rs (suc t))) ≡ use_on p rs t

  abbrev Credit : ℕ → Type 0
  Credit t =
      (GoesOn t × (so_far t + budget t ≤ 3 * length rs + 1)) ⊎ (so_far t + budget t ≤ 3 * length rs)

  credit-start : Credit 0
  unfolding so_far history stints_from state_at
  credit-start =
      inr (omega (arith, empty-weight (strings_of p), count_of-le (λ r. leb 0 r.day.0) rs))

  -- ---- The morning

  so-far-next : (t : ℕ) → so_far (suc t) ≤ suc (so_far t)
  unfolding so_far history
  so-far-next t = stints-day 0 (history p rs t) (use_on p rs t)

  so-far-same : (t : ℕ) → use_on p rs (suc t) ≡ use_on p rs t → so_far (suc (suc t)) ≡ so_far (suc t)
  unfolding so_far history
  so-far-same t e =
      ap (λ u. length (stints_from 0 ((history p rs t ++ (use_on p rs t ∷ [])) ++ (u ∷ [])))) e
      ∙ stints-same-day 0 (history p rs t) (use_on p rs t)

  morning-weight : (t : ℕ) → all (morning_on p rs t) ≤ all (state_at p rs t) + on_day t rs + 1
  unfolding morning joined
  morning-weight t =
      let js = join_from p t 1 rs (state_at p rs t) in
      omega (arith, given-weight (taken p t js), taken-weight p t js, join-weight p t 1 rs (state_at p rs t))

  abbrev Morrow : ℕ → Type 0
  Morrow t = so_far (suc t) + 3 * to_come rs (suc t) + all (morning_on p rs t) ≤ 3 * length rs + 1

  on_quiet : (t : ℕ) → on_day t rs ≡ 0 → morning_on p rs t ≡ given (state_at p rs t)
  on_quiet t none = morning-quiet p rs t (none-on-day t rs none)

  quiet_same : (t : ℕ) → on_day t rs ≡ 0 → GoesOn t → so_far (suc t) ≤ so_far t
  unfolding use_on
  quiet_same zero none g = absurd g
  quiet_same (suc t) none g = omega (arith, so-far-same t (ap use_of (on_quiet (suc t) none) ∙ g))

  morrow : (t : ℕ) → Credit t → Morrow t
  morrow t c =
      elim (ℕ_discrete (on_day t rs) 0) [
        | no some ↦ busy some c
        | yes none ↦
            let less : all (morning_on p rs t) ≤ all (state_at p rs t) = rw (on_quiet t none) (given-weight (state_at p rs t)) in
            quiet none less c
      ]
    where
      busy : (on_day t rs ≡ 0 → ⊥) → Credit t → Morrow t
      busy some (inl c) = omega (arith, to_come-next t rs, so-far-next t, morning-weight t, c.1)
      busy some (inr c) = omega (arith, to_come-next t rs, so-far-next t, morning-weight t)

      quiet : on_day t rs ≡ 0 → all (morning_on p rs t) ≤ all (state_at p rs t) → Credit t → Morrow t
      quiet none less (inl c) = omega (arith, to_come-next t rs, quiet_same t none c.0, c.1)
      quiet none less (inr c) = omega (arith, to_come-next t rs, so-far-next t)

  -- ---- The evening

  evening : (t : ℕ) → Morrow t → Credit (suc t)
  unfolding state_at use_on
  evening t m =
      let ms = morning_on p rs t in
      elim (ℕ_discrete (holder ms) 0) [
        | yes free ↦ inl (ap (λ xs. use_of (given xs)) (spent-free ms free) ∙ ap use_of (settled t), omega (arith, spent-less ms))
        | no held ↦
            elim (dec_le (part_days (slot_at ms (holder ms)).job) 1) [
              | yes last ↦ inr (omega (arith, spent-last ms held last))
              | no more ↦
                  let g = goes_on 1 ms (settled t) (λ h. omega arith) in
                  inl (ap (λ xs. use_of (given xs)) (days_off-one ms) ∙ ap use_of g.given ∙ g.alike, omega (arith, spent-less ms))
            ]
      ]
    where
      settled : (t : ℕ) → given (morning_on p rs t) ≡ morning_on p rs t
      settled t = unfold morning in given-twice (taken p t (joined p rs t (state_at p rs t)))

  credit : (t : ℕ) → Credit t
  credit zero = credit-start
  credit (suc t) = evening t (morrow t (credit t))

  -- at any time a run has had at most three stints for each release, and one more
  pub few-stints : (t : ℕ) → length (stints_from 0 (history p rs t)) ≤ 3 * length rs + 1
  unfolding so_far
  few-stints t = go (credit t)
    where
      go : Credit t → length (stints_from 0 (history p rs t)) ≤ 3 * length rs + 1
      go (inl c) = omega (arith, c.1)
      go (inr c) = omega arith
