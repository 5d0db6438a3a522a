-- A run never looks at T: with every T forgotten each step of each day does the same.
--     untimed_slot s         the slot s with its string's T forgotten
use Rattle.base.proofs.Prelude.{ℕ, zero, suc, ◌-◌, ◌≡◌, refl, sym, ap, ◌∙◌, fun_ext, Bool, cond, List, [], ◌∷◌, map, eqb, ltb, leb, length, set, length-map, get_or-map}
use Rattle.days.specs.Days.{day, days}
use Rattle.base.specs.Count.{count_of, least_from}
use Rattle.base.proofs.{Lists.by_bool, Order.take-map}
use Rattle.rules.specs.{declared.BatteryString.BatteryString, declared.Plan.Plan, declared.Release.Release, declared.Slot.Slot, declared.Job.Job, declared.Use.Use, declared.Outcome.Outcome, declared.Outcome.TheVariants.{Miss, Clean}, Plan.{strings_of, string_at, no_string}, Demand.moving_cost}
use Rattle.rules.specs.Run.{chosen, slot_at, no_slot, empty_slot, with_job, none_ahead, on_bank, waits, late_slot, late_at, new_slot, join_from, joined, holder, may_take, due_before, payer, stopped, stop, charge, taken, goes_first, next_up, seated, given, use_of, spent_job, spent, morning, state_at, use_on, late_on, history, is_work, is_move, is_idle, miss_day, days_of, run_of}
use Rattle.laws.proofs.Slots.{at}
use Rattle.spacing.specs.Closer.{untimed_string, untimed}

abbrev untimed_slot : Slot → Slot
untimed_slot s =
    record { string = untimed_string s.string; job = s.job; release = s.release; deadline = s.deadline; serves = s.serves }

at-untimed : (ss : List Slot) (j : ℕ) → at (map untimed_slot ss) j ≡ untimed_slot (at ss j)
at-untimed ss j = get_or-map untimed_slot ss j no_slot

set-untimed : (ss : List Slot) (i : ℕ) (s : Slot) → map untimed_slot (set ss i s) ≡ set (map untimed_slot ss) i (untimed_slot s)
set-untimed [] i s = refl
set-untimed (r ∷ ss) zero s = refl
set-untimed (r ∷ ss) (suc i) s = ap (λ rest. untimed_slot r ∷ rest) (set-untimed ss i s)

-- ---- Choices

module _ (ok : Slot → Bool) (ahead : Slot → Slot → Bool) (ok_same : (s : Slot) → ok (untimed_slot s) ≡ ok s)
    (ahead-same : (s r : Slot) → ahead (untimed_slot s) (untimed_slot r) ≡ ahead s r) (ss : List Slot) where
  chosen-untimed : (k : ℕ) → chosen ok ahead (map untimed_slot ss) k ≡ chosen ok ahead ss k
  unfolding chosen
  chosen-untimed zero = refl
  chosen-untimed (suc k) =
      let before = chosen ok ahead ss k in
      rw (
        chosen-untimed k,
        at-untimed ss k,
        at-untimed ss (before - 1),
        ok_same (at ss k),
        ahead-same (at ss k) (slot_at ss before),
      )

  all-untimed : chosen ok ahead (map untimed_slot ss) (length (map untimed_slot ss)) ≡ chosen ok ahead ss (length ss)
  all-untimed = chosen-untimed (length (map untimed_slot ss)) ∙ ap (chosen ok ahead ss) (length-map ss untimed_slot)

module _ (ss : List Slot) where
  late-untimed : (t : ℕ) → late_at t (map untimed_slot ss) ≡ late_at t ss
  unfolding late_at
  late-untimed t = all-untimed (late_slot t) none_ahead (λ s. refl) (λ s r. refl) ss

  holder-untimed : holder (map untimed_slot ss) ≡ holder ss
  unfolding holder
  holder-untimed = all-untimed (λ s. on_bank s.job) none_ahead (λ s. refl) (λ s r. refl) ss

  payer-untimed : (t : ℕ) → payer t (map untimed_slot ss) ≡ payer t ss
  unfolding payer
  payer-untimed t =
      rw (holder-untimed, at-untimed ss (holder ss - 1))
      (all-untimed (may_take t (slot_at ss (holder ss)).deadline.0) due_before (λ s. refl) (λ s r. refl) ss)

  next-untimed : next_up (map untimed_slot ss) ≡ next_up ss
  unfolding next_up
  next-untimed = all-untimed (λ s. waits s.job) goes_first (λ s. refl) (λ s r. refl) ss

  -- ---- Steps 4 and 5

  -- the job at a place is made another, which the job there decides
  turned-untimed : (f : Job → Job) (i : ℕ)
      → map untimed_slot (with_job ss i (f (slot_at ss i).job)) ≡ with_job (map untimed_slot ss) i (f (slot_at (map untimed_slot ss) i).job)
  turned-untimed f i = rw (at-untimed ss (i - 1)) (set-untimed ss (i - 1) _)

  given-untimed : map untimed_slot (given ss) ≡ given (map untimed_slot ss)
  unfolding given
  given-untimed =
      rw (holder-untimed, next-untimed)
      (by_bool (eqb (holder ss) 0)
      (λ free. rw free (by_bool (eqb (next_up ss) 0) (λ none. rw none) (λ some. rw some (turned-untimed seated (next_up ss)))))
      (λ held. rw held))

  spent-untimed : map untimed_slot (spent ss) ≡ spent (map untimed_slot ss)
  unfolding spent
  spent-untimed =
      rw holder-untimed
      (by_bool (eqb (holder ss) 0) (λ free. rw free) (λ held. rw held (turned-untimed spent_job (holder ss))))

  use-untimed : use_of (map untimed_slot ss) ≡ use_of ss
  unfolding use_of
  use-untimed = rw (holder-untimed, at-untimed ss (holder ss - 1))

  -- ---- Step 3

  charge-untimed : (p : Plan) (i : ℕ) → map untimed_slot (charge p ss i) ≡ charge (untimed p) (map untimed_slot ss) i
  unfolding moving_cost
  charge-untimed p i = rw (at-untimed ss (i - 1)) (set-untimed ss (i - 1) _)

taken-untimed : (p : Plan) (t : ℕ) (ss : List Slot) → map untimed_slot (taken p t ss) ≡ taken (untimed p) t (map untimed_slot ss)
unfolding taken
taken-untimed p t ss =
    rw (holder-untimed ss, payer-untimed ss t)
    (by_bool (eqb (holder ss) 0)
    (λ free. rw free)
    (λ held. rw held
    (by_bool (eqb (payer t ss) 0)
    (λ none. rw none)
    (λ some. rw some (charge-untimed (stop ss (holder ss)) p (payer t ss)
    ∙ ap (λ zs. charge (untimed p) zs (payer t ss)) (turned-untimed ss stopped (holder ss)))))))

-- ---- The first day, and step 2

pub untimed-strings : (p : Plan) → strings_of (untimed p) ≡ map untimed_string (strings_of p)
untimed-strings p = take-map untimed_string p.n p.strings

pub untimed-at : (p : Plan) (i : ℕ) → string_at (untimed p) i ≡ untimed_string (string_at p i)
untimed-at p i = rw (untimed-strings p) (get_or-map untimed_string (strings_of p) (i - 1) no_string)

new-untimed : (p : Plan) (r : Release) (k : ℕ) → untimed_slot (new_slot p r k) ≡ new_slot (untimed p) r k
unfolding new_slot
new-untimed p r k = rw (untimed-at p r.place)

join_from-untimed : (p : Plan) (t k : ℕ) (rs : List Release) (ss : List Slot)
    → map untimed_slot (join_from p t k rs ss) ≡ join_from (untimed p) t k rs (map untimed_slot ss)
unfolding join_from
join_from-untimed p t k [] ss = refl
join_from-untimed p t k (r ∷ rs) ss =
    join_from-untimed p t (suc k) rs (cond (eqb r.day.0 t) (set ss (r.place - 1) (new_slot p r k)) ss)
    ∙ ap (join_from (untimed p) t (suc k) rs)
    (by_bool (eqb r.day.0 t)
    (λ today. rw today (set-untimed ss (r.place - 1) (new_slot p r k) ∙ ap (set (map untimed_slot ss) (r.place - 1)) (new-untimed p r k)))
    (λ other. rw other))

empty-untimed : (ss : List BatteryString) → map untimed_slot (map empty_slot ss) ≡ map empty_slot (map untimed_string ss)
empty-untimed [] = refl
empty-untimed (s ∷ ss) = ap (λ rest. empty_slot (untimed_string s) ∷ rest) (empty-untimed ss)

-- ---- The days

module _ (p : Plan) (rs : List Release) where
  morning-untimed : (t : ℕ) (ss : List Slot) → map untimed_slot (morning p rs t ss) ≡ morning (untimed p) rs t (map untimed_slot ss)
  unfolding morning joined
  morning-untimed t ss =
      given-untimed (taken p t (joined p rs t ss))
      ∙ ap given (taken-untimed p t (joined p rs t ss) ∙ ap (taken (untimed p) t) (join_from-untimed p t 1 rs ss))

  state-untimed : (t : ℕ) → map untimed_slot (state_at p rs t) ≡ state_at (untimed p) rs t
  unfolding state_at
  state-untimed zero = empty-untimed (strings_of p) ∙ ap (map empty_slot) (sym (untimed-strings p))
  state-untimed (suc t) =
      spent-untimed (morning p rs t (state_at p rs t))
      ∙ ap spent (morning-untimed t (state_at p rs t) ∙ ap (morning (untimed p) rs t) (state-untimed t))

  late-same : (t : ℕ) → late_on (untimed p) rs t ≡ late_on p rs t
  unfolding late_on
  late-same t = ap (late_at t) (sym (state-untimed t)) ∙ late-untimed (state_at p rs t) t

  use-same : (t : ℕ) → use_on (untimed p) rs t ≡ use_on p rs t
  unfolding use_on
  use-same t =
      ap use_of (ap (morning (untimed p) rs t) (sym (state-untimed t)) ∙ sym (morning-untimed t (state_at p rs t)))
      ∙ use-untimed (morning p rs t (state_at p rs t))

  history-same : (t : ℕ) → history (untimed p) rs t ≡ history p rs t
  unfolding history
  history-same zero = refl
  history-same (suc t) = rw (history-same t, use-same t)

-- how a run ends, by who is late on each day and by the run's history
abbrev miss_by : (ℕ → ℕ) → ℕ → ℕ
miss_by late n = least_from (λ t. ltb 0 (late t)) 0 (suc n)

abbrev end_by : (ℕ → ℕ) → List Use → ℕ → Outcome
end_by late h n =
    let clean = Clean (days (count_of is_work h)) (days (count_of is_move h)) (days (count_of is_idle h)) in
    cond (leb (miss_by late n) n) (Miss (day (miss_by late n)) (late (miss_by late n))) clean

ends : (p : Plan) (rs : List Release) → run_of p rs ≡ end_by (late_on p rs) (history p rs p.run.0) p.run.0
unfolding run_of miss_day days_of
ends p rs = refl

pub run-untimed : (p : Plan) (rs : List Release) → run_of (untimed p) rs ≡ run_of p rs
run-untimed p rs =
    ends (untimed p) rs
    ∙ ap (λ late. end_by late (history (untimed p) rs p.run.0) p.run.0) (fun_ext (late-same p rs))
    ∙ ap (λ h. end_by (late_on p rs) h p.run.0) (history-same p rs p.run.0)
    ∙ sym (ends p rs)
