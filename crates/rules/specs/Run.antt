-- The run, day by day (document 01, "The day-by-day run"). The slots of a run stand in a list, by place.
--     left job              the days of work and of moving that are left
--     chosen ok ahead ss k  of the first k slots, the place (from 1) of one that passes ok and than which no other that passes is ahead;
--                           the smallest such place; 0 where none passes
--     late_at t ss           step 1: the smallest place of a job with deadline t and something left; 0 where there is none
--     joined p rs t ss      step 2: all releases of day t join
--     taken p t ss          step 3: a job released today takes the bank, and the payer pays
--     given ss              step 4: a free bank goes to the waiting job with the earliest deadline
--     use_of ss, spent ss    step 5: what the bank does today, and the slots at the end of the day
--     state_at p rs t        the slots at the start of day t
--     use_on p rs t          what the bank does on day t
--     history p rs k        what the bank does on the days 0 to k − 1
--     days_of p rs kind      how many days of the run are of a kind
--     miss_day p rs          the first day, 0 to N, on which step 1 ends the run; N + 1 where none does
--     run_of p rs            how the run ends, over lawful releases
use Rattle.std.specs.Prelude.{ℕ, zero, suc, ◌+◌, ◌-◌, Bool, true, false, cond, ◌&&◌, ◌||◌, List, [], ◌∷◌, ◌++◌, map, ltb, leb, eqb, length, get_or, set}
use Rattle.days.specs.declared.Length.{Length}
use Rattle.days.specs.Days.{day, days}
use Rattle.rules.specs.declared.BatteryString.{BatteryString}
use Rattle.rules.specs.declared.Plan.{Plan}
use Rattle.rules.specs.declared.Release.{Release}
use Rattle.rules.specs.declared.Job.{Job}
use Rattle.rules.specs.declared.Job.TheVariants.{Empty, Waiting, OnBank}
use Rattle.rules.specs.declared.Slot.{Slot}
use Rattle.rules.specs.declared.Use.{Use}
use Rattle.rules.specs.declared.Use.TheVariants.{Idle, Work, Move}
use Rattle.rules.specs.declared.Outcome.{Outcome}
use Rattle.rules.specs.declared.Outcome.TheVariants.{Miss, Clean}
use Rattle.base.specs.Count.{count_of, least_from}
use Rattle.rules.specs.Plan.{strings_of, string_at, no_string}
use Rattle.rules.specs.Demand.{moving_cost}
use Rattle.rules.specs.Release.{deadline_of}

-- ---- Slots

abbrev pub left : Job → ℕ
left Empty = 0
left (Waiting w m) = w.0 + m.0
left (OnBank w m) = w.0 + m.0

abbrev pub waits : Job → Bool
waits Empty = false
waits (Waiting w m) = true
waits (OnBank w m) = false

abbrev pub on_bank : Job → Bool
on_bank Empty = false
on_bank (Waiting w m) = false
on_bank (OnBank w m) = true

abbrev pub empty_slot : BatteryString → Slot
empty_slot s = record { string = s; job = Empty; release = day 0; deadline = day 0; serves = 0 }

abbrev pub no_slot : Slot
no_slot = empty_slot no_string

-- the slot at place i, from 1
abbrev pub slot_at : List Slot → ℕ → Slot
slot_at ss i = get_or ss (i - 1) no_slot

-- a slot with another job
abbrev pub put_job : Slot → Job → Slot
put_job s j = record { string = s.string; job = j; release = s.release; deadline = s.deadline; serves = s.serves }

-- the slots with the job at place i made another
abbrev pub with_job : List Slot → ℕ → Job → List Slot
with_job ss i j = set ss (i - 1) (put_job (slot_at ss i) j)

unfoldable pub chosen : (Slot → Bool) → (Slot → Slot → Bool) → List Slot → ℕ → ℕ
chosen ok ahead ss zero = 0
chosen ok ahead ss (suc k) =
    let before = chosen ok ahead ss k in
    cond (ok (get_or ss k no_slot))
    (cond (eqb before 0) (suc k) (cond (ahead (get_or ss k no_slot) (slot_at ss before)) (suc k) before))
    before

-- nobody is ahead: the smallest place decides
abbrev pub none_ahead : Slot → Slot → Bool
none_ahead s r = false

-- ---- Step 1

abbrev pub late_slot : ℕ → Slot → Bool
late_slot t s = eqb s.deadline.0 t && ltb 0 (left s.job)

unfoldable pub late_at : ℕ → List Slot → ℕ
late_at t ss = chosen (late_slot t) none_ahead ss (length ss)

-- ---- Step 2

-- the slot of the release r, which is the k-th of the list
unfoldable pub new_slot : Plan → Release → ℕ → Slot
new_slot p r k =
    record {
      string = string_at p r.place;
      job = Waiting r.need (days 0);
      release = r.day;
      deadline = day (deadline_of p r);
      serves = k;
    }

-- k is the place in the list of the first of the releases
unfoldable pub join_from : Plan → ℕ → ℕ → List Release → List Slot → List Slot
join_from p t k [] ss = ss
join_from p t k (r ∷ rs) ss =
    join_from p t (suc k) rs (cond (eqb r.day.0 t) (set ss (r.place - 1) (new_slot p r k)) ss)

unfoldable pub joined : Plan → List Release → ℕ → List Slot → List Slot
joined p rs t ss = join_from p t 1 rs ss

-- ---- Step 3

unfoldable pub holder : List Slot → ℕ
holder ss = chosen (λ s. on_bank s.job) none_ahead ss (length ss)

-- s was released on day t, may take the bank, and is due strictly before a job on it that is due on day e
abbrev pub may_take : ℕ → ℕ → Slot → Bool
may_take t e s =
    waits s.job
    && eqb s.release.0 t
    && eqb s.string.x 1
    && ltb s.deadline.0 e

abbrev pub due_before : Slot → Slot → Bool
due_before s r = ltb s.deadline.0 r.deadline.0

unfoldable pub payer : ℕ → List Slot → ℕ
payer t ss = chosen (may_take t (slot_at ss (holder ss)).deadline.0) due_before ss (length ss)

abbrev pub stopped : Job → Job
stopped Empty = Empty
stopped (Waiting w m) = Waiting w m
stopped (OnBank w m) = Waiting w m

abbrev pub charged : ℕ → Job → Job
charged a Empty = Empty
charged a (Waiting w m) = Waiting w (days (m.0 + a))
charged a (OnBank w m) = OnBank w (days (m.0 + a))

abbrev pub stop : List Slot → ℕ → List Slot
stop ss i = with_job ss i (stopped (slot_at ss i).job)

abbrev pub charge : Plan → List Slot → ℕ → List Slot
charge p ss i = with_job ss i (charged (moving_cost p (slot_at ss i).string) (slot_at ss i).job)

unfoldable pub taken : Plan → ℕ → List Slot → List Slot
taken p t ss =
    cond (eqb (holder ss) 0) ss (cond (eqb (payer t ss) 0) ss (charge p (stop ss (holder ss)) (payer t ss)))

-- ---- Step 4

-- s is due before r, or on the same day and was released before it
abbrev pub goes_first : Slot → Slot → Bool
goes_first s r =
    ltb s.deadline.0 r.deadline.0
    || (eqb s.deadline.0 r.deadline.0 && ltb s.release.0 r.release.0)

unfoldable pub next_up : List Slot → ℕ
next_up ss = chosen (λ s. waits s.job) goes_first ss (length ss)

abbrev pub seated : Job → Job
seated Empty = Empty
seated (Waiting w m) = OnBank w m
seated (OnBank w m) = OnBank w m

unfoldable pub given : List Slot → List Slot
given ss =
    cond (eqb (holder ss) 0)
    (cond (eqb (next_up ss) 0) ss (with_job ss (next_up ss) (seated (slot_at ss (next_up ss)).job)))
    ss

-- ---- Step 5

abbrev pub used_for : ℕ → ℕ → Job → Use
used_for i serves Empty = Idle
used_for i serves (Waiting w m) = Idle
used_for i serves (OnBank w m) = cond (ltb 0 m.0) (Move i serves) (Work i serves)

unfoldable pub use_of : List Slot → Use
use_of ss = cond (eqb (holder ss) 0) Idle (used_for (holder ss) (slot_at ss (holder ss)).serves (slot_at ss (holder ss)).job)

-- a job with nothing left is gone
abbrev pub on_or_gone : Length → Length → Job
on_or_gone w m = cond (eqb (w.0 + m.0) 0) Empty (OnBank w m)

-- moving days first
abbrev pub spent_job : Job → Job
spent_job Empty = Empty
spent_job (Waiting w m) = Waiting w m
spent_job (OnBank w m) = cond (ltb 0 m.0) (on_or_gone w (days (m.0 - 1))) (on_or_gone (days (w.0 - 1)) m)

unfoldable pub spent : List Slot → List Slot
spent ss = cond (eqb (holder ss) 0) ss (with_job ss (holder ss) (spent_job (slot_at ss (holder ss)).job))

-- ---- The days of a run

-- steps 2 to 4 of day t
unfoldable pub morning : Plan → List Release → ℕ → List Slot → List Slot
morning p rs t ss = given (taken p t (joined p rs t ss))

unfoldable pub state_at : Plan → List Release → ℕ → List Slot
state_at p rs zero = map empty_slot (strings_of p)
state_at p rs (suc t) = spent (morning p rs t (state_at p rs t))

unfoldable pub use_on : Plan → List Release → ℕ → Use
use_on p rs t = use_of (morning p rs t (state_at p rs t))

unfoldable pub late_on : Plan → List Release → ℕ → ℕ
late_on p rs t = late_at t (state_at p rs t)

unfoldable pub history : Plan → List Release → ℕ → List Use
history p rs zero = []
history p rs (suc k) = history p rs k ++ (use_on p rs k ∷ [])

abbrev pub is_work : Use → Bool
is_work Idle = false
is_work (Work i k) = true
is_work (Move i k) = false

abbrev pub is_move : Use → Bool
is_move Idle = false
is_move (Work i k) = false
is_move (Move i k) = true

abbrev pub is_idle : Use → Bool
is_idle Idle = true
is_idle (Work i k) = false
is_idle (Move i k) = false

unfoldable pub miss_day : Plan → List Release → ℕ
miss_day p rs = least_from (λ t. ltb 0 (late_on p rs t)) 0 (suc p.run.0)

-- how many of the run's days are of a kind
unfoldable pub days_of : Plan → List Release → (Use → Bool) → Length
days_of p rs kind = days (count_of kind (history p rs p.run.0))

unfoldable pub run_of : Plan → List Release → Outcome
run_of p rs =
    let clean = Clean (days_of p rs is_work) (days_of p rs is_move) (days_of p rs is_idle) in
    cond (leb (miss_day p rs) p.run.0) (Miss (day (miss_day p rs)) (late_on p rs (miss_day p rs))) clean
