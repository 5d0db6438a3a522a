-- Between two events of a run nothing changes: no release comes, no part of a job is finished, no deadline comes up.
--     day_at rs i            the day of the release with index i
--     part_days job          the days left of what a job on the bank is at: of moving while there is some, else of work
--     spent_by k job         what k days at that make of the job: moving days first, and gone where nothing is left
--     days_off k ss          the slots with k days off the job on the bank
--     morning_on p rs t      the slots after step 4 of day t
--     Stretch p rs t k      the k days from day t on lie between two events, as the slots of the morning of day t and the list have it:
--                           k is at least 1, and at most what the job on the bank is still at, the days to the next release, and the
--                           days to the earliest deadline of a job with something left
use Rattle.std.specs.Prelude.{ℕ, ◌+◌, ◌-◌, ◌≤◌, ◌<◌, max, ◌≡◌, cond, List, ltb, eqb, length, get_or}
use Rattle.days.specs.Days.{days}
use Rattle.rules.specs.declared.Plan.{Plan}
use Rattle.rules.specs.declared.Release.{Release}
use Rattle.rules.specs.declared.Job.{Job}
use Rattle.rules.specs.declared.Job.TheVariants.{Empty, Waiting, OnBank}
use Rattle.rules.specs.declared.Slot.{Slot}
use Rattle.rules.specs.Release.{no_release}
use Rattle.rules.specs.Run.{left, slot_at, no_slot, with_job, holder, on_or_gone, morning, state_at}

abbrev pub day_at : List Release → ℕ → ℕ
day_at rs i = (get_or rs i no_release).day.0

abbrev pub part_days : Job → ℕ
part_days Empty = 0
part_days (Waiting w m) = 0
part_days (OnBank w m) = cond (ltb 0 m.0) m.0 w.0

abbrev pub spent_by : ℕ → Job → Job
spent_by k Empty = Empty
spent_by k (Waiting w m) = Waiting w m
spent_by k (OnBank w m) = cond (ltb 0 m.0) (on_or_gone w (days (m.0 - k))) (on_or_gone (days (w.0 - k)) m)

unfoldable pub days_off : ℕ → List Slot → List Slot
days_off k ss = cond (eqb (holder ss) 0) ss (with_job ss (holder ss) (spent_by k (slot_at ss (holder ss)).job))

abbrev pub morning_on : Plan → List Release → ℕ → List Slot
morning_on p rs t = morning p rs t (state_at p rs t)

pub record Stretch (p : Plan) (rs : List Release) (t k : ℕ) : Type 0 where
  pub some : 1 ≤ k
  pub part : (holder (morning_on p rs t) ≡ 0 → ⊥)
      → k ≤ max 1 (part_days (slot_at (morning_on p rs t) (holder (morning_on p rs t))).job)
  pub releases : (i : ℕ) → i < length rs → t < day_at rs i → t + k ≤ day_at rs i
  pub deadlines : (j : ℕ) → 1 ≤ left (get_or (morning_on p rs t) j no_slot).job → t < (get_or (morning_on p rs t) j no_slot).deadline.0
      → t + k ≤ (get_or (morning_on p rs t) j no_slot).deadline.0
