-- Laws of slots by place: a slot by index, a job made another, the slot of a release, and the first n slots of an array.
--     at ss j               the slot with index j: the slot of place j + 1
use Rattle.base.proofs.Prelude.{ℕ, suc, ◌+◌, ◌-◌, ◌≤◌, ◌<◌, ◌≡◌, refl, ap, ◌≢◌, List, arith, length, get_or, take, set, length-set, get_or-set_same, get_or-set_other, get_or-take}
use lib.Seq.{take-set-lt}
use Rattle.days.specs.Days.{day, days}
use Rattle.rules.specs.{declared.Plan.Plan, declared.Release.Release, declared.Slot.Slot, declared.Job.Job, declared.Job.TheVariants.Waiting, Plan.string_at, Release.deadline_of, Run.{no_slot, slot_at, put_job, with_job, new_slot, charged}}

abbrev pub at : List Slot → ℕ → Slot
at ss j = get_or ss j no_slot

pub slot_at-suc : (ss : List Slot) (j : ℕ) → slot_at ss (suc j) ≡ at ss j
slot_at-suc ss j =
    let e : suc j - 1 ≡ j = omega arith in
    ap (λ i. get_or ss i no_slot) e

-- ---- A job made another

-- the job at a place is made another, which the slot there decides
module _ (f : Slot → Job) (ss : List Slot) (j : ℕ) where
  change-set : with_job ss (suc j) (f (slot_at ss (suc j))) ≡ set ss j (put_job (at ss j) (f (at ss j)))
  change-set =
      let e : suc j - 1 ≡ j = omega arith in
      ap (λ i. set ss i (put_job (get_or ss i no_slot) (f (get_or ss i no_slot)))) e

  pub change-length : length (with_job ss (suc j) (f (slot_at ss (suc j)))) ≡ length ss
  change-length = rw change-set (length-set ss j (put_job (at ss j) (f (at ss j))))

  pub change-same : j < length ss → at (with_job ss (suc j) (f (slot_at ss (suc j)))) j ≡ put_job (at ss j) (f (at ss j))
  change-same h = rw change-set (get_or-set_same ss j (put_job (at ss j) (f (at ss j))) no_slot h)

  pub change-other : (i : ℕ) → i ≢ j → at (with_job ss (suc j) (f (slot_at ss (suc j)))) i ≡ at ss i
  change-other i h = rw change-set (get_or-set_other ss j i (put_job (at ss j) (f (at ss j))) no_slot h)

-- ---- The slot of a release

module _ (p : Plan) (r : Release) (k : ℕ) where
  pub new_slot-string : (new_slot p r k).string ≡ string_at p r.place
  unfolding new_slot
  new_slot-string = refl

  pub new_slot-job : (new_slot p r k).job ≡ Waiting r.need (days 0)
  unfolding new_slot
  new_slot-job = refl

  pub new_slot-release : (new_slot p r k).release ≡ r.day
  unfolding new_slot
  new_slot-release = refl

  pub new_slot-deadline : (new_slot p r k).deadline ≡ day (deadline_of p r)
  unfolding new_slot
  new_slot-deadline = refl

  pub new_slot-serves : (new_slot p r k).serves ≡ k
  unfolding new_slot
  new_slot-serves = refl

  -- it is the slot that waits with its need
  pub new_slot-own : new_slot p r k ≡ put_job (new_slot p r k) (Waiting r.need (days 0))
  unfolding new_slot
  new_slot-own = refl

  -- and once it has paid, with what it paid
  pub new_slot-charged : (a : ℕ) → charged a (new_slot p r k).job ≡ Waiting r.need (days a)
  unfolding new_slot
  new_slot-charged a =
      let sum : 0 + a ≡ a = omega arith in
      ap (λ m. Waiting r.need (days m)) sum

-- ---- The first n slots of an array

pub slot_at-take : (ss : List Slot) (n i : ℕ) → 1 ≤ i → i ≤ n → slot_at (take n ss) i ≡ slot_at ss i
slot_at-take ss n i low high = get_or-take n ss (i - 1) no_slot (omega arith)

pub change-take : (f : Slot → Job) (ss : List Slot) (n i : ℕ) → 1 ≤ i → i ≤ n
    → take n (with_job ss i (f (slot_at ss i))) ≡ with_job (take n ss) i (f (slot_at (take n ss) i))
change-take f ss n i low high = rw (get_or-take n ss (i - 1) no_slot (omega arith)) (take-set-lt n ss (i - 1) _ (omega arith))
