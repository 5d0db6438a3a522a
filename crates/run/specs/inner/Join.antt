-- Step 2: what it asks of a release, and where it stands.
--     Joins p r                             the place of r is one of p's strings, and its deadline is a day that the code can say
--     Joining p rs t from slots next        in step 2 of day t: with the releases from next on still to join, the slots become those
--                                           that step 2 makes; where none has joined since from, they are those of the start of the day
--     Joined p rs t from slots next         after step 2
use Rattle.std.specs.Prelude.{ℕ, ◌+◌, ◌≤◌, ◌<◌, ◌^◌, ◌≡◌, List, drop, length}
use Rattle.rules.specs.declared.Plan.{Plan}
use Rattle.rules.specs.declared.Release.{Release}
use Rattle.rules.specs.declared.Slot.{Slot}
use Rattle.rules.specs.Release.{deadline_of}
use Rattle.rules.specs.Run.{join_from, joined, state_at}
use Rattle.stretch.specs.Stretch.{day_at}

pub record Joins (p : Plan) (r : Release) : Type 0 where
  pub n_max : p.n ≤ 10
  pub low : 1 ≤ r.place
  pub high : r.place ≤ p.n
  pub due : deadline_of p r < 2 ^ 32

pub record Joining (p : Plan) (rs : List Release) (t from : ℕ) (slots : List Slot) (next : ℕ) : Type 0 where
  pub pending : join_from p t (next + 1) (drop next rs) slots ≡ joined p rs t (state_at p rs t)
  pub since : from ≤ next
  pub within : next ≤ length rs
  pub passed : (i : ℕ) → i < next → day_at rs i ≤ t
  pub coming : (i : ℕ) → next ≤ i → i < length rs → t ≤ day_at rs i
  pub quiet : next ≤ from → slots ≡ state_at p rs t

pub record Joined (p : Plan) (rs : List Release) (t from : ℕ) (slots : List Slot) (next : ℕ) : Type 0 where
  pub state : slots ≡ joined p rs t (state_at p rs t)
  pub within : next ≤ length rs
  pub passed : (i : ℕ) → i < next → day_at rs i ≤ t
  pub coming : (i : ℕ) → next ≤ i → i < length rs → t < day_at rs i
  pub quiet : next ≤ from → slots ≡ state_at p rs t
