-- What the history of a run says of one release (document 01, "The day-by-day run").
--     due_of p r             the deadline of the release r
--     works_for k u          on a day used as u the bank works for the k-th release of the list
--     moves_for k u          on a day used as u the bank moves for the k-th release of the list
--     payer_in t ss          the place of the payer of day t, ss being the slots once the day's releases have joined; 0 where nobody takes
--                           the bank
--     payer_on p rs t        the place of the payer of day t in the run
--     paid p rs k           the k-th release was the payer of its release day
--     moving_caused p rs k   the moving that the k-th release caused: its string's moving cost if it paid, none otherwise
--     Served p rs k e       before day e the k-th release has had all its work, and any moving it caused: exactly its need, exactly that
--                           moving
--     Untouched p rs k e    before day e the bank has done nothing for the k-th release
--     ForRelease p rs t i k a day t used for place i and for the k-th release: the place is that release's, which has joined and is not
-- yet due
--     Named p rs t u        the day t, used as u, is idle or used for such a release
use Rattle.std.specs.Prelude.{ℕ, ◌≤◌, ◌<◌, ◌≡◌, Bool, false, cond, List, eqb, length}
use Rattle.base.specs.Count.{count_of}
use Rattle.rules.specs.declared.Plan.{Plan}
use Rattle.rules.specs.declared.Release.{Release}
use Rattle.rules.specs.declared.Slot.{Slot}
use Rattle.rules.specs.declared.Use.{Use}
use Rattle.rules.specs.declared.Use.TheVariants.{Idle, Work, Move}
use Rattle.rules.specs.Plan.{string_at}
use Rattle.rules.specs.Demand.{moving_cost}
pub use Rattle.rules.specs.Release.{released}
use Rattle.rules.specs.Release.{deadline_of}
use Rattle.rules.specs.Run.{holder, payer, joined, state_at, history}

abbrev pub due_of : Plan → Release → ℕ
due_of p r = deadline_of p r

abbrev pub works_for : ℕ → Use → Bool
works_for k Idle = false
works_for k (Work i m) = eqb m k
works_for k (Move i m) = false

abbrev pub moves_for : ℕ → Use → Bool
moves_for k Idle = false
moves_for k (Work i m) = false
moves_for k (Move i m) = eqb m k

unfoldable pub payer_in : ℕ → List Slot → ℕ
payer_in t ss = cond (eqb (holder ss) 0) 0 (payer t ss)

unfoldable pub payer_on : Plan → List Release → ℕ → ℕ
payer_on p rs t = payer_in t (joined p rs t (state_at p rs t))

unfoldable pub paid : Plan → List Release → ℕ → Bool
paid p rs k = eqb (payer_on p rs (released rs k).day.0) (released rs k).place

unfoldable pub moving_caused : Plan → List Release → ℕ → ℕ
moving_caused p rs k = cond (paid p rs k) (moving_cost p (string_at p (released rs k).place)) 0

pub record Served (p : Plan) (rs : List Release) (k e : ℕ) : Type 0 where
  pub work : count_of (works_for k) (history p rs e) ≡ (released rs k).need.0
  pub moving : count_of (moves_for k) (history p rs e) ≡ moving_caused p rs k

pub record Untouched (p : Plan) (rs : List Release) (k e : ℕ) : Type 0 where
  pub work : count_of (works_for k) (history p rs e) ≡ 0
  pub moving : count_of (moves_for k) (history p rs e) ≡ 0

pub record ForRelease (p : Plan) (rs : List Release) (t i k : ℕ) : Type 0 where
  pub low : 1 ≤ k
  pub high : k ≤ length rs
  pub place : (released rs k).place ≡ i
  pub since : (released rs k).day.0 ≤ t
  pub due : t < due_of p (released rs k)

abbrev pub Named : Plan → List Release → ℕ → Use → Type 0
Named p rs t Idle = Unit
Named p rs t (Work i k) = ForRelease p rs t i k
Named p rs t (Move i k) = ForRelease p rs t i k
