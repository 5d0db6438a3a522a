-- What it is for a visit list to be accepted, in the words of document 02, W-211: each rule over the whole list. `accepted-exactly`
-- (proofs/AcceptedExactly.antt) says that the check finds nothing exactly there.
--     visit_at vs i          the record with index i, from 0
--     Follows vs i j        the record j serves the release that the record i serves, and none between them does
--     Accepted p rs vs      the six rules
use Rattle.std.specs.Prelude.{ℕ, ◌≤◌, ◌<◌, ◌≡◌, ◌≢◌, List, length, get_or}
use Rattle.days.specs.Days.{day, days}
use Rattle.rules.specs.declared.Plan.{Plan}
use Rattle.rules.specs.declared.Release.{Release}
use Rattle.rules.specs.Release.{released, deadline_of}
use Rattle.visits.specs.declared.Visit.{Visit}
use Rattle.visits.specs.Visits.{end_of_visit, days_for, days_asked}

-- stands where there is no record; it serves no release
abbrev pub no_visit : Visit
no_visit = record { release = 0; first = day 0; length = days 0 }

abbrev pub visit_at : List Visit → ℕ → Visit
visit_at vs i = get_or vs i no_visit

pub record Follows (vs : List Visit) (i j : ℕ) : Type 0 where
  pub later : i < j
  pub same : (visit_at vs j).release ≡ (visit_at vs i).release
  pub none_between : (m : ℕ) → i < m → m < j → (visit_at vs m).release ≢ (visit_at vs i).release

pub record Accepted (p : Plan) (rs : List Release) (vs : List Visit) : Type 0 where
  -- lengths are at least 1
  pub long : (i : ℕ) → i < length vs → 1 ≤ (visit_at vs i).length.0
  -- visits are in day order without overlap
  pub in_order : (i j : ℕ) → i < j → j < length vs → end_of_visit (visit_at vs i) ≤ (visit_at vs j).first.0
  -- every visit names a listed release
  pub listed : (i : ℕ) → i < length vs → (1 ≤ (visit_at vs i).release) × ((visit_at vs i).release ≤ length rs)
  -- visits of one release that follow each other do not touch
  pub apart : (i j : ℕ) → j < length vs → Follows vs i j → end_of_visit (visit_at vs i) ≢ (visit_at vs j).first.0
  -- each lies from the release day ..
  pub since : (i : ℕ) → i < length vs → (released rs (visit_at vs i).release).day.0 ≤ (visit_at vs i).first.0
  -- .. up to, not into, the deadline day
  pub due : (i : ℕ) → i < length vs → end_of_visit (visit_at vs i) ≤ deadline_of p (released rs (visit_at vs i).release)
  -- for each release the lengths add up to its need plus its string's moving cost for every visit after its first
  pub sums : (k : ℕ) → 1 ≤ k → k ≤ length rs → days_for k vs ≡ days_asked p rs vs k
