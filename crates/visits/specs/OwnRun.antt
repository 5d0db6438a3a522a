-- The visits of our own run (document 02, W-211): the days that the bank works or moves for a release, touching days of one release written
-- as one visit. Idle days are left out.
--     day_before t k vs      the visits vs, which start after day t, with day t for the release k ahead of them
--     visits_from t us       the visits of days that were used as us, day t the first of them; the release that a day serves is that of its
--                           stint (rules/specs/Stints.antt), none where it is idle
--     visits_to p rs e       those of the run before day e
--     run_visits p rs        those of the run: of all N days, or of those before the miss
--     stint_ahead s vs       the visits vs with the stint s ahead of them: a visit that starts as it ends, for the same release, is joined
--     stints_visits ss       the visits of stints, idle ones left out. Of a run's stints they are its visits (`stints-visits`)
--     own_visits p rs        what is handed out: 4 to 8 as for a run; else how many visits the run has, at most 3,001, and these, first in
--                           a list of so many places
use Rattle.std.specs.Prelude.{ℕ, suc, ◌+◌, cond, ◌&&◌, List, [], ◌∷◌, eqb, length, Result, Ok}
use Rattle.faults.specs.Checks.{Refused, or_refused}
use Rattle.faults.specs.declared.Refusal.{Refusal}
use Rattle.base.specs.Count.{filled}
use Rattle.days.specs.Days.{day, days}
use Rattle.rules.specs.declared.Plan.{Plan}
use Rattle.rules.specs.declared.Release.{Release}
use Rattle.rules.specs.declared.Releases.{Releases}
use Rattle.rules.specs.declared.Use.{Use}
use Rattle.rules.specs.Release.{releases_of}
use Rattle.rules.specs.Refusal.{run_check}
use Rattle.rules.specs.Run.{history}
use Rattle.rules.specs.declared.Stint.{Stint}
use Rattle.rules.specs.Stints.{release_used, days_run}
use Rattle.visits.specs.declared.Visit.{Visit}
use Rattle.visits.specs.declared.OwnVisits.{OwnVisits}
use Rattle.visits.specs.Accepted.{no_visit}

abbrev pub one_day : ℕ → ℕ → Visit
one_day k t = record { release = k; first = day t; length = days 1 }

-- a visit that starts on the next day, and serves the same release, starts a day earlier
unfoldable pub joined_to : ℕ → ℕ → List Visit → List Visit
joined_to t k [] = one_day k t ∷ []
joined_to t k (v ∷ vs) =
    cond (eqb v.release k && eqb v.first.0 (suc t))
    (record { release = k; first = day t; length = days (suc v.length.0) } ∷ vs)
    (one_day k t ∷ v ∷ vs)

unfoldable pub day_before : ℕ → ℕ → List Visit → List Visit
day_before t k vs = cond (eqb k 0) vs (joined_to t k vs)

unfoldable pub visits_from : ℕ → List Use → List Visit
visits_from t [] = []
visits_from t (u ∷ us) = day_before t (release_used u) (visits_from (suc t) us)

unfoldable pub visits_to : Plan → List Release → ℕ → List Visit
visits_to p rs e = visits_from 0 (history p rs e)

unfoldable pub run_visits : Plan → List Release → List Visit
run_visits p rs = visits_to p rs (days_run p rs)

-- ---- The same of stints

abbrev pub visit_of : ℕ → ℕ → ℕ → Visit
visit_of k t n = record { release = k; first = day t; length = days n }

unfoldable pub stretch_joined : ℕ → ℕ → ℕ → List Visit → List Visit
stretch_joined t n k [] = visit_of k t n ∷ []
stretch_joined t n k (v ∷ vs) =
    cond (eqb v.release k && eqb v.first.0 (t + n)) (visit_of k t (n + v.length.0) ∷ vs) (visit_of k t n ∷ v ∷ vs)

unfoldable pub stint_ahead : Stint → List Visit → List Visit
stint_ahead s vs =
    cond (eqb (release_used s.used) 0) vs (stretch_joined s.first.0 s.length.0 (release_used s.used) vs)

unfoldable pub stints_visits : List Stint → List Visit
stints_visits [] = []
stints_visits (s ∷ ss) = stint_ahead s (stints_visits ss)

-- ---- Handed out

abbrev pub handed_out : List Visit → OwnVisits
handed_out vs = record { count = length vs; list = filled 3001 no_visit vs }

unfoldable pub own_visits : Plan → Releases → Result OwnVisits Refusal
own_visits p rs = or_refused Refused (run_check p rs) (Ok (handed_out (run_visits p (releases_of rs))))
