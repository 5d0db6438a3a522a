-- For the proofs inside this crate: the visits of stints, as the code takes them, one behind the other.
--     stints_in numbers n    the first n stints of a list with five numbers for each
--     StintsEnd numbers n   each of them has ended by day 1,000,000
--     follows a s           the stint s serves the release of the visit a, and starts on the day on which a has ended
--     longer a s            the visit a with the stint s behind it
--     with_stint vs s        the visits vs with the stint s behind them
--     worked_visit s         the visit that the stint s is
--     last_at own            the last of the visits that are handed out
--     pushed own v           the same with the visit v behind them, joined to the last where it touches it
use Rattle.std.specs.Prelude.{ℕ, ◌+◌, ◌-◌, ◌≤◌, ◌<◌, Bool, cond, ◌&&◌, List, [], ◌∷◌, map, eqb, get_or, set, Option, Some, None}
use Rattle.base.specs.Count.{up_from}
use Rattle.rules.specs.declared.Stint.{Stint}
use Rattle.rules.specs.Stints.{release_used}
use Rattle.run.specs.Numbers.{stint_at}
use Rattle.visits.specs.declared.Visit.{Visit}
use Rattle.visits.specs.declared.OwnVisits.{OwnVisits}
use Rattle.visits.specs.Visits.{end_of_visit}
use Rattle.visits.specs.Accepted.{no_visit}
use Rattle.visits.specs.OwnRun.{visit_of}

abbrev pub stints_in : List ℕ → ℕ → List Stint
stints_in numbers n = map (stint_at numbers) (up_from 0 n)

abbrev pub served_by : Stint → ℕ
served_by s = release_used s.used

abbrev pub end_of_stint : Stint → ℕ
end_of_stint s = s.first.0 + s.length.0

abbrev pub StintsEnd : List ℕ → ℕ → Type 0
StintsEnd numbers n = (i : ℕ) → i < n → end_of_stint (stint_at numbers i) ≤ 1000000

abbrev pub follows : Visit → Stint → Bool
follows a s = eqb (served_by s) a.release && eqb s.first.0 (a.first.0 + a.length.0)

abbrev pub longer : Visit → Stint → Visit
longer a s = visit_of a.release a.first.0 (a.length.0 + s.length.0)

abbrev pub visit_alone : Stint → Visit
visit_alone s = visit_of (served_by s) s.first.0 s.length.0

unfoldable pub with_stint : List Visit → Stint → List Visit
with_stint [] s = cond (eqb (served_by s) 0) [] (visit_alone s ∷ [])
with_stint (a ∷ []) s = cond (eqb (served_by s) 0) (a ∷ []) (cond (follows a s) (longer a s ∷ []) (a ∷ visit_alone s ∷ []))
with_stint (a ∷ b ∷ vs) s = a ∷ with_stint (b ∷ vs) s

-- ---- Handed out

-- the visit that a stint is; an idle one is none
unfoldable pub worked_visit : Stint → Option Visit
worked_visit s = cond (eqb (served_by s) 0) None (Some (visit_alone s))

abbrev pub last_at : OwnVisits → Visit
last_at own = get_or own.list (own.count - 1) no_visit

unfoldable pub pushed : OwnVisits → Visit → OwnVisits
pushed own v =
    let last = last_at own in
    cond (eqb v.release last.release && eqb v.first.0 (end_of_visit last))
    (record { count = own.count; list = set own.list (own.count - 1) (visit_of last.release last.first.0 (last.length.0 + v.length.0)) })
    (record { count = own.count + 1; list = set own.list own.count v })
