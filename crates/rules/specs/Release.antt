-- A lawful release list (document 01, "Refusal numbers", last paragraph; document 02, W-213). Releases are (day, place, need, due day).
--     releases_of rs         the releases of the code's list rs
--     released rs k         the k-th release of the list, from 1
--     due_day r              the due day of r, from which its deadline and its distance to others count
--     deadline_of p r        its deadline: the due day plus D of its string
--     too_close t r seen     the due day of r is fewer than t days after that of the last release of the same place; seen has the latest
--                           first
--     out_of_order r seen     the day of r is before that of the release listed just ahead of it
--     release_lawful p seen r     r may stand after the releases seen
--     first_unlawful p rs    the place in the list, from 1, of the first that may not stand there; 0 where all may
-- Exactly T days apart is lawful, and so is a release on its due day or J days after it. The list is in the order of release days.
use Rattle.std.specs.Prelude.{ℕ, suc, ◌+◌, ◌-◌, Bool, false, not, cond, ◌&&◌, List, [], ◌∷◌, ltb, eqb, take, get_or}
use Rattle.days.specs.Days.{day, days}
use Rattle.rules.specs.declared.Plan.{Plan}
use Rattle.rules.specs.declared.Release.{Release}
use Rattle.rules.specs.declared.Releases.{Releases}
use Rattle.rules.specs.Plan.{string_at}
use Rattle.faults.specs.Checks.{in_bounds}

abbrev pub releases_of : Releases → List Release
releases_of rs = take rs.count rs.list

-- stands where there is no release
abbrev pub no_release : Release
no_release = record { day = day 0; place = 0; need = days 0; due = day 0 }

abbrev pub due_day : Release → ℕ
due_day r = r.due.0

abbrev pub deadline_of : Plan → Release → ℕ
deadline_of p r = due_day r + (string_at p r.place).d.0

abbrev pub released : List Release → ℕ → Release
released rs k = get_or rs (k - 1) no_release

unfoldable pub too_close : ℕ → Release → List Release → Bool
too_close t r [] = false
too_close t r (q ∷ seen) =
    let earlier = too_close t r seen in
    cond (eqb q.place r.place) (ltb (due_day r) (due_day q + t)) earlier

unfoldable pub out_of_order : Release → List Release → Bool
out_of_order r [] = false
out_of_order r (q ∷ seen) = ltb r.day.0 q.day.0

unfoldable pub release_lawful : Plan → List Release → Release → Bool
release_lawful p seen r =
    in_bounds 1 r.place p.n
    && in_bounds 1 r.need.0 (string_at p r.place).c.0
    && ltb r.day.0 p.run.0
    && in_bounds (due_day r) r.day.0 (due_day r + (string_at p r.place).j.0)
    && not (out_of_order r seen)
    && not (too_close (string_at p r.place).t.0 r seen)

-- the same, of releases that are listed after those seen; k is the place in the list of the next
unfoldable pub unlawful_from : Plan → List Release → ℕ → List Release → ℕ
unlawful_from p seen k [] = 0
unlawful_from p seen k (r ∷ rs) =
    let later = unlawful_from p (r ∷ seen) (suc k) rs in
    cond (release_lawful p seen r) later k

unfoldable pub first_unlawful : Plan → List Release → ℕ
first_unlawful p rs = unlawful_from p [] 1 rs
