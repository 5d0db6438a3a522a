-- The contractor's visit list (document 02, W-211). A record has the release that it serves (its place in the list, from 1), a first day
-- and a length. A check of a record looks at those listed before it, `seen`, the latest first.
--     end_of_visit v          the day after the last day of v
--     long_enough v          the length is at least 1
--     starts_inside v q      v starts before q has ended: not in day order, or they overlap
--     names_release rs v     v names a release of the list
--     touches v q           v serves the release that q serves, and starts on the day on which q has ended
--     in_its_days p rs v      v lies from the release day up to, not into, the deadline day of the release that it serves
--     visit_lawful p rs seen v    v breaks no rule, on its own or against those seen
--     first_breaking p rs vs the number, from 1, of the first record that breaks a rule; 0 where none does
--     visits_for k vs        the visits that serve the k-th release, in their order
--     days_for k vs          their lengths, added up
--     days_asked p rs vs k   what they must add up to: the need, and the string's moving cost for every visit after the first
--     adds_up p rs vs k      they do. A release that nobody visits adds up to 0, and asks for its need
--     first_short p rs vs    the place in the list of the first release that does not add up; one more than there are where all do
--     visits_check p rs vs   4 to 8 on the plan and its releases; then 14 with the number of the record; then 15 with the release
-- Whether a string may take the bank, its X, plays no part.
use Rattle.std.specs.Prelude.{ℕ, suc, ◌+◌, ◌-◌, ◌*◌, Bool, not, cond, ◌&&◌, List, [], ◌∷◌, leb, ltb, eqb, length}
use Rattle.faults.specs.Checks.{Checked}
use Rattle.base.specs.Count.{sum_of, any, keep, least_from}
use Rattle.faults.specs.declared.Fault.TheVariants.{VisitUnlawful, SumDiffers}
use Rattle.faults.specs.Checks.{in_bounds, refuse_if, then}
use Rattle.rules.specs.declared.Plan.{Plan}
use Rattle.rules.specs.declared.Release.{Release}
use Rattle.rules.specs.declared.Releases.{Releases}
use Rattle.rules.specs.Plan.{string_at}
use Rattle.rules.specs.Demand.{moving_cost}
use Rattle.rules.specs.Release.{releases_of, released, deadline_of}
use Rattle.rules.specs.Refusal.{run_check}
use Rattle.visits.specs.declared.Visit.{Visit}

abbrev pub end_of_visit : Visit → ℕ
end_of_visit v = v.first.0 + v.length.0

-- ---- A record, and those before it

abbrev pub long_enough : Visit → Bool
long_enough v = leb 1 v.length.0

abbrev pub starts_inside : Visit → Visit → Bool
starts_inside v q = ltb v.first.0 (end_of_visit q)

abbrev pub names_release : List Release → Visit → Bool
names_release rs v = in_bounds 1 v.release (length rs)

abbrev pub touches : Visit → Visit → Bool
touches v q = eqb q.release v.release && eqb (end_of_visit q) v.first.0

abbrev pub in_its_days : Plan → List Release → Visit → Bool
in_its_days p rs v =
    leb (released rs v.release).day.0 v.first.0
    && leb (end_of_visit v) (deadline_of p (released rs v.release))

unfoldable pub visit_lawful : Plan → List Release → List Visit → Visit → Bool
visit_lawful p rs seen v =
    long_enough v
    && not (any (starts_inside v) seen)
    && names_release rs v
    && not (any (touches v) seen)
    && in_its_days p rs v

-- the same, of records that are listed after those seen; k is the number of the next
unfoldable pub breaking_from : Plan → List Release → List Visit → ℕ → List Visit → ℕ
breaking_from p rs seen k [] = 0
breaking_from p rs seen k (v ∷ vs) =
    let later = breaking_from p rs (v ∷ seen) (suc k) vs in
    cond (visit_lawful p rs seen v) later k

unfoldable pub first_breaking : Plan → List Release → List Visit → ℕ
first_breaking p rs vs = breaking_from p rs [] 1 vs

-- ---- Sums

abbrev pub visits_for : ℕ → List Visit → List Visit
visits_for k vs = keep (λ v. eqb v.release k) vs

abbrev pub days_for : ℕ → List Visit → ℕ
days_for k vs = sum_of (λ v. v.length.0) (visits_for k vs)

abbrev pub days_asked : Plan → List Release → List Visit → ℕ → ℕ
days_asked p rs vs k =
    (released rs k).need.0 + moving_cost p (string_at p (released rs k).place) * (length (visits_for k vs) - 1)

abbrev pub adds_up : Plan → List Release → List Visit → ℕ → Bool
adds_up p rs vs k = eqb (days_for k vs) (days_asked p rs vs k)

unfoldable pub first_short : Plan → List Release → List Visit → ℕ
first_short p rs vs = least_from (λ k. not (adds_up p rs vs k)) 1 (length rs)

-- ---- The order of faults

unfoldable pub visit_list_check : Plan → List Release → List Visit → Checked
visit_list_check p rs vs =
    let breaking = first_breaking p rs vs in
    let short = first_short p rs vs in
    then (refuse_if (ltb 0 breaking) VisitUnlawful breaking) (refuse_if (leb short (length rs)) SumDiffers short)

unfoldable pub visits_check : Plan → Releases → List Visit → Checked
visits_check p rs vs =
    let list = visit_list_check p (releases_of rs) vs in
    then (run_check p rs) list
