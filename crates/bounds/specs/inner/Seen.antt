-- What the code remembers of the releases already seen, and what that says of the next.
--     latest_of seen         the day of the release listed just ahead; day 0 where there is none
--     last_of i seen         the due day of the last release of place i
--     remembered_of last i   what the code's ten places hold for place i; nothing for a place that no plan has
--     too_soon last d t      the due day d lies fewer than t days after that of the last release
--     admits p latest last r     r may stand after releases with these two
use Rattle.std.specs.Prelude.{ℕ, ◌+◌, ◌-◌, Bool, false, not, cond, ◌&&◌, List, [], ◌∷◌, ltb, eqb, get_or}
use Rattle.std.specs.Prelude.{Some, None, Option}
use Rattle.days.specs.declared.Day.{Day}
use Rattle.days.specs.declared.Length.{Length}
use Rattle.days.specs.Days.{day}
use Rattle.rules.specs.declared.Plan.{Plan}
use Rattle.rules.specs.declared.Release.{Release}
use Rattle.rules.specs.Plan.{string_at}
use Rattle.faults.specs.Checks.{in_bounds}

unfoldable pub latest_of : List Release → Day
latest_of [] = day 0
latest_of (q ∷ seen) = q.day

unfoldable pub last_of : ℕ → List Release → Option Day
last_of i [] = None
last_of i (q ∷ seen) = cond (eqb q.place i) (Some q.due) (last_of i seen)

unfoldable pub remembered_of : List (Option Day) → ℕ → Option Day
remembered_of last i = cond (in_bounds 1 i 10) (get_or last (i - 1) None) None

unfoldable pub too_soon : Option Day → Day → Length → Bool
too_soon None d t = false
too_soon (Some e) d t = ltb d.0 (e.0 + t.0)

unfoldable pub admits : Plan → Day → Option Day → Release → Bool
admits p latest last r =
    in_bounds 1 r.place p.n
    && in_bounds 1 r.need.0 (string_at p r.place).c.0
    && ltb r.day.0 p.run.0
    && in_bounds r.due.0 r.day.0 (r.due.0 + (string_at p r.place).j.0)
    && not (ltb r.day.0 latest.0)
    && not (too_soon last r.due (string_at p r.place).t)
