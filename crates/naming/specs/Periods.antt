-- Refusal 6, by name: the string at which H passes 100,000, and the largest smaller T of it that fits: no less than its D, and H of the
-- strings up to it is in bounds. A smaller T is the safe side.
--     plan_named v lines     the strings of a text as a plan; only its strings are asked for
--     first_to p i           the first i strings of p
--     retimed p i t         p with T t for the string at place i
--     over_place p           the first place at which H of the strings up to it is over 100,000
--     multiple_fits p i t            H of the first i strings is in bounds where the last of them has T t
--     smaller_fit p i        the largest such t below its own T and not below its D; 0 where there is none
--     multiple_reason p      of a plan whose H is over 100,000
use Rattle.std.specs.Prelude.{ℕ, suc, ◌-◌, min, Bool, cond, ◌&&◌, List, map, ltb, leb, eqb, get_or, set}
use Rattle.days.specs.Days.{days}
use Rattle.base.specs.Count.{filled, up_from, least_from}
use Rattle.base.specs.Divisors.{greatest_to}
use Rattle.rules.specs.declared.BatteryString.{BatteryString}
use Rattle.rules.specs.declared.Plan.{Plan}
use Rattle.rules.specs.Plan.{no_string, multiple_of}
use Rattle.rules.specs.Layout.{Version}
use Rattle.rules.specs.Text.{Line, n_in, string_of}
use Rattle.lines.specs.declared.reasons.Reason.{Reason}
use Rattle.lines.specs.declared.reasons.Reason.TheVariants.{Fits, NoneFits}
use Rattle.naming.specs.Lines.{line_no}

unfoldable pub strings_named : Version → List Line → List BatteryString
strings_named v lines =
    map (λ i. string_of v (line_no lines 1) (line_no lines (suc i))) (up_from 1 (min (n_in v (line_no lines 1)) 10))

unfoldable pub plan_named : Version → List Line → Plan
plan_named v lines =
    record { n = min (n_in v (line_no lines 1)) 10; run = days 0; strings = filled 10 no_string (strings_named v lines) }

abbrev pub first_to : Plan → ℕ → Plan
first_to p i = record { n = i; run = p.run; strings = p.strings }

-- the string at a place, whether it counts or not
abbrev pub stands_at : Plan → ℕ → BatteryString
stands_at p i = get_or p.strings (i - 1) no_string

abbrev pub timed : BatteryString → ℕ → BatteryString
timed s t = record { t = days t; c = s.c; d = s.d; x = s.x; a = s.a; j = s.j }

abbrev pub retimed : Plan → ℕ → ℕ → Plan
retimed p i t = record { n = p.n; run = p.run; strings = set p.strings (i - 1) (timed (stands_at p i) t) }

unfoldable pub over_place : Plan → ℕ
over_place p = least_from (λ i. ltb 100000 (multiple_of (first_to p i))) 1 p.n

unfoldable pub multiple_fits : Plan → ℕ → ℕ → Bool
multiple_fits p i t = leb (multiple_of (retimed (first_to p i) i t)) 100000

unfoldable pub smaller_fit : Plan → ℕ → ℕ
smaller_fit p i = greatest_to (λ t. leb (stands_at p i).d.0 t && multiple_fits p i t) ((stands_at p i).t.0 - 1)

unfoldable pub multiple_reason : Plan → Reason
multiple_reason p =
    let i = over_place p in
    let s = stands_at p i in
    cond (eqb (smaller_fit p i) 0) (NoneFits i s.t.0 s.d.0) (Fits i s.t.0 (smaller_fit p i))
