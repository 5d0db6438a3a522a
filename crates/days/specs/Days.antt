-- Days and lengths (document 01, "What the desk plans": day plus length is a day, day minus earlier day is a length).
--     day k           the day numbered k
--     days k          a length of k days
--     later_of t n     the day that lies n after t, or None where no day number of the code says it
--     gap_of t s       how long t lies after s, or None where s is the later
use Rattle.std.specs.Prelude.{ℕ, ◌+◌, ◌-◌, ◌^◌, cond, ltb, leb, Option, Some, None}
use Rattle.days.specs.declared.Day.{Day}
use Rattle.days.specs.declared.Length.{Length}

abbrev pub day : ℕ → Day
day k = record { 0 = k }

abbrev pub days : ℕ → Length
days k = record { 0 = k }

unfoldable pub later_of : Day → Length → Option Day
later_of t n = cond (ltb (t.0 + n.0) (2 ^ 32)) (Some (day (t.0 + n.0))) None

unfoldable pub gap_of : Day → Day → Option Length
gap_of t s = cond (leb s.0 t.0) (Some (days (t.0 - s.0))) None
