-- The line of a string whose numbers stand beside their limits, as bytes. It ends by one byte 0a. Letters are document 01's.
--     Limit                  how far a number can go: to a value, or no value will do
--     limit_text l           the value of the limit l in decimal; none where no value will do
--     limits_line i s ls     string i C c limit .. D d limit .. T t limit .. moving a limit .. late j limit ..; i is its place, from 1
use Rattle.std.specs.Prelude.{ℕ, List, [], ◌∷◌}
use Rattle.std.specs.Prelude.{Option, Some, None}
use Rattle.rules.specs.declared.BatteryString.{BatteryString}
use Rattle.rules.specs.Lines.{bytes_of, decimal, worded}
use Rattle.lines.specs.declared.limits.Limits.{Limits}

abbrev pub Limit : Type 0
Limit = Option ℕ

unfoldable pub limit_text : Limit → List ℕ
limit_text None = bytes_of "none"
limit_text (Some v) = decimal v

unfoldable pub limits_line : ℕ → BatteryString → Limits → List ℕ
limits_line i s ls =
    worded "string # C # limit # D # limit # T # limit # moving # limit # late # limit #\n"
    (decimal i
    ∷ decimal s.c.0 ∷ limit_text ls.c
    ∷ decimal s.d.0 ∷ limit_text ls.d
    ∷ decimal s.t.0 ∷ limit_text ls.t
    ∷ decimal s.a.0 ∷ limit_text ls.a
    ∷ decimal s.j.0 ∷ limit_text ls.j
    ∷ [])
