-- The lines of a run: one for each stint, and the desk's own for how it ends. Each ends by one byte 0a.
--     one_day_line t u        day 9 idle; day 0 place 2 work release 1; day 1 place 1 move release 2
--     days_line t e u        days 9 to 19 idle; days 2 to 4 place 1 work release 2; days 1 to 5 place 2 move release 2
--     stint_line s           the line of the stint s: the first form for one day, the second for more, with its first day and its last
--     end_line o             how a run ends that was asked for: the desk's line of a run, or the line of the refusal
use Rattle.std.specs.Prelude.{ℕ, ◌+◌, ◌-◌, cond, List, [], ◌∷◌, ltb}
use Rattle.rules.specs.declared.Outcome.{Outcome}
use Rattle.faults.specs.declared.Refusal.{Refusal}
use Rattle.std.specs.Prelude.{Ok, Err, Result}
use Rattle.rules.specs.declared.Stint.{Stint}
use Rattle.rules.specs.declared.Use.{Use}
use Rattle.rules.specs.declared.Use.TheVariants.{Idle, Work, Move}
use Rattle.rules.specs.Lines.{decimal, worded, refused_line, outcome_line}

unfoldable pub one_day_line : ℕ → Use → List ℕ
one_day_line t Idle = worded "day # idle\n" (decimal t ∷ [])
one_day_line t (Work i k) = worded "day # place # work release #\n" (decimal t ∷ decimal i ∷ decimal k ∷ [])
one_day_line t (Move i k) = worded "day # place # move release #\n" (decimal t ∷ decimal i ∷ decimal k ∷ [])

unfoldable pub days_line : ℕ → ℕ → Use → List ℕ
days_line t e Idle = worded "days # to # idle\n" (decimal t ∷ decimal e ∷ [])
days_line t e (Work i k) = worded "days # to # place # work release #\n" (decimal t ∷ decimal e ∷ decimal i ∷ decimal k ∷ [])
days_line t e (Move i k) = worded "days # to # place # move release #\n" (decimal t ∷ decimal e ∷ decimal i ∷ decimal k ∷ [])

unfoldable pub stint_line : Stint → List ℕ
stint_line s =
    cond (ltb s.length.0 2)
    (one_day_line s.first.0 s.used)
    (days_line s.first.0 (s.first.0 + (s.length.0 - 1)) s.used)

unfoldable pub end_line : Result Outcome Refusal → List ℕ
end_line (Err e) = refused_line e.fault e.at
end_line (Ok o) = outcome_line o
