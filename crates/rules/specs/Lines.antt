-- The lines that are written (document 01, "Frames of the plan file"), as bytes. Each ends by one byte 0a.
--     bytes_of "text"        the bytes of a text in ASCII
--     decimal n             the decimal digits of n, without leading zeros
--     worded "text" parts   the text with each mark # replaced by the next of the parts; once they are used up, as it stands
--     verdict_line v         verdict overload | verdict fail interval l blocking b demand d pairs k | verdict pass pairs k
--     assign_line a          assign m | assign none
--     outcome_line o         run miss day t place i | run clean work w move m idle i
--     refused_line f at      refused number line at
--     asked_line v           the one line where a verdict is asked for: the refusal, or the verdict
--     lines_for a            all that is written for an answer
--     row_line s             T,C,D,X,moving cost,J of a string, ended by CR LF (document 02, W-210 and W-213)
use Rattle.std.specs.Prelude.{ℕ, cond, List, [], ◌∷◌, ◌++◌, map, eqb}
use Rattle.faults.specs.declared.Refusal.{Refusal}
use Rattle.std.specs.Prelude.{Ok, Err, Result, Some, None}
use Rattle.rules.specs.declared.Answers.{Answers}
use Rattle.rules.specs.Found.{Assign}
use Prim.Native.Char.{code}
use Prim.Native.String.{String}
use Prim.Native.String as text
use Rattle.base.specs.Digits.{digits_of, figure}
use Rattle.faults.specs.declared.Fault.{Fault}
use Rattle.rules.specs.declared.BatteryString.{BatteryString}
use Rattle.rules.specs.declared.Verdict.{Verdict}
use Rattle.rules.specs.declared.Verdict.TheVariants as verdict
use Rattle.rules.specs.declared.Outcome.{Outcome}
use Rattle.rules.specs.declared.Outcome.TheVariants as outcome
use Rattle.faults.specs.Checks.{fault_number}

unfoldable pub bytes_of : String → List ℕ
bytes_of text.[] = []
bytes_of (text.◌∷◌ c s) = code c ∷ bytes_of s

unfoldable pub decimal : ℕ → List ℕ
decimal n = map figure (digits_of 10 n)

-- the mark's byte
abbrev pub mark : ℕ
mark = 0x23

unfoldable pub worded_in : List ℕ → List (List ℕ) → List ℕ
worded_in [] parts = []
worded_in (b ∷ bs) [] = b ∷ bs
worded_in (b ∷ bs) (part ∷ parts) = cond (eqb b mark) part (b ∷ []) ++ worded_in bs (cond (eqb b mark) parts (part ∷ parts))

abbrev pub worded : String → List (List ℕ) → List ℕ
worded template parts = worded_in (bytes_of template) parts

-- ---- The lines of an answer

unfoldable pub refused_line : Fault → ℕ → List ℕ
refused_line f at = worded "refused # line #\n" (decimal (fault_number f) ∷ decimal at ∷ [])

unfoldable pub verdict_line : Verdict → List ℕ
verdict_line verdict.Overload = worded "verdict overload\n" []
verdict_line (verdict.Fail l b d k) =
    worded "verdict fail interval # blocking # demand # pairs #\n" (decimal l.0 ∷ decimal b.0 ∷ decimal d.0 ∷ decimal k ∷ [])
verdict_line (verdict.Pass k) = worded "verdict pass pairs #\n" (decimal k ∷ [])

unfoldable pub asked_line : Result Verdict Refusal → List ℕ
asked_line (Err e) = refused_line e.fault e.at
asked_line (Ok v) = verdict_line v

unfoldable pub assign_line : Assign → List ℕ
assign_line (Some m) = worded "assign #\n" (decimal m ∷ [])
assign_line None = worded "assign none\n" []

unfoldable pub outcome_line : Outcome → List ℕ
outcome_line (outcome.Miss t i) = worded "run miss day # place #\n" (decimal t.0 ∷ decimal i ∷ [])
outcome_line (outcome.Clean w m i) = worded "run clean work # move # idle #\n" (decimal w.0 ∷ decimal m.0 ∷ decimal i.0 ∷ [])

unfoldable pub lines_for : Result Answers Refusal → List ℕ
lines_for (Err e) = refused_line e.fault e.at
lines_for (Ok a) = verdict_line a.verdict ++ assign_line a.assign ++ outcome_line a.outcome

-- ---- A string in the asset register's table

unfoldable pub row_line : BatteryString → List ℕ
row_line s =
    worded "#,#,#,#,#,#\r\n"
    (decimal s.t.0 ∷ decimal s.c.0 ∷ decimal s.d.0 ∷ decimal s.x ∷ decimal s.a.0 ∷ decimal s.j.0 ∷ [])
