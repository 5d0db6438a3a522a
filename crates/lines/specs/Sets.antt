-- The line of a permission set, as bytes (document 01, "The search": place 1 is worth 1, place 2 is worth 2, place 3 is worth 4). It ends
-- by one byte 0a.
--     in_set m i             place i, from 1, is in the set m
--     takers_of m            the places in the set m, of the ten that a plan may have
--     takers_words ps        who may take the bank: nobody | string i | strings i k ..
--     judged_words v         overload | fail interval l blocking b demand d | pass, behind a colon
--     note_words e           what stands behind the verdict: nothing | , fewest takers | , misses | , never misses
--     set_line m v e         the line of the set m, with the verdict v on the plan with it
use Rattle.std.specs.Prelude.{ℕ, ◌-◌, ◌/◌, ◌%◌, ◌^◌, Bool, List, [], ◌∷◌, ◌++◌, eqb}
use Rattle.base.specs.Count.{up_from, keep}
use Rattle.rules.specs.declared.Verdict.{Verdict}
use Rattle.rules.specs.declared.Verdict.TheVariants.{Overload, Fail, Pass}
use Rattle.rules.specs.Lines.{bytes_of, decimal, worded}
use Rattle.lines.specs.declared.sets.SetNote.{SetNote}
use Rattle.lines.specs.declared.sets.SetNote.TheVariants.{Nothing, FewestTakers, Misses, NeverMisses}
use Rattle.lines.specs.Same.{places_text}

unfoldable pub in_set : ℕ → ℕ → Bool
in_set m i = eqb (m / 2 ^ (i - 1) % 2) 1

unfoldable pub takers_of : ℕ → List ℕ
takers_of m = keep (in_set m) (up_from 1 10)

unfoldable pub takers_words : List ℕ → List ℕ
takers_words [] = bytes_of " nobody"
takers_words (i ∷ []) = bytes_of " string" ++ places_text (i ∷ [])
takers_words (i ∷ k ∷ ps) = bytes_of " strings" ++ places_text (i ∷ k ∷ ps)

unfoldable pub judged_words : Verdict → List ℕ
judged_words Overload = bytes_of ": overload"
judged_words (Fail l b d k) = worded ": fail interval # blocking # demand #" (decimal l.0 ∷ decimal b.0 ∷ decimal d.0 ∷ [])
judged_words (Pass k) = bytes_of ": pass"

unfoldable pub note_words : SetNote → List ℕ
note_words Nothing = bytes_of "\n"
note_words FewestTakers = bytes_of ", fewest takers\n"
note_words Misses = bytes_of ", misses\n"
note_words NeverMisses = bytes_of ", never misses\n"

unfoldable pub set_line : ℕ → Verdict → SetNote → List ℕ
set_line m v e = worded "set #" (decimal m ∷ []) ++ takers_words (takers_of m) ++ judged_words v ++ note_words e
