-- The lines of a run as bars, as bytes. Each ends by one byte 0a.
--     trimmed cs            the bytes cs without the spaces at their end
--     row_head i             string i, and spaces up to the tenth column
--     days_row cs             day, spaces up to the tenth column, and then the marks cs of the days
--     bar_row i cs           the row of the string at place i with the bars cs
--     marks_line             # work  m moving  . waiting  ! due, not done
--     idle_line t e          ~ days t to e idle: which days share a column
--     cut_line t e           cut after day t: the run goes on to day e
use Rattle.std.specs.Prelude.{ℕ, cond, List, [], ◌∷◌, ◌++◌, ltb, eqb}
use Rattle.rules.specs.Lines.{bytes_of, decimal, worded}

-- ahead of what is kept, a space is kept too
unfoldable pub ahead_of_kept : ℕ → List ℕ → List ℕ
ahead_of_kept c [] = cond (eqb c 0x20) [] (c ∷ [])
ahead_of_kept c (k ∷ ks) = c ∷ k ∷ ks

unfoldable pub trimmed : List ℕ → List ℕ
trimmed [] = []
trimmed (c ∷ cs) = ahead_of_kept c (trimmed cs)

unfoldable pub row_head : ℕ → List ℕ
row_head i = cond (ltb i 10) (worded "string #  " (decimal i ∷ [])) (worded "string # " (decimal i ∷ []))

unfoldable pub days_row : List ℕ → List ℕ
days_row cs = bytes_of "day       " ++ trimmed cs ++ bytes_of "\n"

unfoldable pub bar_row : ℕ → List ℕ → List ℕ
bar_row i cs = row_head i ++ trimmed cs ++ bytes_of "\n"

unfoldable pub marks_line : List ℕ
marks_line = bytes_of "# work  m moving  . waiting  ! due, not done\n"

unfoldable pub idle_line : ℕ → ℕ → List ℕ
idle_line t e = worded "~ days # to # idle\n" (decimal t ∷ decimal e ∷ [])

unfoldable pub cut_line : ℕ → ℕ → List ℕ
cut_line t e = worded "cut after day #: the run goes on to day #\n" (decimal t ∷ decimal e ∷ [])
