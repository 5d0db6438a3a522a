-- A table taken row by row (document 02, W-210), by a reader that holds on to the caller's text and its place in it.
--     line_long line         how many bytes a line has, its 0a among them
--     line_given count most lines at     what is read of the first of lines that start at the place `at`, where it has to say so many
--                           numbers of so many digits: its numbers, where it does; and the place at which the next line starts
--     line_read_at count most text at     the same at the place `at` of a text
--     row_given lines at     what is given of the first of lines that start at the place `at`: the string that it says, or that it is no
--                           row, each with the place at which the next line starts; or that the lines have ended
--     row_at text at         what a reader gives that stands at the place `at` of a text
--     asked k text at       what a reader gives that is asked k times from the place `at` on, and moves on each time
--     rows_given lines at    what is given of each of lines that start at the place `at`
--     row_says row           what is given, in numbers: T, C, D, X, the moving cost, J; 13 for a line that is no row; with the next place
use Rattle.std.specs.Prelude.{ℕ, zero, suc, ◌+◌, cond, List, [], ◌∷◌, map, length, drop, Some, None}
use Rattle.base.specs.Digits.{decimal_in}
use Rattle.faults.specs.declared.Fault.TheVariants.{RowMalformed}
use Rattle.faults.specs.Checks.{fault_number}
use Rattle.rules.specs.Text.{Line, lines_of}
use Rattle.register.specs.declared.LineRead.{LineRead}
use Rattle.register.specs.declared.Row.{Row}
use Rattle.register.specs.declared.Row.TheVariants.{End, Malformed, Says}
use Rattle.register.specs.Table.{row_fields, line_formed, row_formed, row_string}

unfoldable pub line_long : Line → ℕ
line_long line = length line.bytes + cond line.ended 1 0

abbrev pub unformed_line : ℕ → LineRead (List ℕ)
unformed_line next = record { numbers = None; next = next }

unfoldable pub line_given : ℕ → ℕ → List Line → ℕ → LineRead (List ℕ)
line_given count most [] at = unformed_line at
line_given count most (line ∷ lines) at =
    let next = at + line_long line in
    cond (line_formed count most line)
    (record { numbers = Some (map decimal_in (row_fields line)); next = next })
    (unformed_line next)

unfoldable pub line_read_at : ℕ → ℕ → List ℕ → ℕ → LineRead (List ℕ)
line_read_at count most text at = line_given count most (lines_of (drop at text)) at

unfoldable pub row_given : List Line → ℕ → Row
row_given [] at = End
row_given (line ∷ lines) at =
    let next = at + line_long line in
    cond (row_formed line) (Says (row_string line) next) (Malformed next)

unfoldable pub row_at : List ℕ → ℕ → Row
row_at text at = row_given (lines_of (drop at text)) at

-- ---- Line after line

-- where the reader goes on
abbrev pub next_of : Row → ℕ → ℕ
next_of End at = at
next_of (Malformed next) at = next
next_of (Says s next) at = next

unfoldable pub asked : ℕ → List ℕ → ℕ → List Row
asked zero text at = []
asked (suc k) text at = row_at text at ∷ asked k text (next_of (row_at text at) at)

unfoldable pub rows_given : List Line → ℕ → List Row
rows_given [] at = []
rows_given (line ∷ lines) at = row_given (line ∷ lines) at ∷ rows_given lines (at + line_long line)

-- ---- In numbers

pub data RowTold : Type 0 where
  ended : RowTold
  no_row : ℕ → ℕ → RowTold
  row : ℕ → ℕ → ℕ → ℕ → ℕ → ℕ → ℕ → RowTold

abbrev pub row_says : Row → RowTold
row_says End = ended
row_says (Malformed next) = no_row (fault_number RowMalformed) next
row_says (Says s next) = row s.t.0 s.c.0 s.d.0 s.x s.a.0 s.j.0 next
