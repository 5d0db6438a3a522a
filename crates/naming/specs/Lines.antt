-- The lines of a text by number.
--     line_no lines k        line k, counted from 1; an empty line without its 0a where there is none
use Rattle.std.specs.Prelude.{ℕ, ◌-◌, false, List, [], get_or}
use Rattle.rules.specs.Text.{Line}

abbrev pub no_line : Line
no_line = record { bytes = []; ended = false }

abbrev pub line_no : List Line → ℕ → Line
line_no lines k = get_or lines (k - 1) no_line
