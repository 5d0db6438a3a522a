-- A line by its bytes.
--     head_bytes text             the bytes of the first line of a text
--     number_at bytes k size      the number that size bytes of a line's frame write, after k others
--     same_at lines n i j         line j is a release line, in a plan of n strings, and its second byte is i
--     last_in lines n k i         the last such line ahead of line k; 0 where there is none
use Rattle.std.specs.Prelude.{ℕ, ◌+◌, ◌-◌, Bool, ◌&&◌, leb, eqb, List, take, drop}
use Rattle.base.specs.Divisors.{greatest_to}
use Rattle.rules.specs.Layout.{number_of}
use Rattle.rules.specs.Text.{Line, lines_of, hex_bytes}
use Rattle.naming.specs.Lines.{line_no}

unfoldable pub head_bytes : List ℕ → List ℕ
head_bytes text = (line_no (lines_of text) 1).bytes

unfoldable pub number_at : List ℕ → ℕ → ℕ → ℕ
number_at bytes k size = number_of (take size (drop k (hex_bytes bytes)))

unfoldable pub same_at : List Line → ℕ → ℕ → ℕ → Bool
same_at lines n i j = leb (n + 2) j && eqb (number_at (line_no lines j).bytes 1 1) i

unfoldable pub last_in : List Line → ℕ → ℕ → ℕ → ℕ
last_in lines n k i = greatest_to (same_at lines n i) (k - 1)
