-- The asset register's table (document 02, W-210 and W-213): a line for each string, T,C,D,X,moving cost,J in decimal, ended by CR LF. A
-- line is what stands up to its 0a (rules/specs/Text.antt), so the CR is the last of its bytes.
--     fields_of bytes        what stands between commas
--     plain_number most field     one to `most` decimal digits without leading zeros; a single 0 is a number
--     row_fields line        the fields of a line, without its CR
--     line_formed count most line     so many such numbers, CR and LF
--     row_formed line        a row: six numbers of at most four digits
--     row_string line        the string that they say
--     rows_check k lines     of lines from number k on: 4 for the eleventh, whatever it holds; else 13, then 5, line by line
--     table_plan run lines   the plan of rows, with an N given beside them
--     table_check run text   1; 5 with 0 for N; 4 with 0 for an empty text; then the lines in order; then 6 with the last line's number
--     table_reading run text what reading a table gives: no releases; on a refusal an empty plan
use Rattle.std.specs.Prelude.{ℕ, suc, ◌-◌, Bool, not, cond, ◌&&◌, ◌||◌, List, [], ◌∷◌, map, ltb, eqb, length, get_or, take}
use Rattle.faults.specs.Checks.{Lawful, Checked}
use Rattle.days.specs.Days.{days}
use Rattle.base.specs.Count.{every, filled}
use Rattle.base.specs.Digits.{decimal_in}
use Rattle.faults.specs.declared.Fault.TheVariants.{TextTooLong, StringCount, RowMalformed}
use Rattle.faults.specs.Checks.{in_bounds, then, refuse_if, or_refused}
use Rattle.rules.specs.declared.BatteryString.{BatteryString}
use Rattle.rules.specs.declared.Plan.{Plan}
use Rattle.rules.specs.Text.{Reading}
use Rattle.rules.specs.Plan.{no_string}
use Rattle.rules.specs.Refusal.{run_length_check, string_check, multiple_check}
use Rattle.rules.specs.Text.{Line, lines_of, no_releases, refused_reading}

-- ---- Fields

abbrev pub comma : ℕ
comma = 0x2c

-- a byte put in front of the first field
unfoldable pub in_front : ℕ → List (List ℕ) → List (List ℕ)
in_front b [] = (b ∷ []) ∷ []
in_front b (field ∷ fields) = (b ∷ field) ∷ fields

unfoldable pub fields_of : List ℕ → List (List ℕ)
fields_of [] = [] ∷ []
fields_of (b ∷ bs) = cond (eqb b comma) ([] ∷ fields_of bs) (in_front b (fields_of bs))

abbrev pub is_figure : ℕ → Bool
is_figure b = in_bounds 0x30 b 0x39

unfoldable pub plain_number : ℕ → List ℕ → Bool
plain_number most field =
    in_bounds 1 (length field) most
    && (eqb (length field) 1 || not (eqb (get_or field 0 0) 0x30))
    && every is_figure field

-- ---- Rows

unfoldable pub row_fields : Line → List (List ℕ)
row_fields line = fields_of (take (length line.bytes - 1) line.bytes)

unfoldable pub numbers_formed : ℕ → ℕ → List (List ℕ) → Bool
numbers_formed count most fields = eqb (length fields) count && every (plain_number most) fields

unfoldable pub line_formed : ℕ → ℕ → Line → Bool
line_formed count most line =
    line.ended
    && eqb (get_or line.bytes (length line.bytes - 1) 0) 0x0d
    && numbers_formed count most (row_fields line)

abbrev pub row_formed : Line → Bool
row_formed line = line_formed 6 4 line

-- T, C, D, X, moving cost, J
unfoldable pub string_said : List ℕ → BatteryString
string_said ns =
    record {
      t = days (get_or ns 0 0);
      c = days (get_or ns 1 0);
      d = days (get_or ns 2 0);
      x = get_or ns 3 0;
      a = days (get_or ns 4 0);
      j = days (get_or ns 5 0);
    }

unfoldable pub row_string : Line → BatteryString
row_string line = string_said (map decimal_in (row_fields line))

-- ---- The order of faults

unfoldable pub row_check : ℕ → Line → Checked
row_check k line =
    then (refuse_if (ltb 10 k) StringCount k) (then (refuse_if (not (row_formed line)) RowMalformed k) (string_check k (row_string line)))

unfoldable pub rows_check : ℕ → List Line → Checked
rows_check k [] = Lawful
rows_check k (line ∷ lines) =
    let later = rows_check (suc k) lines in
    then (row_check k line) later

unfoldable pub table_plan : ℕ → List Line → Plan
table_plan run lines =
    record { n = length lines; run = days run; strings = filled 10 no_string (map row_string lines) }

unfoldable pub row_lines_check : ℕ → List Line → Checked
row_lines_check run lines =
    let multiple = multiple_check (length lines) (table_plan run lines) in
    then (refuse_if (eqb (length lines) 0) StringCount 0) (then (rows_check 1 lines) multiple)

unfoldable pub table_check : ℕ → List ℕ → Checked
table_check run text =
    let lines = row_lines_check run (lines_of text) in
    then (refuse_if (ltb 65536 (length text)) TextTooLong 0) (then (run_length_check 0 run) lines)

-- ---- Reading

unfoldable pub table_reading : ℕ → List ℕ → Reading
table_reading run text =
    or_refused refused_reading (table_check run text)
    (record { checked = Lawful; plan = table_plan run (lines_of text); releases = no_releases })
