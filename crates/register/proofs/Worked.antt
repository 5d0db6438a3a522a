-- Tables of the asset register and what reading them says, computed from the definitions: one table under one statement. A refusal is
-- told by its number and its line.
use Rattle.base.proofs.Prelude.{ℕ, ◌≡◌, refl, List, [], ◌∷◌, ◌++◌, map}
use Rattle.base.specs.{Count.{every, least_from}, Digits.{number_on, digits_in, digits_of}}
use Rattle.rules.specs.{Plan.{string_lawful, common_multiple, multiple_of}, Refusal.{run_length_check, multiple_check}, Said.{Said, lawful, refused, checked_says}, Lines.{bytes_of, decimal, worded_in, row_line}, Text.{before, lines_of}}
use Rattle.register.specs.Table.{in_front, fields_of, plain_number, row_fields, numbers_formed, line_formed, string_said, row_string, row_check, rows_check, table_plan, row_lines_check, table_check, table_reading}

pub record Row : Type 0 where
  pub run : ℕ
  pub text : List ℕ
  pub said : Said

unfoldable pub row : ℕ → List ℕ → Said → Row
row n text s = record { run = n; text = text; said = s }

unfoldable pub answered : Row → Said
answered r = checked_says (table_reading r.run r.text).checked

unfoldable pub three-rows : List ℕ
three-rows = bytes_of "1,1,1,0,0,0\r\n1,1,1,0,0,0\r\n1,1,1,0,0,0\r\n"

unfoldable pub nine-rows : List ℕ
nine-rows = three-rows ++ three-rows ++ three-rows

unfoldable pub table : List Row
table =
    row 20 (bytes_of "10,3,5,1,1,0\r\n10,5,10,0,1,5\r\n") lawful
    -- a single 0 is a number; four digits are
    ∷ row 20 (bytes_of "1000,1,1,0,0,0\r\n") lawful
    ∷ row 20 (bytes_of "10,3,5,1,1000,0\r\n") lawful
    -- N, then no line
    ∷ row 0 [] (refused 5 0)
    ∷ row 1000001 [] (refused 5 0)
    ∷ row 1000001 (bytes_of "x\r\n") (refused 5 0)
    ∷ row 1 [] (refused 4 0)
    -- no row
    ∷ row 20 (bytes_of "010,3,5,1,1,0\r\n") (refused 13 1)
    ∷ row 20 (bytes_of "10,3,5,00,1,0\r\n") (refused 13 1)
    ∷ row 20 (bytes_of "10,,5,1,1,0\r\n") (refused 13 1)
    ∷ row 20 (bytes_of "10, 3,5,1,1,0\r\n") (refused 13 1)
    ∷ row 20 (bytes_of "+10,3,5,1,1,0\r\n") (refused 13 1)
    ∷ row 20 (bytes_of "\"10\",3,5,1,1,0\r\n") (refused 13 1)
    ∷ row 20 (bytes_of "10000,3,5,1,1,0\r\n") (refused 13 1)
    ∷ row 20 (bytes_of "10;3;5;1;1;0\r\n") (refused 13 1)
    ∷ row 20 (bytes_of "10,3,5,1,1\r\n") (refused 13 1)
    ∷ row 20 (bytes_of "10,3,5,1,1,0,0\r\n") (refused 13 1)
    ∷ row 20 (bytes_of "10,3,5,1,1,0\n") (refused 13 1)
    ∷ row 20 (bytes_of "10,3,5,1,1,0\r") (refused 13 1)
    ∷ row 20 (bytes_of "10,3,5,1,1,0") (refused 13 1)
    ∷ row 20 (bytes_of "10,3,5,1,1,0\r\r\n") (refused 13 1)
    ∷ row 20 (bytes_of "\r\n") (refused 13 1)
    ∷ row 20 (bytes_of "\n") (refused 13 1)
    -- a byte order mark
    ∷ row 20 (0xef ∷ 0xbb ∷ 0xbf ∷ bytes_of "10,3,5,1,1,0\r\n") (refused 13 1)
    -- bounds, line by line; a row is looked at as a row first
    ∷ row 20 (bytes_of "10,6,5,1,1,0\r\n") (refused 5 1)
    ∷ row 20 (bytes_of "10,3,5,2,1,0\r\n") (refused 5 1)
    ∷ row 20 (bytes_of "10,3,5,1,1001,0\r\n") (refused 5 1)
    ∷ row 20 (bytes_of "10,6,5,1,1,0\r\nx\r\n") (refused 5 1)
    ∷ row 20 (bytes_of "10,6,5,1,1\r\n10,6,5,1,1,0\r\n") (refused 13 1)
    ∷ row 20 (bytes_of "10,3,5,1,1,0\r\nx\r\n") (refused 13 2)
    -- J below D, and C to D − J: line by line
    ∷ row 20 (bytes_of "10,3,5,1,1,2\r\n10,3,5,1,1,3\r\n") (refused 5 2)
    ∷ row 20 (bytes_of "10,1,5,1,1,4\r\n10,1,5,1,1,5\r\n") (refused 5 2)
    ∷ row 20 (bytes_of "10,1,5,1,1,04\r\n") (refused 13 1)
    -- ten rows, and an eleventh line, whatever it holds
    ∷ row 20 (nine-rows ++ bytes_of "1,1,1,0,0,0\r\n") lawful
    ∷ row 20 (nine-rows ++ bytes_of "1,1,1,0,0,0\r\nx") (refused 4 11)
    ∷ []

pub worked : map answered table ≡ map (λ r. r.said) table
unfolding
    row answered three-rows nine-rows table every least_from number_on string_lawful common_multiple multiple_of run_length_check
    multiple_check
    bytes_of before lines_of
    in_front fields_of plain_number row_fields numbers_formed line_formed string_said row_string row_check rows_check table_plan
    row_lines_check
    table_check
    table_reading
worked = refl

-- a string as its row
pub row-example :
    row_line (record {
      t = record { 0 = 10 };
      c = record { 0 = 3 };
      d = record { 0 = 5 };
      x = 1;
      a = record { 0 = 0 };
      j = record { 0 = 2 };
    })
    ≡ bytes_of "10,3,5,1,0,2\r\n"
unfolding row_line decimal digits_of digits_in worded_in bytes_of
row-example = refl
