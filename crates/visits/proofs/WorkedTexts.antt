-- Plan files, visit texts and what the check says of them, computed from the definitions: one table under one statement. A refusal is told
-- by its number and by the line, the record or the release. The plan is the sample file's: its first release is on day 0, due on day 10,
-- and needs 5 days; the second is on day 1, due on day 6, and needs 3; a visit after the first costs one moving day.
use Rattle.base.proofs.Prelude.{ℕ, ◌≡◌, refl, List, [], ◌∷◌, ◌++◌, map, replicate}
use mathlib.Core.List.{flat_map}
use Prim.Native.String.{String}
use Rattle.base.specs.{Count.{sum_of, every, any, keep, least_from}, Digits.number_on}
use Rattle.rules.specs.{Plan.{string_lawful, common_multiple, multiple_of}, Demand.moving_cost, Release.{too_close, out_of_order, release_lawful, unlawful_from, first_unlawful}, Refusal.{count_check, run_length_check, cost_check, strings_check, multiple_check, plan_check, releases_check, run_check}, Said.{Said, lawful, refused, checked_says}, Lines.bytes_of, Layout.{has_field, field_among, field_in, held_to}, Text.{before, lines_of, digit_of, well_formed, hex_bytes, frame_of, field_of, n_in, run_in, a_in, cost_of, string_of, due_in, release_of, plan_in, list_in, frame_check, version_check, header_check, string_line_check, string_lines_check, release_line_check, release_lines_check, body_check, lines_check, text_check, lawful_reading, reading_in, version_of, reading_of}}
use Rattle.rules.proofs.Worked.{char, hex_of, line, sample}
use Rattle.register.specs.Table.{in_front, fields_of, plain_number, row_fields, numbers_formed, line_formed}
use Rattle.visits.specs.{Visits.{visit_lawful, breaking_from, first_breaking, first_short, visit_list_check}, Texts.{visit_said, visit_in, visit_lines_check, visit_text_check, visit_files_check}}

pub record TextRow : Type 0 where
  pub plan : List ℕ
  pub text : List ℕ
  pub said : Said

unfoldable pub text_said : TextRow → Said
text_said r = checked_says (visit_files_check r.plan r.text)

unfoldable pub listed_as : String → Said → TextRow
listed_as text s = record { plan = sample; text = bytes_of text; said = s }

unfoldable pub table : List TextRow
table =
    listed_as "1,0,1\r\n2,1,3\r\n1,4,5\r\n" lawful
    -- seven digits are a number, and a single 0 is
    ∷ listed_as "1,0,1\r\n2,1,3\r\n1,9999999,5\r\n" (refused 14 3)
    ∷ listed_as "1,0,0\r\n" (refused 14 1)
    ∷ listed_as "1,0,1\r\n2,1,3\r\n1,10000000,5\r\n" (refused 13 3)
    -- no visit
    ∷ listed_as "1,0,01\r\n" (refused 13 1)
    ∷ listed_as "1,00,1\r\n" (refused 13 1)
    ∷ listed_as "1,,1\r\n" (refused 13 1)
    ∷ listed_as "1, 0,1\r\n" (refused 13 1)
    ∷ listed_as "-1,0,1\r\n" (refused 13 1)
    ∷ listed_as "1;0;1\r\n" (refused 13 1)
    ∷ listed_as "1,0\r\n" (refused 13 1)
    ∷ listed_as "1,0,1,0\r\n" (refused 13 1)
    ∷ listed_as "1,0,1\n" (refused 13 1)
    ∷ listed_as "1,0,1\r" (refused 13 1)
    ∷ listed_as "1,0,1\r\n2,1,3" (refused 13 2)
    ∷ listed_as "1,0,1\r\n\r\n" (refused 13 2)
    -- 13 before 14, 14 before 15, and an empty list says nothing
    ∷ listed_as "0,0,1\r\n2,1\r\n" (refused 13 2)
    ∷ listed_as "1,0,1\r\n2,3,4\r\n" (refused 14 2)
    ∷ listed_as "1,0,1\r\n2,1,4\r\n1,5,4\r\n" (refused 15 1)
    ∷ listed_as "" (refused 15 1)
    -- a text of 65,537 bytes; the plan before it
    ∷ record { plan = sample; text = replicate 65537 0x30; said = refused 1 0 }
    ∷ record { plan = []; text = replicate 65537 0x30; said = refused 3 1 }
    ∷ record { plan = 0x30 ∷ sample; text = bytes_of "x"; said = refused 2 1 }
    ∷ record { plan = sample ++ line 16 0x0301000000010003; text = bytes_of "x"; said = refused 8 6 }
    ∷ []

pub worked : map text_said table ≡ map (λ r. r.said) table
unfolding
    text_said listed_as table visit_lawful breaking_from first_breaking first_short visit_list_check visit_said visit_in visit_lines_check
    visit_text_check visit_files_check
    in_front fields_of plain_number row_fields numbers_formed line_formed
    sum_of every any keep least_from moving_cost string_lawful common_multiple multiple_of too_close out_of_order release_lawful
    unlawful_from
    first_unlawful count_check run_length_check cost_check strings_check multiple_check plan_check releases_check run_check
    before lines_of digit_of well_formed hex_bytes frame_of number_on has_field field_among field_in held_to field_of
    n_in run_in a_in cost_of string_of due_in release_of plan_in list_in frame_check version_check header_check
    string_line_check string_lines_check release_line_check release_lines_check body_check lines_check text_check lawful_reading
    reading_in version_of
    reading_of
    bytes_of char hex_of line sample flat_map
worked = refl
