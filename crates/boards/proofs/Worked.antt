-- Document 02's board, and what planners and crews get wrong: one table, one statement. Each row is a plan file, an input and all that is
-- written for them. `worked` has antt compute every board from the definitions.
use Rattle.base.proofs.Prelude.{ℕ, ◌≡◌, refl, List, [], ◌∷◌, ◌++◌, map}
use Prim.Native.String.{String}
use mathlib.Core.List.{flat_map}
use Rattle.base.specs.{Count.{sum_of, largest, smallest, smallest_with, every, any, keep, count_of, up_from, least_from, first_of}, Digits.{places_of, digits_in, digits_of, number_on}}
use Rattle.calendar.specs.{Years.{leap_year, year_length, months_with, month_lengths, month_length}, Dates.{date_exists, date_after}, Numbers.{days_before_year, days_before_month, day_number, date_of}, Weekdays.weekday_of, Yearly.{on_leap_day, in_no_year, moved_in, in_year, same_date, falls_on}, Texts.{digits, fits_at, fits, date_text, yearly_text, date_in, yearly_in}}
use Rattle.rules.specs.{Plan.{string_lawful, common_multiple, multiple_of}, Demand.moving_cost, Release.{too_close, out_of_order, release_lawful, unlawful_from, first_unlawful}, Run.{chosen, late_at, new_slot, join_from, joined, holder, payer, taken, next_up, given, use_of, spent, morning, state_at, use_on, late_on, history, days_of, miss_day, run_of}, Stints.days_run, Refusal.{count_check, run_length_check, cost_check, strings_check, multiple_check, plan_check, releases_check, run_check}, Lines.{bytes_of, decimal, worded_in}, Layout.{has_field, field_among, field_in, held_to}, Text.{before, lines_of, digit_of, well_formed, hex_bytes, frame_of, field_of, frame_check, n_in, run_in, a_in, cost_of, string_of, due_in, release_of, plan_in, list_in, version_check, header_check, string_line_check, string_lines_check, release_line_check, release_lines_check, body_check, lines_check, text_check, lawful_reading, reading_in, version_of, reading_of}}
use Rattle.rules.proofs.Worked.{char, hex_of, line}
use Rattle.lines.specs.{Dates.weekday_name, Board.{used_line, missed_line, number_line}}
use Rattle.boards.specs.{Input.{start_right, start_check, start_said, test_in, test_right, test_check, diary_check, diary_in, input_check, input_reading}, Board.{date_head, day_line_of, yearly_line_of, miss_line_of, falls_today, tests_on, board_day, board_from, board_end, board_of}, Whole.board_text}

pub record Row : Type 0 where
  pub plan : List ℕ
  pub input : List ℕ
  pub board : List ℕ

unfoldable pub row : List ℕ → String → String → Row
row plan input board = record { plan = plan; input = bytes_of input; board = bytes_of board }

-- the page's plan: N 2, one string (3, 1, 2) with X 0, one release on day 0 with need 1
unfoldable pub small : List ℕ
small = line 18 0x010101000000000002 ++ line 16 0x0200000300010002 ++ line 16 0x0301000000000001

-- (3, 1, 1) (3, 2, 3), nobody permitted; releases (0, 2, 2) (1, 1, 1): a miss on day 2 at place 1
unfoldable pub missed : List ℕ
missed =
    line 18 0x010102000000000014
    ++ line 16 0x0200000300010001
    ++ line 16 0x0200000300020003
    ++ line 16 0x0302000000000002
    ++ line 16 0x0301000000010001

-- (10, 3, 5) may take the bank and pays a day of moving, (10, 5, 10) may not; releases (0, 2, 5) (1, 1, 3), N 3
unfoldable pub moving : List ℕ
moving =
    line 18 0x010102000100000003
    ++ line 16 0x0201000a00030005
    ++ line 16 0x0200000a0005000a
    ++ line 16 0x0302000000000005
    ++ line 16 0x0301000000010003

-- X 2 is outside its bounds
unfoldable pub refused : List ℕ
refused = line 18 0x010101000000000002 ++ line 16 0x0202000300010002

-- twenty lines of a diary, and then `more`
unfoldable pub filled_diary : String → String → Row
filled_diary more board =
    record {
      plan = small;
      input = bytes_of "2000-02-28\n" ++ (flat_map (λ i. bytes_of "03-01 1\n") (up_from 1 20) ++ bytes_of more);
      board = bytes_of board;
    }

unfoldable pub table : List Row
table =
    row small "2000-02-28\n02-29 1\n" "2000-02-28 Mon 1 work\n2000-02-29 Tue idle\n2000-02-29 Tue yearly 02-29\n"
    -- no diary; two tests on one day in diary order; a test by edition 2 in a common year, and by edition 1
    ∷ row small "2000-02-28\n" "2000-02-28 Mon 1 work\n2000-02-29 Tue idle\n"
    ∷ row small "2001-02-28\n03-01 1\n02-29 2\n02-28 1\n02-29 1\n"
    "2001-02-28 Wed 1 work\n2001-02-28 Wed yearly 02-29\n2001-02-28 Wed yearly 02-28\n2001-03-01 Thu idle\n2001-03-01 Thu yearly 03-01\n"
    -- a taker moves; a miss ends the board, and its day has no other line
    ∷ row moving "2000-01-01\n" "2000-01-01 Sat 2 work\n2000-01-02 Sun 1 move\n2000-01-03 Mon 1 work\n"
    ∷ row missed "2000-02-28\n02-29 1\n03-01 1\n"
    "2000-02-28 Mon 2 work\n2000-02-29 Tue 2 work\n2000-02-29 Tue yearly 02-29\n2000-03-01 Wed miss 1\n"
    -- 1 to 8 first
    ∷ row refused "" "5\n"
    -- the start: missing, without its 0a, malformed, not in the calendar; day N of the run
    ∷ row small "" "10\n"
    ∷ row small "2000-02-28" "10\n"
    ∷ row small "2000-2-28\n" "10\n"
    ∷ row small "2000-02-28 \n" "10\n"
    ∷ row small "2001-02-29\n" "10\n"
    ∷ row small "2399-12-30\n" "10\n"
    -- the diary: 11 where only the edition is wrong, and also where the date is; then 10
    ∷ row small "2000-02-28\n02-29 3\n" "11\n"
    ∷ row small "2000-02-28\n02-30 0\n" "11\n"
    ∷ row small "2000-02-28\n02-29 3" "11\n"
    ∷ row small "2000-02-28\n02-30 1\n" "10\n"
    ∷ row small "2000-02-28\n02-29 1" "10\n"
    ∷ row small "2000-02-28\n02-29  1\n" "10\n"
    ∷ row small "2000-02-28\n\n" "10\n"
    -- lines in order: the first fault decides
    ∷ row small "2000-02-30\n02-29 3\n" "10\n"
    ∷ row small "2000-02-28\n02-30 1\n02-29 3\n" "10\n"
    ∷ row small "2000-02-28\n02-29 3\n02-30 1\n" "11\n"
    -- twenty lines, and the twenty-first
    ∷ filled_diary "" "2000-02-28 Mon 1 work\n2000-02-29 Tue idle\n"
    ∷ filled_diary "03-01 1\n" "10\n"
    ∷ filled_diary "03-01\n" "10\n"
    ∷ filled_diary "03-01 7\n" "11\n"
    ∷ []

pub worked : map (λ r. board_text r.plan r.input) table ≡ map (λ r. r.board) table
unfolding
    row filled_diary table small missed moving refused char hex_of line flat_map
    sum_of largest smallest smallest_with every any keep count_of up_from least_from first_of places_of digits_in digits_of number_on
    leap_year year_length months_with month_lengths month_length date_exists date_after days_before_year days_before_month day_number
    date_of weekday_of
    on_leap_day in_no_year moved_in in_year same_date falls_on digits fits_at fits date_text yearly_text date_in yearly_in
    string_lawful common_multiple multiple_of moving_cost
    too_close out_of_order release_lawful unlawful_from first_unlawful
    chosen late_at new_slot join_from joined holder payer taken next_up given use_of spent morning state_at use_on late_on history days_of
    miss_day
    run_of days_run
    count_check run_length_check cost_check strings_check multiple_check plan_check releases_check run_check
    before lines_of digit_of well_formed hex_bytes frame_of has_field field_among field_in held_to field_of
    n_in run_in a_in cost_of string_of due_in release_of plan_in list_in frame_check version_check header_check
    string_line_check string_lines_check release_line_check release_lines_check body_check lines_check text_check lawful_reading
    reading_in version_of
    reading_of bytes_of decimal worded_in
    weekday_name used_line missed_line number_line
    start_right start_check start_said test_in test_right test_check diary_check diary_in input_check input_reading
    date_head day_line_of yearly_line_of miss_line_of falls_today tests_on board_day board_from board_end board_of board_text
worked = refl
