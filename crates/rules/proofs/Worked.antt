-- Document 01's worked plans, P1 to P10, its sample file, and two runs on which planners go wrong, with the blocking limit of document 02's
-- W-205; its string on the roof, and its plan file with a moving cost for each string (W-207); strings that open late (W-213): one table,
-- one statement. Each row is a question and the answer that the page gives. `worked` has antt compute every answer from the definitions.
use Rattle.base.proofs.Prelude.{ℕ, zero, suc, ◌+◌, ◌/◌, ◌%◌, ◌≡◌, refl, cond, List, [], ◌∷◌, ◌++◌, map, ltb, length}
use mathlib.Core.List.{flat_map}
use lib.Count.{ones, ones_in}
use Rattle.days.specs.Days.{day, days}
use Rattle.rules.specs.{declared.BatteryString.BatteryString, declared.Plan.Plan, declared.Release.Release, declared.Releases.Releases, Plan.{no_string, string_lawful, common_multiple, multiple_of, leeway_min, d_max}, Demand.{moving_cost, hold_of, jobs, blocker_hold, block_limit, need, demand, load, overloaded}, Verdict.{pairs_at, all_pairs, broken, compared, judged, verdict_over, is_pass}, Search.{permit, with_set, set_passes, sets_of, ordered, search_of}, Release.{no_release, too_close, out_of_order, release_lawful, unlawful_from, first_unlawful}, Run.{chosen, late_at, new_slot, join_from, joined, holder, payer, taken, next_up, given, use_of, spent, morning, state_at, use_on, late_on, history, days_of, miss_day, run_of}, Refusal.{count_check, run_length_check, cost_check, strings_check, multiple_check, plan_check, set_check, releases_check, run_check, set_answer, search_answer, run_answer}, Said.{Said, lawful, refused, overload, fail, pass, takers, miss, clean, checked_says, asked_verdict_says, asked_assign_says, asked_outcome_says}, Stints.{same_use, day_ahead, stints_from, days_run, run_stints, stints_numbers}, Answer.answer_of, Lines.{bytes_of, decimal, worded_in, refused_line, verdict_line, assign_line, outcome_line, lines_for}, Layout.{has_field, field_among, field_in, held_to}, Text.{before, lines_of, digit_of, well_formed, hex_bytes, frame_of, field_of, frame_check, n_in, run_in, a_in, cost_of, string_of, due_in, release_of, plan_in, list_in, version_check, header_check, string_line_check, string_lines_check, release_line_check, release_lines_check, body_check, lines_check, text_check, lawful_reading, reading_in, version_of, reading_of}}
use Rattle.base.specs.{Count.{sum_of, largest, smallest, smallest_with, every, any, keep, count_of, up_from, least_from, first_of, filled}, Digits.{digits_in, digits_of, number_on}}
use Rattle.rules.specs.Answer as answers

-- ---- Writing plans and texts down

-- a string as the page writes it, (T, C, D)
unfoldable pub string : ℕ → ℕ → ℕ → BatteryString
string t c d = record { t = days t; c = days c; d = days d; x = 0; a = days 0; j = days 0 }

-- a string with the moving cost a
unfoldable pub paying : ℕ → BatteryString → BatteryString
paying a s = record { t = s.t; c = s.c; d = s.d; x = s.x; a = days a; j = s.j }

-- a string with j late days
unfoldable pub opening : ℕ → BatteryString → BatteryString
opening j s = record { t = s.t; c = s.c; d = s.d; x = s.x; a = s.a; j = days j }

-- strings, each with its moving cost, and N
unfoldable pub plan_of : List BatteryString → ℕ → Plan
plan_of ss n = record { n = length ss; run = days n; strings = filled 10 no_string ss }

-- strings, one A for all of them, N
unfoldable pub plan : List BatteryString → ℕ → ℕ → Plan
plan ss a n = plan_of (map (paying a) ss) n

-- a release that was due on day u
unfoldable pub release_due : ℕ → ℕ → ℕ → ℕ → Release
release_due u t i w = record { day = day t; place = i; need = days w; due = day u }

-- a release as the page writes it, (day, place, need), on its due day
unfoldable pub release : ℕ → ℕ → ℕ → Release
release t i w = record { day = day t; place = i; need = days w; due = day t }

unfoldable pub releases : List Release → Releases
releases rs = record { count = length rs; list = filled 1000 no_release rs }

-- the character of a hexadecimal digit
unfoldable pub char : ℕ → ℕ
char v = cond (ltb v 10) (0x30 + v) (0x57 + v)

-- the last k digits of v, and what follows
unfoldable pub hex_of : ℕ → ℕ → List ℕ → List ℕ
hex_of zero v after = after
hex_of (suc k) v after = hex_of k (v / 16) (char (v % 16) ∷ after)

-- a line of k digits, with its 0a
unfoldable pub line : ℕ → ℕ → List ℕ
line k v = hex_of k v (0x0a ∷ [])

-- ---- The plans of the page

-- source, Example 1
unfoldable pub two : Plan
two = plan (string 10 3 5 ∷ string 10 5 10 ∷ []) 1 20

-- source, Example 2
unfoldable pub three : Plan
three = plan (string 7 1 2 ∷ string 6 1 4 ∷ string 7 2 6 ∷ []) 1 20

-- source, Example 3
unfoldable pub eight : Plan
eight = plan (string 10 1 3 ∷ string 3 1 3 ∷ string 5 2 5 ∷ []) 1 20

unfoldable pub five : Plan
five = plan (string 100 3 6 ∷ string 100 1 12 ∷ string 100 2 50 ∷ []) 5 20

unfoldable pub nine : Plan
nine = plan (string 2 2 2 ∷ []) 1 20

unfoldable pub ten : Plan
ten = plan (string 1 1 1 ∷ []) 0 20

-- two strings of which the second may take the bank, with deadlines that can fall on one day
unfoldable pub level : Plan
level = plan (string 10 5 10 ∷ string 10 3 9 ∷ []) 1 20

-- the string on the roof, at place 2, takes four days to reach, the others one
unfoldable pub roof : Plan
roof = plan_of (paying 1 (string 15 3 6) ∷ paying 4 (string 15 2 10) ∷ paying 1 (string 15 4 15) ∷ []) 20

-- P1's strings, the first of which opens up to two days late
unfoldable pub tardy : Plan
tardy = plan (opening 2 (string 10 3 5) ∷ string 10 5 10 ∷ []) 1 20

-- one of them up to one day late
unfoldable pub tardy-by-one : Plan
tardy-by-one = plan (opening 1 (string 10 3 5) ∷ string 10 5 10 ∷ []) 1 20

-- a string that counts a job and blocks at once
unfoldable pub self-blocking : Plan
self-blocking = plan (string 5 1 4 ∷ opening 2 (string 4 2 4) ∷ []) 0 20

-- two strings with deadlines on one day: the first is due before the second and comes after it
unfoldable pub overtaken : Plan
overtaken = plan (opening 2 (string 20 3 10) ∷ string 20 3 9 ∷ string 20 6 12 ∷ []) 0 20

unfoldable pub sample : List ℕ
sample =
    line 18 0x010102000100000014
    ++ line 16 0x0201000a00030005
    ++ line 16 0x0200000a0005000a
    ++ line 16 0x0302000000000005
    ++ line 16 0x0301000000010003

-- the same plan and releases in version 02
unfoldable pub sample02 : List ℕ
sample02 =
    line 14 0x01020200000014
    ++ line 20 0x0201000a000300050001
    ++ line 20 0x0200000a0005000a0001
    ++ line 16 0x0302000000000005
    ++ line 16 0x0301000000010003

-- and in version 03
unfoldable pub sample03 : List ℕ
sample03 =
    line 14 0x01030200000014
    ++ line 24 0x0201000a0003000500010000
    ++ line 24 0x0200000a0005000a00010000
    ++ line 24 0x030200000000000500000000
    ++ line 24 0x030100000001000300000001

-- ---- The table

pub data Question : Type 0 where
  verdict-with : Plan → ℕ → Question
  search : Plan → Question
  run-with : Plan → ℕ → List Release → Question
  stints-with : Plan → ℕ → List Release → Question
  load-with : Plan → ℕ → Question
  read-text : List ℕ → Question
  file : List ℕ → Question

pub data Answer : Type 0 where
  says : Said → Answer
  load-and-H : ℕ → ℕ → Answer
  numbered : List ℕ → Answer
  written : List ℕ → Answer

pub record Row : Type 0 where
  pub asked : Question
  pub said : Answer

unfoldable pub answered : Question → Answer
answered (verdict-with p m) = says (asked_verdict_says (set_answer p m))
answered (search p) = says (asked_assign_says (search_answer p))
answered (run-with p m rs) = says (asked_outcome_says (run_answer (with_set p m) (releases rs)))
answered (stints-with p m rs) = numbered (stints_numbers (run_stints (with_set p m) rs))
answered (load-with p m) = load-and-H (load (with_set p m)) (multiple_of (with_set p m))
answered (read-text text) = says (checked_says (reading_of text).checked)
answered (file text) = written (lines_for (answer_of text))

unfoldable pub row : Question → Answer → Row
row q a = record { asked = q; said = a }

unfoldable pub table : List Row
table =
    row (verdict-with two 1) (says (pass 39))  -- P1
    ∷ row (verdict-with two 3) (says (pass 44))  -- P2
    ∷ row (load-with two 3) (load-and-H 10 10)  -- P2: the load is exactly H
    ∷ row (verdict-with two 0) (says (fail 5 3 6 8))  -- P3
    ∷ row (search three) (says (takers 0))  -- P4
    ∷ row (verdict-with five 2) (says (fail 6 4 7 10))  -- P5: passes by the source's equation 7
    ∷ row (run-with five 2 (release 0 3 2 ∷ release 1 2 1 ∷ release 2 1 3 ∷ [])) (says (miss 8 1))  -- P6
    -- P6 in stints: place 3 works, place 2 moves five days and works one, place 1 has one day and misses
    ∷ row (stints-with five 2 (release 0 3 2 ∷ release 1 2 1 ∷ release 2 1 3 ∷ []))
    (numbered (0 ∷ 1 ∷ 1 ∷ 3 ∷ 1 ∷ 1 ∷ 5 ∷ 2 ∷ 2 ∷ 2 ∷ 6 ∷ 1 ∷ 1 ∷ 2 ∷ 2 ∷ 7 ∷ 1 ∷ 1 ∷ 1 ∷ 3 ∷ []))
    ∷ row (search (with_set five 2)) (says (takers 0))  -- P7: P5 as it stands, with set 2
    ∷ row (search eight) (says (takers 0))  -- P8
    ∷ row (verdict-with nine 1) (says (overload 0))  -- P9
    ∷ row (verdict-with nine 0) (says (pass 3))  -- P9
    ∷ row (verdict-with ten 0) (says (pass 1))  -- P10
    ∷ row (read-text sample) (says lawful)
    ∷ row (file sample) (written (bytes_of "verdict pass pairs 39\nassign 1\nrun clean work 8 move 1 idle 11\n"))
    -- the sample's run in stints: the last is idle, and the stopped job has two
    ∷ row (stints-with two 1 (release 0 2 5 ∷ release 1 1 3 ∷ []))
    (numbered
    (0 ∷ 1 ∷ 1 ∷ 2 ∷ 1 ∷ 1 ∷ 1 ∷ 2 ∷ 1 ∷ 2 ∷ 2 ∷ 3 ∷ 1 ∷ 1 ∷ 2 ∷ 5 ∷ 4 ∷ 1 ∷ 2 ∷ 1 ∷ 9 ∷ 11 ∷ 0 ∷ 0 ∷ 0 ∷ []))
    -- its second string with T 1001
    ∷ row (file (line 18 0x010102000100000014 ++ line 16 0x0201000a00030005 ++ line 16 0x020003e90005000a))
    (written (bytes_of "refused 5 line 3\n"))
    ∷ row (file []) (written (bytes_of "refused 3 line 1\n"))
    -- equal deadlines never take the bank
    ∷ row (run-with level 2 (release 0 1 5 ∷ release 1 2 3 ∷ [])) (says (clean 8 0 12))
    -- all releases of a day join before the bank is given: the later one in the list is due first
    ∷ row (run-with two 0 (release 0 2 5 ∷ release 0 1 3 ∷ [])) (says (clean 8 0 12))
    -- P1's strings: with nobody permitted the plan is P3, which fails
    ∷ row (search two) (says (takers 1))
    -- W-207: with the first string's cost for all it is 56 pairs, with the roof's an overload
    ∷ row (verdict-with roof 3) (says (pass 64))
    ∷ row (search roof) (says (takers 0))
    -- a payer pays its own: the roof's four days, not the one of the job that it stops; and the other way round
    ∷ row (run-with roof 3 (release 0 3 4 ∷ release 1 2 2 ∷ [])) (says (clean 6 4 10))
    ∷ row (run-with roof 3 (release 0 2 2 ∷ release 1 1 3 ∷ [])) (says (clean 5 1 14))
    ∷ row (file sample02) (written (bytes_of "verdict pass pairs 39\nassign 1\nrun clean work 8 move 1 idle 11\n"))
    -- moving costs 1,000 and 1,001
    ∷ row (read-text (line 14 0x01020100000014 ++ line 20 0x0201000a0003000503e8)) (says lawful)
    ∷ row (read-text (line 14 0x01020100000014 ++ line 20 0x0201000a0003000503e9)) (says (refused 5 2))
    ∷ row (read-text (line 18 0x01010103e800000014 ++ line 16 0x0201000a00030005)) (says lawful)
    ∷ row (read-text (line 18 0x01010103e900000014 ++ line 16 0x0201000a00030005)) (says (refused 5 1))
    ∷ row (verdict-with (plan_of (paying 1000 (string 10 3 5) ∷ paying 1001 (string 10 3 5) ∷ []) 20) 0) (says (refused 5 2))
    -- a string line of the other version
    ∷ row (read-text (line 18 0x010101000100000014 ++ line 20 0x0201000a000300050001)) (says (refused 3 2))
    ∷ row (read-text (line 14 0x01020100000014 ++ line 16 0x0201000a00030005)) (says (refused 3 2))
    -- version 03 in the length of 01, and with a string line of 02; version 02 in the length of 01, and the other way round
    ∷ row (read-text (line 18 0x010301000100000014 ++ line 16 0x0201000a00030005)) (says (refused 3 1))
    ∷ row (read-text (line 14 0x01030100000014 ++ line 20 0x0201000a000300050001)) (says (refused 3 2))
    ∷ row (read-text (line 18 0x010201000100000014 ++ line 20 0x0201000a000300050001)) (says (refused 3 1))
    ∷ row (read-text (line 14 0x01010100000014 ++ line 16 0x0201000a00030005)) (says (refused 3 1))
    -- n 0 and A 1,001: 4 before 5
    ∷ row (read-text (line 18 0x01010003e900000014)) (says (refused 4 1))
    -- W-213: a day late costs four pairs, two turn P1 into a fail
    ∷ row (verdict-with tardy-by-one 1) (says (pass 43))
    ∷ row (verdict-with tardy 1) (says (fail 3 0 4 3))
    -- fails, and can never miss: the job that blocks is counted too
    ∷ row (verdict-with self-blocking 0) (says (fail 2 1 3 3))
    ∷ row (search self-blocking) (says (takers 2))
    ∷ row (file sample03) (written (bytes_of "verdict pass pairs 39\nassign 1\nrun clean work 8 move 1 idle 11\n"))
    -- the deadline counts from the due day: day 5, not day 7
    ∷ row (run-with tardy 0 (release 0 2 5 ∷ release_due 0 2 1 3 ∷ [])) (says (miss 5 1))
    -- on one deadline the earlier release day goes first, not the earlier due day
    ∷ row (run-with overtaken 0 (release 0 3 6 ∷ release 1 2 3 ∷ release_due 0 2 1 3 ∷ [])) (says (miss 10 1))
    -- due days T apart, release days two days less; and the other way round
    ∷ row (run-with tardy 0 (release_due 0 2 1 3 ∷ release 10 1 3 ∷ [])) (says (clean 6 0 14))
    ∷ row (run-with tardy 0 (release 0 1 3 ∷ release_due 9 10 1 3 ∷ [])) (says (refused 8 2))
    -- before its due day, J days after it, and a day more
    ∷ row (run-with tardy 0 (release_due 2 1 1 3 ∷ [])) (says (refused 8 1))
    ∷ row (run-with tardy 0 (release_due 0 2 1 3 ∷ [])) (says (clean 3 0 17))
    ∷ row (run-with tardy 0 (release_due 0 3 1 3 ∷ [])) (says (refused 8 1))
    -- J of D − 1 with C 1, and J of D; C of D − J, and one more
    ∷ row (read-text (line 14 0x01030100000014 ++ line 24 0x0201000a0001000500010004)) (says lawful)
    ∷ row (read-text (line 14 0x01030100000014 ++ line 24 0x0201000a0001000500010005)) (says (refused 5 2))
    ∷ row (read-text (line 14 0x01030100000014 ++ line 24 0x0201000a0003000500010002)) (says lawful)
    ∷ row (read-text (line 14 0x01030100000014 ++ line 24 0x0201000a0003000500010003)) (says (refused 5 2))
    -- a release line of 02 in version 03, and the other way round
    ∷ row (read-text (line 14 0x01030100000014 ++ line 24 0x0201000a0003000500010000 ++ line 16 0x0301000000010003)) (says (refused 3 3))
    ∷ row (read-text (line 14 0x01020100000014 ++ line 20 0x0201000a000300050001 ++ line 24 0x030100000001000300000001))
    (says (refused 3 3))
    ∷ []

pub worked : map (λ r. answered r.asked) table ≡ map (λ r. r.said) table
unfolding
    answered row table string paying opening plan_of plan release_due release releases char hex_of line two three five eight nine ten level
    roof tardy tardy-by-one self-blocking overtaken sample sample02 sample03
    ones ones_in flat_map
    sum_of largest smallest smallest_with every any keep count_of up_from least_from
    string_lawful common_multiple multiple_of leeway_min d_max
    moving_cost hold_of jobs blocker_hold block_limit need demand load overloaded
    pairs_at all_pairs broken first_of compared judged verdict_over is_pass
    permit with_set set_passes sets_of ordered search_of
    too_close out_of_order release_lawful unlawful_from first_unlawful
    chosen late_at new_slot join_from joined holder payer taken next_up given use_of spent morning state_at use_on late_on history days_of
    miss_day
    run_of
    count_check run_length_check cost_check strings_check multiple_check plan_check set_check releases_check run_check
    set_answer search_answer run_answer
    same_use day_ahead stints_from days_run run_stints stints_numbers
    before lines_of digit_of well_formed hex_bytes frame_of number_on has_field field_among field_in held_to field_of
    n_in run_in a_in cost_of string_of due_in release_of plan_in list_in frame_check version_check header_check
    string_line_check string_lines_check release_line_check release_lines_check body_check lines_check text_check lawful_reading
    reading_in version_of
    reading_of
    answers.answered answer_of bytes_of digits_in digits_of decimal worded_in refused_line verdict_line assign_line outcome_line lines_for
worked = refl
