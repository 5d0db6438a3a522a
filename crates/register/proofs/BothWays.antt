-- Written and read back, the strings are the same; read and written back, the bytes are.
--     table_read run p       what reading the table of p with an N given beside it gives
use Rattle.base.proofs.Prelude.{ℕ, suc, ◌+◌, ◌*◌, ◌≤◌, ◌≡◌, refl, sym, ap, ◌∙◌, true, List, [], ◌∷◌, map, arith, le-ltb, ltb-false, ne_eqb, eqb-false, not, not-false, ltb, eqb, length, length-append, length-map, length-take-le, take_at}
use Rattle.faults.specs.Checks.{Lawful, Checked}
use Rattle.std.specs.Prelude.{Ok, Err}
use mathlib.Core.List.{flat_map}
use Rattle.days.specs.Days.{days}
use Rattle.base.specs.Count.{All, filled, least_from}
use Rattle.base.proofs.Lists.{all_map}
use Rattle.faults.specs.declared.Fault.TheVariants.{TextTooLong, StringCount, MultipleOver, RowMalformed}
use Rattle.faults.specs.Checks.{then, refuse_if}
use Rattle.faults.proofs.Checks.{then-first, then-second, then-lawful, refuse_if-not, in_bounds-yes}
use Rattle.rules.specs.{declared.BatteryString.BatteryString, declared.Plan.Plan, Plan.{strings_of, no_string, common_multiple, multiple_of}, Refusal.{count_check, run_length_check, string_check, strings_check, multiple_check, plan_check, releases_check, run_check}, Release.{first_unlawful, unlawful_from}, Lines.row_line, Text.{Line, lines_of, no_releases}}
use Rattle.laws.specs.Lawful.{LawfulString, LawfulPlan}
use Rattle.laws.proofs.{Lawful.{string_lawful-yes, multiple_check-good}, Releases.releases_check-good, LineTexts.{text_of_lines, EndedLine, NoEnd, lines-said, lines-written}}
use Rattle.register.specs.{Table.{row_formed, row_string, row_check, rows_check, table_plan, row_lines_check, table_check, table_reading}, Export.table_text}
use Rattle.register.proofs.RowBack.{Short, register_row, row-line, row-formed, row-says, row-no-end, row_line-short, formed-ended, row_written}

-- ---- Written, then read

-- a lawful string has short numbers
short-string : (s : BatteryString) → LawfulString s → Short s
short-string s ok =
    let t = ok.t_max in
    let d = ok.d_max in
    let c = ok.c_max in
    let x = ok.x_max in
    let a = ok.a_max in
    let j = ok.j_max in
    (omega arith, (omega arith, (omega arith, (omega arith, (omega arith, (omega arith, tt))))))

abbrev rows : List BatteryString → List Line
rows ss = map register_row ss

rows-text : (ss : List BatteryString) → flat_map row_line ss ≡ text_of_lines (rows ss)
unfolding flat_map
rows-text [] = refl
rows-text (s ∷ ss) = rw (row-line s, rows-text ss)

rows-ended : (ss : List BatteryString) → All EndedLine (rows ss)
rows-ended [] = tt
rows-ended (s ∷ ss) = (refl, rows-ended ss)

rows-within : (ss : List BatteryString) → All NoEnd (rows ss)
rows-within [] = tt
rows-within (s ∷ ss) = (row-no-end s, rows-within ss)

rows-said : (ss : List BatteryString) → map row_string (rows ss) ≡ ss
rows-said [] = refl
rows-said (s ∷ ss) = rw (row-says s, rows-said ss)

rows_pass : (k : ℕ) (ss : List BatteryString) → All LawfulString ss → k + length ss ≤ 11 → rows_check k (rows ss) ≡ Lawful
unfolding rows_check row_check
rows_pass k [] ok few = refl
rows_pass k (s ∷ ss) ok few =
    rw (
      le-ltb 10 k (omega arith),
      row-formed s (short-string s ok.0),
      row-says s,
      string_lawful-yes s ok.0,
    )
    (rows_pass (suc k) ss ok.1 (omega arith))

rows_short : (ss : List BatteryString) → All LawfulString ss → length (flat_map row_line ss) ≤ length ss * 32
unfolding flat_map
rows_short [] ok = omega arith
rows_short (s ∷ ss) ok =
    omega (
      arith,
      length-append (row_line s) (flat_map row_line ss),
      row_line-short s (short-string s ok.0),
      rows_short ss ok.1,
    )

module _ (p : Plan) (ok : LawfulPlan p) (ten : length p.strings ≡ 10) (run : ℕ) (low : 1 ≤ run) (high : run ≤ 1000000) where
  many : length (strings_of p) ≡ p.n
  many = length-take-le p.n p.strings (omega (arith, ok.n_max))

  lines_are : lines_of (table_text p) ≡ rows (strings_of p)
  unfolding table_text
  lines_are =
      ap lines_of (rows-text (strings_of p)) ∙ lines-said (rows (strings_of p)) (rows-ended (strings_of p)) (rows-within (strings_of p))

  -- the plan that is read
  abbrev again : Plan
  again = record { n = p.n; run = days run; strings = filled 10 no_string (strings_of p) }

  counted : length (rows (strings_of p)) ≡ p.n
  counted = length-map (strings_of p) register_row ∙ many

  plan_is : table_plan run (rows (strings_of p)) ≡ again
  unfolding table_plan
  plan_is = rw (counted, rows-said (strings_of p))

  pub strings-again : strings_of again ≡ strings_of p
  strings-again = take_at (strings_of p) _ p.n many

  multiple-again : multiple_of again ≡ multiple_of p
  unfolding multiple_of
  multiple-again = ap (λ ss. least_from (common_multiple ss) 1 100000) strings-again

  passes : table_check run (table_text p) ≡ Lawful
  unfolding table_check row_lines_check run_length_check table_text
  passes =
      let first = ok.n_pos in
      let last = ok.n_max in
      let small : length (flat_map row_line (strings_of p)) ≤ 65536 = omega (arith, rows_short (strings_of p) ok.each, many) in
      let rest : multiple_check p.n again ≡ Lawful = multiple_check-good p.n again (omega (arith, multiple-again, ok.h_max)) in
      let lines = lines_are in
      rw (
        le-ltb 65536 (length (flat_map row_line (strings_of p))) small,
        in_bounds-yes 1 run 1000000 low high,
        lines,
        counted,
        ne_eqb p.n 0 (λ e. omega arith),
        rows_pass 1 (strings_of p) ok.each (omega (arith, many)),
        plan_is,
      )
      rest

  -- the strings are the same, with the N that was given, and no releases
  pub rows-written-read : table_reading run (table_text p) ≡ record { checked = Lawful; plan = again; releases = no_releases }
  unfolding table_reading
  rows-written-read = rw (passes, lines_are, plan_is)

-- ---- Read, then written

-- a reading is lawful where its check is
pub table-checked : (run : ℕ) (text : List ℕ) → (table_reading run text).checked ≡ Lawful → table_check run text ≡ Lawful
unfolding table_reading
table-checked run text h = each (table_check run text) refl
  where
    each : (c : Checked) → table_check run text ≡ c → table_check run text ≡ Lawful
    each (Ok _) e = e
    each (Err e') e = e ∙ sym (rw e) ∙ h

-- a row that is not refused
module _ (k : ℕ) (line : Line) (h : row_check k line ≡ Lawful) where
  abbrev after-four : Checked
  after-four = then (refuse_if (not (row_formed line)) RowMalformed k) (string_check k (row_string line))

  row-few : k ≤ 10
  unfolding row_check
  row-few = ltb-false 10 k (refuse_if-not (ltb 10 k) StringCount k (then-first (refuse_if (ltb 10 k) StringCount k) after-four h))

  is-formed : row_formed line ≡ true
  unfolding row_check
  is-formed =
      not-false (row_formed line) (refuse_if-not (not (row_formed line)) RowMalformed k
      (then-first (refuse_if (not (row_formed line)) RowMalformed k) (string_check k (row_string line))
      (then-second (refuse_if (ltb 10 k) StringCount k) after-four h)))

  in_bounds : string_check k (row_string line) ≡ Lawful
  unfolding row_check
  in_bounds =
      then-second (refuse_if (not (row_formed line)) RowMalformed k) (string_check k (row_string line))
      (then-second (refuse_if (ltb 10 k) StringCount k) after-four h)

rows-formed : (k : ℕ) (lines : List Line) → k ≤ 11 → rows_check k lines ≡ Lawful
    → All (λ line. row_formed line ≡ true) lines × (k + length lines ≤ 11)
unfolding rows_check
rows-formed k [] few h = (tt, omega arith)
rows-formed k (line ∷ lines) few h =
    let first = then-first (row_check k line) (rows_check (suc k) lines) h in
    let here : k ≤ 10 = row-few k line first in
    let rest : All (λ l. row_formed l ≡ true) lines × (suc k + length lines ≤ 11) = rows-formed (suc k) lines (omega arith)
    (then-second (row_check k line) (rows_check (suc k) lines) h) in
    ((is-formed k line first, rest.0), omega (arith, rest.1))

rows-lawful : (k : ℕ) (lines : List Line) → rows_check k lines ≡ Lawful → strings_check k (map row_string lines) ≡ Lawful
unfolding rows_check strings_check
rows-lawful k [] h = refl
rows-lawful k (line ∷ lines) h =
    then-lawful (string_check k (row_string line)) (strings_check (suc k) (map row_string lines))
    (in_bounds k line (then-first (row_check k line) (rows_check (suc k) lines) h))
    ∙ rows-lawful (suc k) lines (then-second (row_check k line) (rows_check (suc k) lines) h)

rows_written : (lines : List Line) → All (λ line. row_formed line ≡ true) lines → flat_map row_line (map row_string lines)
    ≡ text_of_lines lines
unfolding flat_map
rows_written [] h = refl
rows_written (line ∷ lines) h = rw (row_written line h.0, rows_written lines h.1)

multiple-within : (at : ℕ) (p : Plan) → multiple_check at p ≡ Lawful → multiple_of p ≤ 100000
unfolding multiple_check
multiple-within at p h = ltb-false 100000 (multiple_of p) (refuse_if-not (ltb 100000 (multiple_of p)) MultipleOver at h)

module _ (run : ℕ) (text : List ℕ) (h : table_check run text ≡ Lawful) where
  abbrev lines : List Line
  lines = lines_of text

  abbrev long : Checked
  long = refuse_if (ltb 65536 (length text)) TextTooLong 0

  abbrev multiple : Checked
  multiple = multiple_check (length lines) (table_plan run lines)

  abbrev some : Checked
  some = refuse_if (eqb (length lines) 0) StringCount 0

  run-good : run_length_check 0 run ≡ Lawful
  unfolding table_check
  run-good =
      then-first (run_length_check 0 run) (row_lines_check run lines) (then-second long (then (run_length_check 0 run) (row_lines_check run
      lines)) h)

  lines-good : row_lines_check run lines ≡ Lawful
  unfolding table_check
  lines-good =
      then-second (run_length_check 0 run) (row_lines_check run lines) (then-second long (then (run_length_check 0 run) (row_lines_check run
      lines)) h)

  rows-good : rows_check 1 lines ≡ Lawful
  unfolding row_lines_check
  rows-good = then-first (rows_check 1 lines) multiple (then-second some (then (rows_check 1 lines) multiple) lines-good)

  multiple-good : multiple ≡ Lawful
  unfolding row_lines_check
  multiple-good = then-second (rows_check 1 lines) multiple (then-second some (then (rows_check 1 lines) multiple) lines-good)

  not_none : length lines ≡ 0 → ⊥
  unfolding row_lines_check
  not_none =
      eqb-false (length lines) 0
      (refuse_if-not (eqb (length lines) 0) StringCount 0 (then-first some (then (rows_check 1 lines) multiple) lines-good))

  count-is : (table_plan run lines).n ≡ length lines
  unfolding table_plan
  count-is = refl

  run_is : (table_plan run lines).run.0 ≡ run
  unfolding table_plan
  run_is = refl

  strings-read : strings_of (table_plan run lines) ≡ map row_string lines
  unfolding table_plan
  strings-read = take_at (map row_string lines) _ (length lines) (length-map lines row_string)

  -- the same bytes
  pub rows-read-written : table_text (table_plan run lines) ≡ text
  unfolding table_text
  rows-read-written =
      let formed = (rows-formed 1 lines (omega arith) rows-good).0 in
      let ended = all_map (λ l. row_formed l ≡ true) EndedLine (λ l t. formed-ended l t) lines formed in
      ap (flat_map row_line) strings-read ∙ rows_written lines formed ∙ lines-written text ended

  -- and the plan is lawful
  pub table-lawful : run_check (table_plan run lines) no_releases ≡ Lawful
  unfolding run_check plan_check count_check first_unlawful unlawful_from
  table-lawful =
      let plan = table_plan run lines in
      let few = (rows-formed 1 lines (omega arith) rows-good).1 in
      let strings : strings_check 1 (strings_of plan) ≡ Lawful = ap (strings_check 1) strings-read ∙ rows-lawful 1 lines rows-good in
      let least : multiple_of plan ≤ 100000 = multiple-within (length lines) plan multiple-good in
      let releases : releases_check plan no_releases ≡ Lawful = releases_check-good plan no_releases (omega arith) refl in
      rw (
        strings,
        multiple_check-good 0 plan least,
        releases,
        count-is,
        run_is,
        in_bounds-yes 1 (length lines) 10 (some-line not_none) (omega arith),
        run-good,
      )
    where
      some-line : (length lines ≡ 0 → ⊥) → 1 ≤ length lines
      some-line other = omega arith
