-- The contractor's visit list as a text (document 02, W-211): a line for each visit, release,first day,length in decimal without leading
-- zeros, at most seven digits each, ended by CR LF. Lines and their fields are the asset register's (register/specs/Table.antt).
--     visit_said ns          the visit that three numbers say
--     visit_formed line      three numbers of at most seven digits, CR and LF
--     visit_in line          the visit that a line says
--     visits_in text         the visits that the lines of a text say
--     visits_text vs         the text that says visits, a line for each (lines/specs/Visits.antt)
--     visit_lines_check k lines   of lines from number k on, 13 with the first that is not so formed
--     visit_text_check p rs text  4 to 8 on the plan and its releases; then 1 with 0; 13 with the line; 14 with the record; 15 with the
--                           release
--     visit_files_check plan text the same for a plan file: 1 to 8 as in reading it come first
use Rattle.std.specs.Prelude.{ℕ, suc, Bool, not, ltb, length, get_or}
use Rattle.faults.specs.Checks.{Lawful, Checked}
use mathlib.Core.List.{List, [], ◌∷◌, map, flat_map}
use Rattle.days.specs.Days.{day, days}
use Rattle.base.specs.Digits.{decimal_in}
use Rattle.faults.specs.declared.Fault.TheVariants.{TextTooLong, RowMalformed}
use Rattle.faults.specs.Checks.{refuse_if, then}
use Rattle.rules.specs.declared.Plan.{Plan}
use Rattle.rules.specs.declared.Releases.{Releases}
use Rattle.rules.specs.Release.{releases_of}
use Rattle.rules.specs.Refusal.{run_check}
use Rattle.rules.specs.Text.{Line, lines_of, reading_of}
use Rattle.lines.specs.Visits.{visit_line}
use Rattle.register.specs.Table.{row_fields, line_formed}
use Rattle.visits.specs.declared.Visit.{Visit}
use Rattle.visits.specs.Visits.{visit_list_check}

-- ---- A line

unfoldable pub visit_said : List ℕ → Visit
visit_said ns = record { release = get_or ns 0 0; first = day (get_or ns 1 0); length = days (get_or ns 2 0) }

abbrev pub visit_formed : Line → Bool
visit_formed line = line_formed 3 7 line

unfoldable pub visit_in : Line → Visit
visit_in line = visit_said (map decimal_in (row_fields line))

-- ---- A text

abbrev pub visits_in : List ℕ → List Visit
visits_in text = map visit_in (lines_of text)

unfoldable pub visits_text : List Visit → List ℕ
visits_text vs = flat_map (λ v. visit_line v.release v.first.0 v.length.0) vs

unfoldable pub visit_lines_check : ℕ → List Line → Checked
visit_lines_check k [] = Lawful
visit_lines_check k (line ∷ lines) =
    let later = visit_lines_check (suc k) lines in
    then (refuse_if (not (visit_formed line)) RowMalformed k) later

unfoldable pub visit_text_check : Plan → Releases → List ℕ → Checked
visit_text_check p rs text =
    let list = visit_list_check p (releases_of rs) (visits_in text) in
    let lines = then (visit_lines_check 1 (lines_of text)) list in
    let long = refuse_if (ltb 65536 (length text)) TextTooLong 0 in
    then (run_check p rs) (then long lines)

-- ---- A plan file and a text

unfoldable pub visit_files_check : List ℕ → List ℕ → Checked
visit_files_check plan text =
    let visits = visit_text_check (reading_of plan).plan (reading_of plan).releases text in
    then (reading_of plan).checked visits
