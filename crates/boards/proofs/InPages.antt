-- The whole: where nothing is refused, the pages in a row and the line of a miss are the board.
use Rattle.base.proofs.Prelude.{ℕ, ◌+◌, ◌-◌, ◌*◌, ◌≤◌, ◌≡◌, ap, ◌∙◌, not, ◌&&◌, List, [], ◌∷◌, ◌++◌, arith, leb, le-leb, le-ltb, leb-true, not-false, length, drop, take_all, length-append}
use Rattle.faults.specs.Checks.{Lawful}
use mathlib.Core.Path.{ap₂}
use Rattle.base.proofs.Lists.{by_bool, and_right}
use Rattle.faults.specs.declared.Fault.TheVariants.{NoSuchDate}
use Rattle.faults.specs.Checks.{then, refuse_if, or_refused}
use Rattle.faults.proofs.Checks.{refused-not-lawful, by-checked, then-first, refuse_if-not}
use Rattle.calendar.specs.{Dates.date_exists, Numbers.{day_number, date_of, last_day}, Texts.{fits, date_form, date_in}}
use Rattle.rules.specs.declared.Plan.{Plan}
use Rattle.rules.specs.declared.Release.{Release}
use Rattle.rules.specs.declared.Releases.{Releases}
use Rattle.rules.specs.Text.{Reading, Line, lines_of, reading_of}
use Rattle.rules.specs.Release.{releases_of}
use Rattle.rules.specs.Run.{history, late_on, miss_day, run_of}
use Rattle.rules.specs.Stints.{days_run, run_stints, stints_numbers, stints_check, stints_listed}
use Rattle.laws.proofs.{Lawful.LawfulPlan, Releases.{LawfulRun, run_check-lawful}, ReadLawful.read-lawful, History.history-length}
use Rattle.run.proofs.Answering.{few-here}
use Rattle.lines.specs.Board.{missed_line, number_line}
use Rattle.boards.specs.{declared.Board.Board, Input.{Input, start_right, start_check, start_said, diary_check, input_check, input_reading}, Board.{date_head, miss_line_of, board_from, board_end, board_of, tests_of}, Paging.{in_calendar, page_uses, pages_from}, Whole.{Given, board_with, board_over, board_reading, over_listed, board_listed, board_text, end_text}, inner.Daily.head_with}
use Rattle.boards.proofs.{Days.head-long, Rows.{Roomy, pages-in-row, uses-back}, Roomy.{history-places, missed-short, all-roomy, few-tests}}

-- ---- The run within the calendar

-- the line of a miss is written: its day is N or earlier
end_is : (p : Plan) (rs : List Release) (k : ℕ) → k + p.run.0 ≤ last_day → end_text k (run_of p rs) ≡ board_end k (run_of p rs)
unfolding run_of end_text board_end
end_is p rs k there =
    by_bool (leb (miss_day p rs) p.run.0)
    (λ t. rw (t, le-leb (k + miss_day p rs) last_day (omega (arith, leb-true (miss_day p rs) p.run.0 t))))
    (λ e. rw e)

end_short : (p : Plan) (rs : List Release) → LawfulPlan p → (k : ℕ) → length (end_text k (run_of p rs)) ≤ 600
unfolding run_of end_text miss_line_of date_head head_with
end_short p rs lawful k =
    let m = miss_day p rs in
    by_bool (leb m p.run.0)
    (λ t.
    by_bool (leb (k + m) last_day)
    (λ h. rw (t, h) (omega (
      arith,
      length-append (head_with (date_of (k + m)) (k + m)) (missed_line (late_on p rs m)),
      head-long (date_of (k + m)) (k + m),
      missed-short p rs lawful m,
    )))
    (λ h. rw (t, h) (omega arith)))
    (λ e. rw e (omega arith))

days-few : (p : Plan) (rs : List Release) (k : ℕ) {n : ℕ} → k + p.run.0 ≤ last_day → last_day ≤ n → days_run p rs ≤ n
unfolding days_run
days-few p rs k there many = omega arith

-- ---- A start that is right

module _ (n : ℕ) where
  start-there : (lines : List Line) → input_check n lines ≡ Lawful → start_said lines + n ≤ last_day
  unfolding input_check start_check start_said start_right
  start-there [] h = absurd (refused-not-lawful NoSuchDate 0 h)
  start-there (line ∷ lines) h =
      let wrong = not (start_right n line) in
      let start = then-first (refuse_if wrong NoSuchDate 0) (diary_check 1 lines) h in
      let right = not-false (start_right n line) (refuse_if-not wrong NoSuchDate 0 start) in
      let last = day_number (date_in line.bytes) + n in
      leb-true last last_day
      (and_right (line.ended && fits date_form line.bytes && date_exists (date_in line.bytes)) (leb last last_day) right)

  input-there : (text : List ℕ) → (input_reading n text).checked ≡ Lawful → (input_reading n text).start.0 + n ≤ last_day
  unfolding input_reading
  input-there text h =
      by-checked (input_check n (lines_of text))
      (λ c. rw c (start-there (lines_of text) c))
      (λ f at c. absurd (refused-not-lawful f at (rw c at h)))

-- ---- The board of a plan, an input and a list

module _ (p : Plan) (rs : Releases) (i : Input) (list : List ℕ) (room n : ℕ)
    (there : i.start.0 + p.run.0 ≤ last_day) (fit : stints_check p rs (length list) ≡ Lawful)
  where
    abbrev releases : List Release
    releases = releases_of rs

    abbrev answer : Given
    answer = board_with p rs i.start i.diary (length list)

    abbrev board : Board
    board = answer.board

    abbrev lent : List ℕ
    lent = stints_listed p rs list

    made : answer
        ≡ record {
          checked = Lawful;
          board =
              record { start = i.start; diary = i.diary; stints = length (run_stints p releases); outcome = run_of p releases };
        }
    unfolding board_with
    made = rw fit

    held : lent ≡ stints_numbers (run_stints p releases) ++ drop (length (stints_numbers (run_stints p releases))) list
    unfolding stints_listed
    held = rw fit

    days-there : in_calendar (i.start.0 + 0) (drop 0 (history p releases (days_run p releases))) ≡ history p releases (days_run p releases)
    unfolding days_run
    days-there =
        take_all (last_day + 1 - (i.start.0 + 0)) (history p releases (days_run p releases))
        (omega (arith, history-length p releases (days_run p releases)))

    built : board
        ≡ record { start = i.start; diary = i.diary; stints = length (run_stints p releases); outcome = run_of p releases }
    built = ap (λ (g : Given). g.board) made

    uses : page_uses board lent 0 ≡ history p releases (days_run p releases)
    unfolding page_uses run_stints
    uses =
        rw (built, held)
        (ap (λ us. in_calendar (i.start.0 + 0) (drop 0 us)) (uses-back (history p releases (days_run p releases)) _) ∙ days-there)

    pub run-in-pages : days_run p releases ≤ n → Roomy (tests_of i.diary) room i.start.0 (history p releases (days_run p releases))
        → or_refused (λ f at. number_line f) answer.checked (pages_from n board lent room 0 ++ end_text board.start.0 board.outcome)
        ≡ board_of i.start.0 i.diary p releases
    unfolding board_of
    run-in-pages enough roomy =
        let few : length (page_uses board lent 0) ≤ n = omega (arith, ap length uses, history-length p releases (days_run p releases)) in
        let start_is : board.start.0 + 0 ≡ i.start.0 = ap (λ (g : Given). g.board.start.0 + 0) made ∙ omega arith in
        let diary-is : board.diary ≡ i.diary = ap (λ (g : Given). g.board.diary) made in
        let pages = pages-in-row board lent room n 0 few (rw (uses, start_is, diary-is) roomy) in
        let end : end_text board.start.0 board.outcome ≡ board_end i.start.0 (run_of p releases) =
        ap (λ (g : Given). end_text g.board.start.0 g.board.outcome) made ∙ end_is p releases i.start.0 there in
        let days : pages_from n board lent room 0 ≡ board_from i.start.0 (tests_of i.diary) (history p releases (days_run p releases)) =
        pages ∙ rw (uses, start_is, diary-is) in
        let said = pages_from n board lent room 0 ++ end_text board.start.0 board.outcome in
        ap (λ (g : Given). or_refused (λ f at. number_line f) g.checked said) made ∙ ap₂ (λ l m. l ++ m) days end

-- ---- Of texts

module _ (plan text list : List ℕ) (enough : 15005 ≤ length list) where
  abbrev r : Reading
  r = reading_of plan

  abbrev input : Input
  input = input_reading r.plan.run.0 text

  abbrev given : Given
  given = board_reading plan text (length list)

  lawful : r.checked ≡ Lawful → LawfulRun r.plan r.releases
  lawful h = run_check-lawful r.plan r.releases (read-lawful plan h)

  -- a run has at most 3,001 stints
  all_fit : r.checked ≡ Lawful → stints_check r.plan r.releases (length list) ≡ Lawful
  unfolding stints_check
  all_fit h =
      let count = length (run_stints r.plan (releases_of r.releases)) in
      rw (read-lawful plan h, le-ltb (length list) (5 * count) (omega (arith, few-here r.plan r.releases (lawful h))))

  -- so that nothing but the plan and the input is refused
  pub only-these : given.checked ≡ then r.checked input.checked
  unfolding board_reading board_over board_with
  only-these =
      by-checked r.checked
      (λ a. by-checked input.checked (λ b. rw (a, b, all_fit a)) (λ f at b. rw (a, b)))
      (λ f at a. rw a)

  -- the number of the refusal, or the pages and what stands behind them, are all that is written
  pub board-in-pages : (room n : ℕ) → 600 ≤ room → last_day ≤ n
      → or_refused (λ f at. number_line f) given.checked
      (pages_from n given.board (board_listed plan text list) room 0 ++ end_text given.board.start.0 given.board.outcome)
      ≡ board_text plan text
  unfolding board_reading board_over board_listed over_listed board_text
  board-in-pages room n large many =
      by-checked r.checked
      (λ a.
      by-checked input.checked
      (λ b.
      let p = r.plan in
      let releases = releases_of r.releases in
      let there = input-there p.run.0 text b in
      let roomy = all-roomy (tests_of input.diary) (few-tests p.run.0 text b) room large input.start.0
      (history p releases (days_run p releases)) (history-places p releases (lawful a).plan (days_run p releases)) in
      rw (a, b)
      (run-in-pages p r.releases input list room n there (all_fit a) (days-few p releases input.start.0 there many) roomy))
      (λ f at b. rw (a, b)))
      (λ f at a. rw a)

  -- a page of 600 bytes has room for the line of a miss
  pub end_fits : given.checked ≡ Lawful → length (end_text given.board.start.0 given.board.outcome) ≤ 600
  unfolding board_reading board_over board_with
  end_fits h =
      by-checked r.checked
      (λ a.
      by-checked input.checked
      (λ b. rw (a, b, all_fit a) (end_short r.plan (releases_of r.releases) (lawful a).plan input.start.0))
      (λ f at b. absurd (refused-not-lawful f at (rw (a, b) at h))))
      (λ f at a. absurd (refused-not-lawful f at (rw a at h)))
