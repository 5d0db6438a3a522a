-- Every public function but five of doors allows one result: two results that meet its own contract are equal, and so is what it leaves
-- of lent memory, but for the five places of slots, which only read the slots that they are lent. `Learnt` is what the `ensures` clauses of
-- a function say of its result, taken from the function, over a lent slice of structs too, so a clause that is weakened or gone is refused
-- here: tried with each of the five places, `exact` gone or `1 ≤ place` gone from `within`. Three of register are written out, as is said
-- there. The test command asks for a line to each; beside these stand a refusal of `read`, the order that is derived for days and lengths,
-- and `u32::from` of a fault. Five of doors ask what lies outside, which gives and takes what it likes: of those the last part of doors
-- says how far two results are one.
--     κs the lifetimes of what is lent; a the arguments; e, f what holds at the return; r, s two results
use Rattle.base.proofs.Prelude.{◌≡◌, ◌≤◌, refl, sym, ap, ◌∙◌, subst, Bool, ℕ, List, arith, length, take}
use Rattle.rules.specs.declared.Outcome.{Outcome}
use Rattle.rules.specs.declared.Verdict.{Verdict}
use Rattle.days.specs.declared.Day.{Day}
use Rattle.calendar.specs.declared.Weekday.{Weekday}
use Rattle.calendar.specs.declared.YearlyDate.{YearlyDate}
use Rattle.faults.specs.Checks.{Checked}
use Rattle.faults.specs.declared.Refusal.{Refusal}
use Rattle.std.specs.Prelude.{Result, Ok, Err, Option, Some, None, unwrap_or, IfSome, cond, eqb, is_ok, IsUtf8}
use Rattle.std.specs.declared.process.ExitCode.{ExitCode}
use Rattle.std.proofs.Common.{Ordering}
use Rattle.rules.specs.declared.Answers.{Answers}
use Rattle.rules.specs.Found.{FirstBroken, Assign}
use Rattle.lines.specs.Limits.{Limit}
use Rattle.days.specs.declared.Length.{Length}
use Rattle.rules.specs.declared.PlanFile.{PlanFile}
use Rattle.rules.specs.declared.Figures.{Figures}
use Rattle.rules.specs.declared.Job.{Job}
use Rattle.rules.specs.declared.Slot.{Slot}
use Rattle.rules.specs.declared.Use.{Use}
use Rattle.rules.specs.declared.Stint.{Stint}
use Rattle.rules.specs.declared.Plan.{Plan}
use Rattle.lines.specs.declared.Page.{Page}
use Rattle.calendar.specs.declared.Date.{Date}
use Rattle.missed.specs.declared.Missed.{Missed}
use Rattle.layouts.specs.declared.Version.{Version}
use Rattle.tries.specs.declared.Missing.{Missing}
use Rattle.matching.specs.declared.Matched.{Matched}
use Rattle.register.specs.{declared.Row.Row, declared.Export.Export, Reader.row_at}
use denote.Ref.{Bor}
use Rattle.days.proofs.Day.plus.Reads as Day-plus
use Rattle.days.proofs.Day.since.Reads as Day-since
use Rattle.days.proofs.DayPartialOrd.partial_cmp.Reads as Day-before
use Rattle.days.proofs.LengthPartialOrd.partial_cmp.Reads as Length-shorter
use Rattle.faults.proofs.U32FromFault.from.Reads as fault-number
use Rattle.calendar.proofs.Date.first.Reads as Date-first
use Rattle.calendar.proofs.Date.from_day.Reads as Date-from-day
use Rattle.calendar.proofs.Date.day_number.Reads as Date-day-number
use Rattle.calendar.proofs.Date.weekday.Reads as Date-weekday
use Rattle.calendar.proofs.yearly.Reads as yearly
use Rattle.calendar.proofs.date_read.Reads as date-read
use Rattle.calendar.proofs.day_read.Reads as day-read
use Rattle.calendar.proofs.date_text.Reads as date-text
use Rattle.calendar.proofs.yearly_read.Reads as yearly-read
use Rattle.calendar.proofs.edition_read.Reads as edition-read
use Rattle.calendar.proofs.yearly_text.Reads as yearly-text
use Rattle.calendar.proofs.falls_on.Reads as falls-on
use Rattle.calendar.proofs.fits.Reads as fits
use Rattle.lines.proofs.used_line.Reads as used-line
use Rattle.lines.proofs.missed_line.Reads as missed-line
use Rattle.lines.proofs.number_line.Reads as number-line
use Rattle.lines.proofs.visit_line.Reads as visit-line
use Rattle.lines.proofs.limits_line.Reads as limits-line
use Rattle.slack.proofs.limit_at.Reads as limit-at
use Rattle.slack.proofs.limits_shown.Reads as limits-shown
use Rattle.register.specs.declared.LineRead.{LineRead}
use Rattle.register.proofs.three_at.Reads as three-at
use Rattle.visits.specs.declared.OwnVisits.{OwnVisits}
use Rattle.visits.proofs.check_visits.Reads as check-visits
use Rattle.visits.proofs.own_visits.Reads as own-visits
use Rattle.visits.proofs.check_visit_text.Reads as check-visit-text
use Rattle.visits.proofs.check_visit_files.Reads as check-visit-files
use Rattle.boards.specs.{declared.CrewInput.CrewInput, declared.Board.Board, declared.Filled.Filled}
use Rattle.boards.proofs.input_read.Reads as input-read
use Rattle.boards.proofs.board_read.Reads as board-read
use Rattle.boards.proofs.board_page.Reads as board-page
use Rattle.boards.proofs.board_end.Reads as board-end
use Rattle.rules.proofs.Plan.moving_cost.Reads as Plan-moving-cost
use Rattle.rules.proofs.Plan.with_run.Reads as Plan-with-run
use Rattle.rules.proofs.Verdict.passes.Reads as Verdict-passes
use Rattle.slots.proofs.late_place.Reads as late-place
use Rattle.slots.proofs.holder_place.Reads as holder-place
use Rattle.slots.proofs.taker_place.Reads as taker-place
use Rattle.slots.proofs.next_place.Reads as next-place
use Rattle.slots.proofs.due_place.Reads as due-place
use Rattle.slots.proofs.stopped_job.Reads as stopped-job
use Rattle.slots.proofs.seated_job.Reads as seated-job
use Rattle.slots.proofs.part_left.Reads as part_left
use Rattle.slots.proofs.spent_by.Reads as spent-by
use Rattle.slots.proofs.use_for.Reads as use-for
use Rattle.slots.proofs.empty_slots.Reads as empty-slots
use Rattle.bounds.proofs.string_lawful.Reads as string-lawful
use Rattle.bounds.proofs.multiple.Reads as multiple
use Rattle.bounds.proofs.first_unlawful.Reads as first-unlawful
use Rattle.bounds.proofs.head_check.Reads as head-check
use Rattle.bounds.proofs.cost_check.Reads as cost-check
use Rattle.bounds.proofs.multiple_check.Reads as multiple-check
use Rattle.bounds.proofs.plan_check.Reads as plan-check
use Rattle.bounds.proofs.set_check.Reads as set-check
use Rattle.bounds.proofs.run_check.Reads as run-check
use Rattle.layouts.specs.declared.Layouts.{Layouts}
use Rattle.layouts.proofs.Versions.{version_one}
use Rattle.layouts.proofs.held_to.Reads as held_to
use Rattle.layouts.proofs.Version.layouts.Reads as Version-layouts
use Rattle.writing.proofs.room_check.Reads as room-check
use Rattle.reading.proofs.read.Reads as read
use Rattle.reading.proofs.read_01.Reads as read-01
use Rattle.reading.proofs.read_02.Reads as read-02
use Rattle.writing.proofs.write.Reads as write
use Rattle.writing.proofs.write_01.Reads as write-01
use Rattle.writing.proofs.write_02.Reads as write-02
use Rattle.register.proofs.register.Reads as register
use Rattle.register.proofs.table.Reads as table
use Rattle.turning.proofs.to_02.Reads as to-02
use Rattle.turning.proofs.to_01.Reads as to-01
use Rattle.missed.proofs.miss.Reads as miss
use Rattle.verdict.proofs.verdict.Reads as verdict
use Rattle.verdict.proofs.verdict_with.Reads as verdict-with
use Rattle.verdict.proofs.quick.Reads as quick
use Rattle.verdict.proofs.quick_with.Reads as quick-with
use Rattle.verdict.proofs.first_break.Reads as first-break
use Rattle.verdict.proofs.breaks.Reads as breaks
use Rattle.verdict.proofs.search.Reads as search-takers
use Rattle.verdict.proofs.figures.Reads as figures
use Rattle.run.proofs.run.Reads as run
use Rattle.run.proofs.stints.Reads as stints
use Rattle.run.proofs.stint_at.Reads as stint-at
use Rattle.tries.proofs.releases_that_miss.Reads as releases-that-miss
use Rattle.lines.proofs.written.Reads as written
use Rattle.lines.proofs.verdict_written.Reads as verdict-written
use Rattle.lines.proofs.run_written.Reads as run-written
use Rattle.lines.proofs.date_line.Reads as date-line
use Rattle.lines.proofs.day_line.Reads as day-line
use Rattle.lines.proofs.blank.Reads as blank
use Rattle.lines.proofs.put_text.Reads as put-text
use Rattle.lines.proofs.row_line.Reads as row_line
use Rattle.lines.proofs.plan_line.Reads as plan-line
use Rattle.lines.proofs.string_line.Reads as string-line
use Rattle.lines.proofs.stint_line.Reads as stint-line
use Rattle.lines.proofs.set_line.Reads as set_line
use Rattle.lines.proofs.day_row.Reads as day-row
use Rattle.lines.proofs.bar_row.Reads as bar-row
use Rattle.lines.proofs.marks_line.Reads as marks-line
use Rattle.lines.proofs.idle_line.Reads as idle-line
use Rattle.lines.proofs.cut_line.Reads as cut-line
use Rattle.lines.proofs.load_line.Reads as load-line
use Rattle.lines.proofs.release_line.Reads as release-line
use Rattle.lines.proofs.same_line.Reads as same_line
use Rattle.lines.proofs.alone_line.Reads as alone-line
use Rattle.lines.proofs.counts_line.Reads as counts-line
use Rattle.matching.proofs.same_strings.Reads as same-strings
use Rattle.matching.proofs.matched_line.Reads as matched-line
use Rattle.lines.proofs.pair_line.Reads as pair_line
use Rattle.lines.proofs.blocker_line.Reads as blocker-line
use Rattle.lines.proofs.blocking_line.Reads as blocking-line
use Rattle.lines.proofs.share_line.Reads as share-line
use Rattle.lines.proofs.demand_line.Reads as demand-line
use Rattle.lines.proofs.multiple_line.Reads as multiple-line
use Rattle.lines.proofs.over_line.Reads as over-line
use Rattle.lines.proofs.stair_line.Reads as stair-line
use Rattle.lines.proofs.stretch_line.Reads as stretch-line
use Rattle.lines.proofs.nowhere_line.Reads as nowhere-line
use Rattle.why.specs.declared.Subject.{Subject}
use Rattle.why.proofs.named.Reads as named
use Rattle.why.proofs.last_interval.Reads as last-interval
use Rattle.why.proofs.blocker_shown.Reads as blocker-shown
use Rattle.why.proofs.share_shown.Reads as share-shown
use Rattle.why.proofs.demand_shown.Reads as demand-shown
use Rattle.why.proofs.stair_shown.Reads as stair-shown
use Rattle.why.proofs.stretch_shown.Reads as stretch-shown
use Rattle.why.proofs.nowhere_shown.Reads as nowhere-shown
use Rattle.lines.proofs.reason_line.Reads as reason-line
use Rattle.naming.proofs.refusal_line.Reads as refusal-line
use Rattle.showing.proofs.plan_shown.Reads as plan-shown
use Rattle.showing.proofs.string_shown.Reads as string-shown
use Rattle.showing.proofs.load_shown.Reads as load-shown
use Rattle.showing.proofs.release_shown.Reads as release-shown
use Rattle.assigning.proofs.assign.Reads as assign
use Rattle.sets.proofs.set_shown.Reads as set-shown
use Rattle.bars.proofs.head_shown.Reads as head-shown
use Rattle.bars.proofs.row_shown.Reads as row-shown
use Rattle.bars.proofs.idle_shown.Reads as idle-shown
use Rattle.bars.proofs.cut_shown.Reads as cut-shown
use Rattle.verdict.proofs.with_set.Reads as with-set
use Rattle.answers.proofs.answer.Reads as answer
use Rattle.entries.proofs.desk_check.Reads as desk-check
use Rattle.entries.proofs.desk_multiple.Reads as desk-multiple
use Rattle.entries.proofs.desk_verdict.Reads as desk-verdict
use Rattle.entries.proofs.desk_verdict_with.Reads as desk-verdict-with
use Rattle.entries.proofs.desk_quick.Reads as desk-quick
use Rattle.entries.proofs.desk_limit.Reads as desk-limit
use Rattle.entries.proofs.desk_search.Reads as desk-search
use Rattle.entries.proofs.desk_run.Reads as desk-run
use Rattle.entries.proofs.desk_stints.Reads as desk-stints
use Rattle.entries.proofs.desk_can_miss.Reads as desk-can-miss
use Rattle.entries.proofs.desk_check_visits.Reads as desk-check-visits
use Rattle.entries.proofs.desk_answer.Reads as desk-answer
use Rattle.entries.proofs.desk_date.Reads as desk-date
use Rattle.entries.proofs.desk_day.Reads as desk-day
use Rattle.doors.specs.declared.Stop.{Stop}
use Rattle.doors.specs.declared.Stop.TheVariants.{Refused, Failed, Unwritten, Gone}
use Rattle.doors.specs.Stops.{rank_of, status_of}
use Rattle.doors.proofs.status.Reads as status
use Rattle.doors.proofs.worse.Reads as worse
use Rattle.doors.proofs.complain.Reads as complain
use Rattle.doors.proofs.unread.Reads as unread
use Rattle.doors.proofs.fill.Reads as fill
use Rattle.doors.proofs.fill_by.Reads as fill-by
use Rattle.doors.proofs.write.Reads as doors-write
use Rattle.doors.proofs.asked_for_status.Reads as asked-for-status
use Rattle.doors.proofs.word_count.Reads as word-count
use Rattle.promise.proofs.Outside.{part-one, written-status, error_said, unnamed-kind}
use Rattle.std.specs.Io.KnownBytes.{Consumes}
use Rattle.std.specs.declared.io.traits.Read.{Ghosts}
use Rattle.std.specs.declared.io.Error.{Error}
use Rattle.std.specs.declared.io.ErrorKind.{ErrorKind}
use denote.RattleType.{RattleType}
use denote.Param.Laws.{Laws}
use contract.Lifetimes.{Lfts}

-- days
pub one-Day-plus : (κs : Lfts 0) (a : _) (e f : _) (r s : Option Day) → Day-plus.Learnt κs a r e → Day-plus.Learnt κs a s f → r ≡ s
one-Day-plus κs a e f r s h k = h ∙ sym k

pub one-Day-since : (κs : Lfts 0) (a : _) (e f : _) (r s : Option Length) → Day-since.Learnt κs a r e → Day-since.Learnt κs a s f → r ≡ s
one-Day-since κs a e f r s h k = h ∙ sym k

-- whether a day is before another, a length shorter: the order that is derived for them, through which `<` and its like go
pub one-Day-before : (κs : Lfts 2) (a : _) (e f : _) (r s : Option Ordering) → Day-before.Learnt κs a r e → Day-before.Learnt κs a s f
    → r ≡ s
one-Day-before κs a e f r s h k = h ∙ sym k

pub one-Length-shorter : (κs : Lfts 2) (a : _) (e f : _) (r s : Option Ordering) → Length-shorter.Learnt κs a r e
    → Length-shorter.Learnt κs a s f → r ≡ s
one-Length-shorter κs a e f r s h k = h ∙ sym k

-- faults: `u32::from` of a fault
pub one-fault-number : (κs : Lfts 0) (a : _) (e f : _) (r s : ℕ) → fault-number.Learnt κs a r e → fault-number.Learnt κs a s f → r ≡ s
one-fault-number κs a e f r s h k = h ∙ sym k

-- calendar
pub one-Date-first : (κs : Lfts 0) (a : _) (e f : _) (r s : Date) → Date-first.Learnt κs a r e → Date-first.Learnt κs a s f → r ≡ s
one-Date-first κs a e f r s h k = h ∙ sym k

pub one-Date-from-day : (κs : Lfts 0) (a : _) (e f : _) (r s : Result Date Refusal) → Date-from-day.Learnt κs a r e
    → Date-from-day.Learnt κs a s f
    → r ≡ s
one-Date-from-day κs a e f r s h k = h ∙ sym k

pub one-Date-day-number : (κs : Lfts 0) (a : _) (e f : _) (r s : Result Day Refusal) → Date-day-number.Learnt κs a r e
    → Date-day-number.Learnt κs a s f → r ≡ s
one-Date-day-number κs a e f r s h k = h ∙ sym k

pub one-Date-weekday : (κs : Lfts 0) (a : _) (e f : _) (r s : Result Weekday Refusal) → Date-weekday.Learnt κs a r e
    → Date-weekday.Learnt κs a s f
    → r ≡ s
one-Date-weekday κs a e f r s h k = h ∙ sym k

pub one-yearly : (κs : Lfts 1) (a : _) (e f : _) (r s : Result ℕ Refusal) → yearly.Learnt κs a r e → yearly.Learnt κs a s f
    → (r ≡ s) × (e.1.1.1.1.0.now ≡ f.1.1.1.1.0.now)
one-yearly κs a e f r s h k = (h.0 ∙ sym k.0, h.1 ∙ sym k.1)

pub one-date-read : (κs : Lfts 1) (a : _) (e f : _) (r s : Result Date Refusal) → date-read.Learnt κs a r e → date-read.Learnt κs a s f
    → (r ≡ s) × (e.0.now ≡ f.0.now)
one-date-read κs a e f r s h k = (h.0 ∙ sym k.0, h.1 ∙ sym k.1)

pub one-day-read : (κs : Lfts 1) (a : _) (e f : _) (r s : Result Day Refusal) → day-read.Learnt κs a r e → day-read.Learnt κs a s f
    → (r ≡ s) × (e.0.now ≡ f.0.now)
one-day-read κs a e f r s h k = (h.0 ∙ sym k.0, h.1 ∙ sym k.1)

pub one-date-text : (κs : Lfts 0) (a : _) (e f : _) (r s : Result (List ℕ) Refusal)
    → date-text.Learnt κs a r e → date-text.Learnt κs a s f → r ≡ s
one-date-text κs a e f r s h k = h ∙ sym k

pub one-yearly-read : (κs : Lfts 1) (a : _) (e f : _) (r s : Result YearlyDate Refusal) → yearly-read.Learnt κs a r e
    → yearly-read.Learnt κs a s f
    → (r ≡ s) × (e.0.now ≡ f.0.now)
one-yearly-read κs a e f r s h k = (h.0 ∙ sym k.0, h.1 ∙ sym k.1)

pub one-edition-read : (κs : Lfts 1) (a : _) (e f : _) (r s : Result ℕ Refusal) → edition-read.Learnt κs a r e
    → edition-read.Learnt κs a s f
    → (r ≡ s) × (e.0.now ≡ f.0.now)
one-edition-read κs a e f r s h k = (h.0 ∙ sym k.0, h.1 ∙ sym k.1)

pub one-yearly-text : (κs : Lfts 0) (a : _) (e f : _) (r s : Result (List ℕ) Refusal)
    → yearly-text.Learnt κs a r e → yearly-text.Learnt κs a s f → r ≡ s
one-yearly-text κs a e f r s h k = h ∙ sym k

pub one-falls-on : (κs : Lfts 0) (a : _) (e f : _) (r s : Bool) → falls-on.Learnt κs a r e → falls-on.Learnt κs a s f → r ≡ s
one-falls-on κs a e f r s h k = h ∙ sym k

pub one-fits : (κs : Lfts 2) (a : _) (e f : _) (r s : Bool) → fits.Learnt κs a r e → fits.Learnt κs a s f
    → (r ≡ s) × (e.0.now ≡ f.0.now) × (e.1.0.now ≡ f.1.0.now)
one-fits κs a e f r s h k = (h.0 ∙ sym k.0, h.1.0 ∙ sym k.1.0, h.1.1 ∙ sym k.1.1)

-- rules
pub one-Plan-moving-cost : (κs : Lfts 0) (a : _) (e f : _) (r s : Length) → Plan-moving-cost.Learnt κs a r e
    → Plan-moving-cost.Learnt κs a s f → r ≡ s
one-Plan-moving-cost κs a e f r s h k = h ∙ sym k

pub one-Plan-with-run : (κs : Lfts 0) (a : _) (e f : _) (r s : Plan) → Plan-with-run.Learnt κs a r e → Plan-with-run.Learnt κs a s f → r ≡ s
one-Plan-with-run κs a e f r s h k = h ∙ sym k

pub one-Verdict-passes : (κs : Lfts 0) (a : _) (e f : _) (r s : Bool) → Verdict-passes.Learnt κs a r e → Verdict-passes.Learnt κs a s f
    → r ≡ s
one-Verdict-passes κs a e f r s h k = h ∙ sym k

-- slots
-- a place from 1 on is one, whether it is said by a number, 0 for none, or by an option
place-one : (n : ℕ) (r s : Option ℕ) → (unwrap_or r 0 ≡ n) × IfSome r (λ k. 1 ≤ k) → (unwrap_or s 0 ≡ n) × IfSome s (λ k. 1 ≤ k) → r ≡ s
place-one n None None h k = refl
place-one n (Some a) (Some b) h k = ap Some (h.0 ∙ sym k.0)
place-one n None (Some b) h k = absurd (omega (arith, h.0, k.0, k.1))
place-one n (Some a) None h k = absurd (omega (arith, h.0, k.0, h.1))

-- the places that a day asks for: a place of n, 0 for none, is an option in one way only
abbrev pub SaysPlace : ℕ → List Slot → Option ℕ → Type 0
SaysPlace n slots r = (unwrap_or r 0 ≡ n) × IfSome r (λ place. (1 ≤ place) × (place ≤ length slots))

from-one : (slots : List Slot) (r : Option ℕ) → IfSome r (λ place. (1 ≤ place) × (place ≤ length slots)) → IfSome r (λ k. 1 ≤ k)
from-one slots None h = tt
from-one slots (Some k) h = h.0

pub placed-one : (n : ℕ) (slots : List Slot) (r s : Option ℕ) → SaysPlace n slots r → SaysPlace n slots s → r ≡ s
placed-one n slots r s h k = place-one n r s (h.0, from-one slots r h.1) (k.0, from-one slots s k.1)

pub one-late-place : (κs : Lfts 1) (a : _) (e f : _) (r s : Option ℕ) → late-place.Learnt κs a r e → late-place.Learnt κs a s f → r ≡ s
one-late-place κs a e f r s h k = placed-one _ _ r s h k

pub one-holder-place : (κs : Lfts 1) (a : _) (e f : _) (r s : Option ℕ) → holder-place.Learnt κs a r e → holder-place.Learnt κs a s f
    → r ≡ s
one-holder-place κs a e f r s h k = placed-one _ _ r s h k

pub one-taker-place : (κs : Lfts 1) (a : _) (e f : _) (r s : Option ℕ) → taker-place.Learnt κs a r e → taker-place.Learnt κs a s f
    → r ≡ s
one-taker-place κs a e f r s h k = placed-one _ _ r s h k

pub one-next-place : (κs : Lfts 1) (a : _) (e f : _) (r s : Option ℕ) → next-place.Learnt κs a r e → next-place.Learnt κs a s f → r ≡ s
one-next-place κs a e f r s h k = placed-one _ _ r s h k

pub one-due-place : (κs : Lfts 1) (a : _) (e f : _) (r s : Option ℕ) → due-place.Learnt κs a r e → due-place.Learnt κs a s f → r ≡ s
one-due-place κs a e f r s h k = placed-one _ _ r s h k

pub one-stopped-job : (κs : Lfts 0) (a : _) (e f : _) (r s : Job) → stopped-job.Learnt κs a r e → stopped-job.Learnt κs a s f → r ≡ s
one-stopped-job κs a e f r s h k = h ∙ sym k

pub one-seated-job : (κs : Lfts 0) (a : _) (e f : _) (r s : Job) → seated-job.Learnt κs a r e → seated-job.Learnt κs a s f → r ≡ s
one-seated-job κs a e f r s h k = h ∙ sym k

pub one-part-left : (κs : Lfts 0) (a : _) (e f : _) (r s : Length) → part_left.Learnt κs a r e → part_left.Learnt κs a s f → r ≡ s
one-part-left κs a e f r s h k = h ∙ sym k

pub one-spent-by : (κs : Lfts 0) (a : _) (e f : _) (r s : Job) → spent-by.Learnt κs a r e → spent-by.Learnt κs a s f → r ≡ s
one-spent-by κs a e f r s h k = h ∙ sym k

pub one-use-for : (κs : Lfts 0) (a : _) (e f : _) (r s : Use) → use-for.Learnt κs a r e → use-for.Learnt κs a s f → r ≡ s
one-use-for κs a e f r s h k = h ∙ sym k

pub one-empty-slots : (κs : Lfts 0) (a : _) (e f : _) (r s : List Slot) → empty-slots.Learnt κs a r e → empty-slots.Learnt κs a s f → r ≡ s
one-empty-slots κs a e f r s h k = h ∙ sym k

-- bounds
pub one-string-lawful : (κs : Lfts 0) (a : _) (e f : _) (r s : Bool) → string-lawful.Learnt κs a r e → string-lawful.Learnt κs a s f → r ≡ s
one-string-lawful κs a e f r s h k = h ∙ sym k

pub one-multiple : (κs : Lfts 0) (a : _) (e f : _) (r s : ℕ) → multiple.Learnt κs a r e → multiple.Learnt κs a s f → r ≡ s
one-multiple κs a e f r s h k = h ∙ sym k

pub one-first-unlawful : (κs : Lfts 0) (a : _) (e f : _) (r s : Option ℕ) → first-unlawful.Learnt κs a r e → first-unlawful.Learnt κs a s f
    → r ≡ s
one-first-unlawful κs a e f r s h k = place-one _ r s h k

pub one-head-check : (κs : Lfts 0) (a : _) (e f : _) (r s : Checked) → head-check.Learnt κs a r e → head-check.Learnt κs a s f → r ≡ s
one-head-check κs a e f r s h k = h ∙ sym k

pub one-cost-check : (κs : Lfts 0) (a : _) (e f : _) (r s : Checked) → cost-check.Learnt κs a r e → cost-check.Learnt κs a s f → r ≡ s
one-cost-check κs a e f r s h k = h ∙ sym k

pub one-multiple-check : (κs : Lfts 0) (a : _) (e f : _) (r s : Checked) → multiple-check.Learnt κs a r e
    → multiple-check.Learnt κs a s f → r ≡ s
one-multiple-check κs a e f r s h k = h ∙ sym k

pub one-plan-check : (κs : Lfts 0) (a : _) (e f : _) (r s : Checked) → plan-check.Learnt κs a r e → plan-check.Learnt κs a s f → r ≡ s
one-plan-check κs a e f r s h k = h ∙ sym k

pub one-set-check : (κs : Lfts 0) (a : _) (e f : _) (r s : Checked) → set-check.Learnt κs a r e → set-check.Learnt κs a s f → r ≡ s
one-set-check κs a e f r s h k = h ∙ sym k

pub one-run-check : (κs : Lfts 0) (a : _) (e f : _) (r s : Checked) → run-check.Learnt κs a r e → run-check.Learnt κs a s f → r ≡ s
one-run-check κs a e f r s h k = h ∙ sym k

-- reading
-- of one text one refusal
refusal-one : (r s : Refusal) → ◌≡◌ {A = Result PlanFile Refusal} (Err r) (Err s) → r ≡ s
refusal-one r s h = cc

pub one-refused-reading : (κs : Lfts 1) (a : _) (e f : _) (r s : Refusal) → read.Learnt κs a (Err r) e → read.Learnt κs a (Err s) f
    → (r ≡ s) × (e.0.now ≡ f.0.now)
one-refused-reading κs a e f r s h k = (refusal-one r s (h.0 ∙ sym k.0), h.1 ∙ sym k.1)

pub one-read : (κs : Lfts 1) (a : _) (e f : _) (r s : Result PlanFile Refusal) → read.Learnt κs a r e → read.Learnt κs a s f
    → (r ≡ s) × (e.0.now ≡ f.0.now)
one-read κs a e f r s h k = (h.0 ∙ sym k.0, h.1 ∙ sym k.1)

pub one-read-01 : (κs : Lfts 1) (a : _) (e f : _) (r s : Result PlanFile Refusal) → read-01.Learnt κs a r e → read-01.Learnt κs a s f
    → (r ≡ s) × (e.0.now ≡ f.0.now)
one-read-01 κs a e f r s h k = (h.0 ∙ sym k.0, h.1 ∙ sym k.1)

pub one-read-02 : (κs : Lfts 1) (a : _) (e f : _) (r s : Result PlanFile Refusal) → read-02.Learnt κs a r e → read-02.Learnt κs a s f
    → (r ≡ s) × (e.0.now ≡ f.0.now)
one-read-02 κs a e f r s h k = (h.0 ∙ sym k.0, h.1 ∙ sym k.1)

-- layouts
pub one-held-to : (κs : Lfts 0) (a : _) (e f : _) (r s : Version) → held_to.Learnt κs a r e → held_to.Learnt κs a s f → r ≡ s
one-held-to κs a e f r s h k = version_one r s (h ∙ sym k)

pub one-Version-layouts : (κs : Lfts 0) (a : _) (e f : _) (r s : Layouts) → Version-layouts.Learnt κs a r e
    → Version-layouts.Learnt κs a s f → r ≡ s
one-Version-layouts κs a e f r s h k = h ∙ sym k

-- writing: the page is lent
pub one-room-check : (κs : Lfts 1) (a : _) (e f : _) (r s : Checked) → room-check.Learnt κs a r e → room-check.Learnt κs a s f
    → (r ≡ s) × (e.0.now ≡ f.0.now)
one-room-check κs a e f r s h k = (h.0 ∙ sym k.0, h.1 ∙ sym k.1)

pub one-write : (κs : Lfts 1) (a : _) (e f : _) (r s : Result ℕ Refusal) → write.Learnt κs a r e → write.Learnt κs a s f
    → (r ≡ s) × (e.1.1.0.now ≡ f.1.1.0.now)
one-write κs a e f r s h k = (h.0 ∙ sym k.0, h.1 ∙ sym k.1)

pub one-write-02 : (κs : Lfts 1) (a : _) (e f : _) (r s : Result ℕ Refusal) → write-02.Learnt κs a r e → write-02.Learnt κs a s f
    → (r ≡ s) × (e.1.1.0.now ≡ f.1.1.0.now)
one-write-02 κs a e f r s h k = (h.0 ∙ sym k.0, h.1 ∙ sym k.1)

pub one-write-01 : (κs : Lfts 1) (a : _) (e f : _) (r s : Result ℕ Refusal) → write-01.Learnt κs a r e → write-01.Learnt κs a s f
    → (r ≡ s) × (e.1.1.0.now ≡ f.1.1.0.now)
one-write-01 κs a e f r s h k = (h.0 ∙ sym k.0, h.1 ∙ sym k.1)

-- turning: the text and the page are lent
pub one-to-02 : (κs : Lfts 2) (a : _) (e f : _) (r s : Result ℕ Refusal) → to-02.Learnt κs a r e → to-02.Learnt κs a s f
    → (r ≡ s) × (e.1.0.now ≡ f.1.0.now) × (e.0.now ≡ f.0.now)
one-to-02 κs a e f r s h k = (h.0 ∙ sym k.0, h.1.0 ∙ sym k.1.0, h.1.1 ∙ sym k.1.1)

pub one-to-01 : (κs : Lfts 2) (a : _) (e f : _) (r s : Result ℕ Refusal) → to-01.Learnt κs a r e → to-01.Learnt κs a s f
    → (r ≡ s) × (e.1.0.now ≡ f.1.0.now) × (e.0.now ≡ f.0.now)
one-to-01 κs a e f r s h k = (h.0 ∙ sym k.0, h.1.0 ∙ sym k.1.0, h.1.1 ∙ sym k.1.1)

-- missed: the same are lent
pub one-miss : (κs : Lfts 2) (a : _) (e f : _) (r s : Result Missed Refusal) → miss.Learnt κs a r e → miss.Learnt κs a s f
    → (r ≡ s) × (e.1.0.now ≡ f.1.0.now) × (e.0.now ≡ f.0.now)
one-miss κs a e f r s h k = (h.0 ∙ sym k.0, h.1.0 ∙ sym k.1.0, h.1.1 ∙ sym k.1.1)

-- assigning: the same are lent
pub one-assign : (κs : Lfts 2) (a : _) (e f : _) (r s : Result (Option ℕ) Refusal) → assign.Learnt κs a r e → assign.Learnt κs a s f
    → (r ≡ s) × (e.1.0.now ≡ f.1.0.now) × (e.0.now ≡ f.0.now)
one-assign κs a e f r s h k = (h.0 ∙ sym k.0, h.1.0 ∙ sym k.1.0, h.1.1 ∙ sym k.1.1)

-- verdict
pub one-with-set : (κs : Lfts 0) (a : _) (e f : _) (r s : Plan) → with-set.Learnt κs a r e → with-set.Learnt κs a s f → r ≡ s
one-with-set κs a e f r s h k = h ∙ sym k

pub one-verdict : (κs : Lfts 0) (a : _) (e f : _) (r s : Result Verdict Refusal) → verdict.Learnt κs a r e → verdict.Learnt κs a s f → r ≡ s
one-verdict κs a e f r s h k = h ∙ sym k

pub one-verdict-with : (κs : Lfts 0) (a : _) (e f : _) (r s : Result Verdict Refusal) → verdict-with.Learnt κs a r e
    → verdict-with.Learnt κs a s f
    → r ≡ s
one-verdict-with κs a e f r s h k = h ∙ sym k

pub one-quick : (κs : Lfts 0) (a : _) (e f : _) (r s : Result Verdict Refusal) → quick.Learnt κs a r e → quick.Learnt κs a s f → r ≡ s
one-quick κs a e f r s h k = h ∙ sym k

pub one-quick-with : (κs : Lfts 0) (a : _) (e f : _) (r s : Result Verdict Refusal) → quick-with.Learnt κs a r e
    → quick-with.Learnt κs a s f → r ≡ s
one-quick-with κs a e f r s h k = h ∙ sym k

pub one-first-break : (κs : Lfts 0) (a : _) (e f : _) (r s : Result FirstBroken Refusal) → first-break.Learnt κs a r e
    → first-break.Learnt κs a s f
    → r ≡ s
one-first-break κs a e f r s h k = h ∙ sym k

pub one-breaks : (κs : Lfts 0) (a : _) (e f : _) (r s : Bool) → breaks.Learnt κs a r e → breaks.Learnt κs a s f → r ≡ s
one-breaks κs a e f r s h k = h ∙ sym k

pub one-search : (κs : Lfts 0) (a : _) (e f : _) (r s : Result Assign Refusal) → search-takers.Learnt κs a r e
    → search-takers.Learnt κs a s f → r ≡ s
one-search κs a e f r s h k = h ∙ sym k

pub one-figures : (κs : Lfts 0) (a : _) (e f : _) (r s : Result Figures Refusal) → figures.Learnt κs a r e → figures.Learnt κs a s f → r ≡ s
one-figures κs a e f r s h k = h ∙ sym k

-- run
pub one-run : (κs : Lfts 0) (a : _) (e f : _) (r s : Result Outcome Refusal) → run.Learnt κs a r e → run.Learnt κs a s f → r ≡ s
one-run κs a e f r s h k = h ∙ sym k

pub one-stints : (κs : Lfts 1) (a : _) (e f : _) (r s : Result ℕ Refusal) → stints.Learnt κs a r e → stints.Learnt κs a s f
    → (r ≡ s) × (e.1.1.0.now ≡ f.1.1.0.now)
one-stints κs a e f r s h k = (h.0 ∙ sym k.0, h.1 ∙ sym k.1)

pub one-stint-at : (κs : Lfts 1) (a : _) (e f : _) (r s : Stint) → stint-at.Learnt κs a r e → stint-at.Learnt κs a s f
    → (r ≡ s) × (e.0.now ≡ f.0.now)
one-stint-at κs a e f r s h k = (h.0 ∙ sym k.0, h.1 ∙ sym k.1)

-- tries
pub one-releases-that-miss : (κs : Lfts 0) (a : _) (e f : _) (r s : Result Missing Refusal) → releases-that-miss.Learnt κs a r e
    → releases-that-miss.Learnt κs a s f → r ≡ s
one-releases-that-miss κs a e f r s h k = h ∙ sym k

-- lines
pub one_written : (κs : Lfts 0) (a : _) (e f : _) (r s : Page) → written.Learnt κs a r e → written.Learnt κs a s f → r ≡ s
one_written κs a e f r s h k = h ∙ sym k

pub one-verdict-written : (κs : Lfts 0) (a : _) (e f : _) (r s : Page) → verdict-written.Learnt κs a r e → verdict-written.Learnt κs a s f
    → r ≡ s
one-verdict-written κs a e f r s h k = h ∙ sym k

pub one-run-written : (κs : Lfts 0) (a : _) (e f : _) (r s : Page) → run-written.Learnt κs a r e → run-written.Learnt κs a s f → r ≡ s
one-run-written κs a e f r s h k = h ∙ sym k

pub one-date-line : (κs : Lfts 1) (a : _) (e f : _) (r s : Page) → date-line.Learnt κs a r e → date-line.Learnt κs a s f
    → (r ≡ s) × (e.0.now ≡ f.0.now)
one-date-line κs a e f r s h k = (h.0 ∙ sym k.0, h.1 ∙ sym k.1)

pub one-day-line : (κs : Lfts 0) (a : _) (e f : _) (r s : Page) → day-line.Learnt κs a r e → day-line.Learnt κs a s f → r ≡ s
one-day-line κs a e f r s h k = h ∙ sym k

pub one-blank : (κs : Lfts 0) (a : _) (e f : _) (r s : Page) → blank.Learnt κs a r e → blank.Learnt κs a s f → r ≡ s
one-blank κs a e f r s h k = h.0 ∙ sym k.0

pub one-put-text : (κs : Lfts 2) (a : _) (e f : _) (r s : ℕ) → put-text.Learnt κs a r e → put-text.Learnt κs a s f
    → (r ≡ s) × (e.1.0.now ≡ f.1.0.now) × (e.0.now ≡ f.0.now)
one-put-text κs a e f r s h k = (h.0 ∙ sym k.0, h.1.0 ∙ sym k.1.0, h.1.1 ∙ sym k.1.1)

pub one-row-line : (κs : Lfts 0) (a : _) (e f : _) (r s : Page) → row_line.Learnt κs a r e → row_line.Learnt κs a s f → r ≡ s
one-row-line κs a e f r s h k = h ∙ sym k

pub one-plan-line : (κs : Lfts 0) (a : _) (e f : _) (r s : Page) → plan-line.Learnt κs a r e → plan-line.Learnt κs a s f → r ≡ s
one-plan-line κs a e f r s h k = h ∙ sym k

pub one-string-line : (κs : Lfts 0) (a : _) (e f : _) (r s : Page) → string-line.Learnt κs a r e → string-line.Learnt κs a s f → r ≡ s
one-string-line κs a e f r s h k = h ∙ sym k

pub one-set-line : (κs : Lfts 0) (a : _) (e f : _) (r s : Page) → set_line.Learnt κs a r e → set_line.Learnt κs a s f → r ≡ s
one-set-line κs a e f r s h k = h ∙ sym k

pub one-day-row : (κs : Lfts 0) (a : _) (e f : _) (r s : Page) → day-row.Learnt κs a r e → day-row.Learnt κs a s f → r ≡ s
one-day-row κs a e f r s h k = h ∙ sym k

pub one-bar-row : (κs : Lfts 0) (a : _) (e f : _) (r s : Page) → bar-row.Learnt κs a r e → bar-row.Learnt κs a s f → r ≡ s
one-bar-row κs a e f r s h k = h ∙ sym k

pub one-marks-line : (κs : Lfts 0) (a : _) (e f : _) (r s : Page) → marks-line.Learnt κs a r e → marks-line.Learnt κs a s f → r ≡ s
one-marks-line κs a e f r s h k = h ∙ sym k

pub one-idle-line : (κs : Lfts 0) (a : _) (e f : _) (r s : Page) → idle-line.Learnt κs a r e → idle-line.Learnt κs a s f → r ≡ s
one-idle-line κs a e f r s h k = h ∙ sym k

pub one-cut-line : (κs : Lfts 0) (a : _) (e f : _) (r s : Page) → cut-line.Learnt κs a r e → cut-line.Learnt κs a s f → r ≡ s
one-cut-line κs a e f r s h k = h ∙ sym k

pub one-stint-line : (κs : Lfts 0) (a : _) (e f : _) (r s : Page) → stint-line.Learnt κs a r e → stint-line.Learnt κs a s f → r ≡ s
one-stint-line κs a e f r s h k = h ∙ sym k

pub one-load-line : (κs : Lfts 0) (a : _) (e f : _) (r s : Page) → load-line.Learnt κs a r e → load-line.Learnt κs a s f → r ≡ s
one-load-line κs a e f r s h k = h ∙ sym k

pub one-release-line : (κs : Lfts 0) (a : _) (e f : _) (r s : Page) → release-line.Learnt κs a r e → release-line.Learnt κs a s f → r ≡ s
one-release-line κs a e f r s h k = h ∙ sym k

pub one-same-line : (κs : Lfts 0) (a : _) (e f : _) (r s : Page) → same_line.Learnt κs a r e → same_line.Learnt κs a s f → r ≡ s
one-same-line κs a e f r s h k = h ∙ sym k

pub one-alone-line : (κs : Lfts 0) (a : _) (e f : _) (r s : Page) → alone-line.Learnt κs a r e → alone-line.Learnt κs a s f → r ≡ s
one-alone-line κs a e f r s h k = h ∙ sym k

pub one-counts-line : (κs : Lfts 0) (a : _) (e f : _) (r s : Page) → counts-line.Learnt κs a r e → counts-line.Learnt κs a s f → r ≡ s
one-counts-line κs a e f r s h k = h ∙ sym k

-- matching
pub one-same-strings : (κs : Lfts 0) (a : _) (e f : _) (r s : Matched) → same-strings.Learnt κs a r e → same-strings.Learnt κs a s f → r ≡ s
one-same-strings κs a e f r s h k = h ∙ sym k

pub one-matched-line : (κs : Lfts 0) (a : _) (e f : _) (r s : Page) → matched-line.Learnt κs a r e → matched-line.Learnt κs a s f → r ≡ s
one-matched-line κs a e f r s h k = h ∙ sym k

-- showing
pub one-plan-shown : (κs : Lfts 0) (a : _) (e f : _) (r s : Page) → plan-shown.Learnt κs a r e → plan-shown.Learnt κs a s f → r ≡ s
one-plan-shown κs a e f r s h k = h ∙ sym k

pub one-string-shown : (κs : Lfts 0) (a : _) (e f : _) (r s : Page) → string-shown.Learnt κs a r e → string-shown.Learnt κs a s f → r ≡ s
one-string-shown κs a e f r s h k = h ∙ sym k

pub one-limits-line : (κs : Lfts 0) (a : _) (e f : _) (r s : Page) → limits-line.Learnt κs a r e → limits-line.Learnt κs a s f → r ≡ s
one-limits-line κs a e f r s h k = h ∙ sym k

pub one-limit-at : (κs : Lfts 0) (a : _) (e f : _) (r s : Result Limit Refusal) → limit-at.Learnt κs a r e → limit-at.Learnt κs a s f → r
    ≡ s
one-limit-at κs a e f r s h k = h ∙ sym k

pub one-limits-shown : (κs : Lfts 0) (a : _) (e f : _) (r s : Page) → limits-shown.Learnt κs a r e → limits-shown.Learnt κs a s f → r ≡ s
one-limits-shown κs a e f r s h k = h ∙ sym k

pub one-set-shown : (κs : Lfts 0) (a : _) (e f : _) (r s : Page) → set-shown.Learnt κs a r e → set-shown.Learnt κs a s f → r ≡ s
one-set-shown κs a e f r s h k = h ∙ sym k

pub one-head-shown : (κs : Lfts 0) (a : _) (e f : _) (r s : Page) → head-shown.Learnt κs a r e → head-shown.Learnt κs a s f → r ≡ s
one-head-shown κs a e f r s h k = h ∙ sym k

pub one-row-shown : (κs : Lfts 0) (a : _) (e f : _) (r s : Page) → row-shown.Learnt κs a r e → row-shown.Learnt κs a s f → r ≡ s
one-row-shown κs a e f r s h k = h ∙ sym k

pub one-idle-shown : (κs : Lfts 0) (a : _) (e f : _) (r s : Page) → idle-shown.Learnt κs a r e → idle-shown.Learnt κs a s f → r ≡ s
one-idle-shown κs a e f r s h k = h ∙ sym k

pub one-cut-shown : (κs : Lfts 0) (a : _) (e f : _) (r s : Page) → cut-shown.Learnt κs a r e → cut-shown.Learnt κs a s f → r ≡ s
one-cut-shown κs a e f r s h k = h ∙ sym k

pub one-load-shown : (κs : Lfts 0) (a : _) (e f : _) (r s : Page) → load-shown.Learnt κs a r e → load-shown.Learnt κs a s f → r ≡ s
one-load-shown κs a e f r s h k = h ∙ sym k

pub one-release-shown : (κs : Lfts 0) (a : _) (e f : _) (r s : Page) → release-shown.Learnt κs a r e → release-shown.Learnt κs a s f → r ≡ s
one-release-shown κs a e f r s h k = h ∙ sym k

-- a refusal by name
pub one-reason-line : (κs : Lfts 0) (a : _) (e f : _) (r s : Page) → reason-line.Learnt κs a r e → reason-line.Learnt κs a s f → r ≡ s
one-reason-line κs a e f r s h k = h ∙ sym k

pub one-refusal-line : (κs : Lfts 1) (a : _) (e f : _) (r s : Page) → refusal-line.Learnt κs a r e → refusal-line.Learnt κs a s f
    → (r ≡ s) × (e.0.now ≡ f.0.now)
one-refusal-line κs a e f r s h k = (h.0 ∙ sym k.0, h.1 ∙ sym k.1)

-- lines of a verdict explained, and why
pub one-named : (κs : Lfts 0) (a : _) (e f : _) (r s : Result Subject Refusal) → named.Learnt κs a r e → named.Learnt κs a s f → r ≡ s
one-named κs a e f r s h k = h ∙ sym k

pub one-last-interval : (κs : Lfts 0) (a : _) (e f : _) (r s : ℕ) → last-interval.Learnt κs a r e → last-interval.Learnt κs a s f → r ≡ s
one-last-interval κs a e f r s h k = h ∙ sym k

pub one-blocker-shown : (κs : Lfts 0) (a : _) (e f : _) (r s : Page) → blocker-shown.Learnt κs a r e → blocker-shown.Learnt κs a s f → r ≡ s
one-blocker-shown κs a e f r s h k = h ∙ sym k

pub one-share-shown : (κs : Lfts 0) (a : _) (e f : _) (r s : Page) → share-shown.Learnt κs a r e → share-shown.Learnt κs a s f → r ≡ s
one-share-shown κs a e f r s h k = h ∙ sym k

pub one-demand-shown : (κs : Lfts 0) (a : _) (e f : _) (r s : Page) → demand-shown.Learnt κs a r e → demand-shown.Learnt κs a s f → r ≡ s
one-demand-shown κs a e f r s h k = h ∙ sym k

pub one-stair-shown : (κs : Lfts 0) (a : _) (e f : _) (r s : Page) → stair-shown.Learnt κs a r e → stair-shown.Learnt κs a s f → r ≡ s
one-stair-shown κs a e f r s h k = h ∙ sym k

pub one-stretch-shown : (κs : Lfts 0) (a : _) (e f : _) (r s : Page) → stretch-shown.Learnt κs a r e → stretch-shown.Learnt κs a s f → r ≡ s
one-stretch-shown κs a e f r s h k = h ∙ sym k

pub one-nowhere-shown : (κs : Lfts 0) (a : _) (e f : _) (r s : Page) → nowhere-shown.Learnt κs a r e → nowhere-shown.Learnt κs a s f → r ≡ s
one-nowhere-shown κs a e f r s h k = h ∙ sym k

pub one-pair-line : (κs : Lfts 0) (a : _) (e f : _) (r s : Page) → pair_line.Learnt κs a r e → pair_line.Learnt κs a s f → r ≡ s
one-pair-line κs a e f r s h k = h ∙ sym k

pub one-blocker-line : (κs : Lfts 0) (a : _) (e f : _) (r s : Page) → blocker-line.Learnt κs a r e → blocker-line.Learnt κs a s f → r ≡ s
one-blocker-line κs a e f r s h k = h ∙ sym k

pub one-blocking-line : (κs : Lfts 0) (a : _) (e f : _) (r s : Page) → blocking-line.Learnt κs a r e → blocking-line.Learnt κs a s f → r ≡ s
one-blocking-line κs a e f r s h k = h ∙ sym k

pub one-share-line : (κs : Lfts 0) (a : _) (e f : _) (r s : Page) → share-line.Learnt κs a r e → share-line.Learnt κs a s f → r ≡ s
one-share-line κs a e f r s h k = h ∙ sym k

pub one-demand-line : (κs : Lfts 0) (a : _) (e f : _) (r s : Page) → demand-line.Learnt κs a r e → demand-line.Learnt κs a s f → r ≡ s
one-demand-line κs a e f r s h k = h ∙ sym k

pub one-multiple-line : (κs : Lfts 0) (a : _) (e f : _) (r s : Page) → multiple-line.Learnt κs a r e → multiple-line.Learnt κs a s f → r ≡ s
one-multiple-line κs a e f r s h k = h ∙ sym k

pub one-over-line : (κs : Lfts 0) (a : _) (e f : _) (r s : Page) → over-line.Learnt κs a r e → over-line.Learnt κs a s f → r ≡ s
one-over-line κs a e f r s h k = h ∙ sym k

pub one-stair-line : (κs : Lfts 0) (a : _) (e f : _) (r s : Page) → stair-line.Learnt κs a r e → stair-line.Learnt κs a s f → r ≡ s
one-stair-line κs a e f r s h k = h ∙ sym k

pub one-stretch-line : (κs : Lfts 0) (a : _) (e f : _) (r s : Page) → stretch-line.Learnt κs a r e → stretch-line.Learnt κs a s f → r ≡ s
one-stretch-line κs a e f r s h k = h ∙ sym k

pub one-nowhere-line : (κs : Lfts 0) (a : _) (e f : _) (r s : Page) → nowhere-line.Learnt κs a r e → nowhere-line.Learnt κs a s f → r ≡ s
one-nowhere-line κs a e f r s h k = h ∙ sym k

-- answers
pub one_answer : (κs : Lfts 1) (a : _) (e f : _) (r s : Result Answers Refusal) → answer.Learnt κs a r e → answer.Learnt κs a s f
    → (r ≡ s) × (e.0.now ≡ f.0.now)
one_answer κs a e f r s h k = (h.0 ∙ sym k.0, h.1 ∙ sym k.1)

-- register: a reader holds on to the text that it was given. What the kit learns of a contract it does not learn of functions over a struct
-- that holds a reference, so the clauses of these three are written out (register/src/reader.rt)
same-export : (r s : Export) → r.text ≡ s.text → r.at ≡ s.at → r ≡ s
same-export r s text at = rw (text, at)

module _ (text : Bor (List ℕ)) (at : ℕ) where
  -- `moved` has the same clauses, of the text that the reader before it holds
  pub one-opened : (r s : Export) → (r.text ≡ text) × (r.at ≡ at) → (s.text ≡ text) × (s.at ≡ at) → r ≡ s
  one-opened r s h k = same-export r s (h.0 ∙ sym k.0) (h.1 ∙ sym k.1)

  pub one-row-here : (r s : Row) → r ≡ row_at text.now at → s ≡ row_at text.now at → r ≡ s
  one-row-here r s h k = h ∙ sym k

pub one-moved : (reader : Export) (at : ℕ) (r s : Export) → (r.text ≡ reader.text) × (r.at ≡ at)
    → (s.text ≡ reader.text) × (s.at ≡ at) → r ≡ s
one-moved reader at r s h k = one-opened reader.text at r s h k

pub one-register : (κs : Lfts 1) (a : _) (e f : _) (r s : Result PlanFile Refusal) → register.Learnt κs a r e → register.Learnt κs a s f
    → (r ≡ s) × (e.0.now ≡ f.0.now)
one-register κs a e f r s h k = (h.0 ∙ sym k.0, h.1 ∙ sym k.1)

pub one_table : (κs : Lfts 1) (a : _) (e f : _) (r s : Result ℕ Refusal) → table.Learnt κs a r e → table.Learnt κs a s f
    → (r ≡ s) × (e.1.1.0.now ≡ f.1.1.0.now)
one_table κs a e f r s h k = (h.0 ∙ sym k.0, h.1 ∙ sym k.1)

-- the board
pub one-used-line : (κs : Lfts 0) (a : _) (e f : _) (r s : Page) → used-line.Learnt κs a r e → used-line.Learnt κs a s f → r ≡ s
one-used-line κs a e f r s h k = h ∙ sym k

pub one-missed-line : (κs : Lfts 0) (a : _) (e f : _) (r s : Page) → missed-line.Learnt κs a r e → missed-line.Learnt κs a s f → r ≡ s
one-missed-line κs a e f r s h k = h ∙ sym k

pub one-number-line : (κs : Lfts 0) (a : _) (e f : _) (r s : Page) → number-line.Learnt κs a r e → number-line.Learnt κs a s f → r ≡ s
one-number-line κs a e f r s h k = h ∙ sym k

pub one-visit-line : (κs : Lfts 0) (a : _) (e f : _) (r s : Page) → visit-line.Learnt κs a r e → visit-line.Learnt κs a s f → r ≡ s
one-visit-line κs a e f r s h k = h ∙ sym k

pub one-three-at : (κs : Lfts 1) (a : _) (e f : _) (r s : LineRead (List ℕ)) → three-at.Learnt κs a r e → three-at.Learnt κs a s f
    → (r ≡ s) × (e.0.now ≡ f.0.now)
one-three-at κs a e f r s h k = (h.0 ∙ sym k.0, h.1 ∙ sym k.1)

-- visits
pub one-check-visits : (κs : Lfts 1) (a : _) (e f : _) (r s : Checked) → check-visits.Learnt κs a r e → check-visits.Learnt κs a s f
    → (r ≡ s) × (e.1.1.0.now ≡ f.1.1.0.now)
one-check-visits κs a e f r s h k = (h.0 ∙ sym k.0, h.1 ∙ sym k.1)

pub one-own-visits : (κs : Lfts 0) (a : _) (e f : _) (r s : Result OwnVisits Refusal) → own-visits.Learnt κs a r e
    → own-visits.Learnt κs a s f → r ≡ s
one-own-visits κs a e f r s h k = h ∙ sym k

pub one-check-visit-text : (κs : Lfts 1) (a : _) (e f : _) (r s : Checked) → check-visit-text.Learnt κs a r e
    → check-visit-text.Learnt κs a s f → (r ≡ s) × (e.1.1.0.now ≡ f.1.1.0.now)
one-check-visit-text κs a e f r s h k = (h.0 ∙ sym k.0, h.1 ∙ sym k.1)

pub one-check-visit-files : (κs : Lfts 2) (a : _) (e f : _) (r s : Checked) → check-visit-files.Learnt κs a r e
    → check-visit-files.Learnt κs a s f → (r ≡ s) × (e.0.now ≡ f.0.now) × (e.1.0.now ≡ f.1.0.now)
one-check-visit-files κs a e f r s h k = (h.0 ∙ sym k.0, h.1.0 ∙ sym k.1.0, h.1.1 ∙ sym k.1.1)

pub one-input-read : (κs : Lfts 1) (a : _) (e f : _) (r s : Result CrewInput Refusal) → input-read.Learnt κs a r e
    → input-read.Learnt κs a s f
    → (r ≡ s) × (e.0.now ≡ f.0.now)
one-input-read κs a e f r s h k = (h.0 ∙ sym k.0, h.1 ∙ sym k.1)

pub one-board-read : (κs : Lfts 3) (a : _) (e f : _) (r s : Result Board Refusal) → board-read.Learnt κs a r e → board-read.Learnt κs a s f
    → (r ≡ s) × (e.1.1.0.now ≡ f.1.1.0.now) × (e.0.now ≡ f.0.now) × (e.1.0.now ≡ f.1.0.now)
one-board-read κs a e f r s h k =
    (h.0 ∙ sym k.0, h.1.0 ∙ sym k.1.0, h.1.1.0 ∙ sym k.1.1.0, h.1.1.1 ∙ sym k.1.1.1)

pub one-board-page : (κs : Lfts 2) (a : _) (e f : _) (r s : Filled) → board-page.Learnt κs a r e → board-page.Learnt κs a s f
    → (r ≡ s) × (e.1.1.1.0.now ≡ f.1.1.1.0.now) × (e.1.0.now ≡ f.1.0.now)
one-board-page κs a e f r s h k = (h.0 ∙ sym k.0, h.1.0 ∙ sym k.1.0, h.1.1 ∙ sym k.1.1)

pub one-board-end : (κs : Lfts 1) (a : _) (e f : _) (r s : ℕ) → board-end.Learnt κs a r e → board-end.Learnt κs a s f
    → (r ≡ s) × (e.1.0.now ≡ f.1.0.now)
one-board-end κs a e f r s h k = (h.0 ∙ sym k.0, h.1 ∙ sym k.1)

-- doors: a status is a number, and of two ends no two have one rank
same-status : (r s : ExitCode) → r.status ≡ s.status → r ≡ s
same-status r s h = rw h

pub one-status : (κs : Lfts 0) (a : _) (e f : _) (r s : ExitCode) → status.Learnt κs a r e → status.Learnt κs a s f → r ≡ s
one-status κs a e f r s h k = same-status r s (h ∙ sym k)

end_of : ℕ → Result (Unit {0}) Stop
end_of k =
    cond (eqb k 0) (Ok tt) (cond (eqb k 1) (Err Refused) (cond (eqb k 2) (Err Failed) (cond (eqb k 3) (Err Unwritten) (Err Gone))))

ranked : (r : Result (Unit {0}) Stop) → end_of (rank_of r) ≡ r
unfolding end_of
ranked (Ok _) = refl
ranked (Err Refused) = refl
ranked (Err Failed) = refl
ranked (Err Unwritten) = refl
ranked (Err Gone) = refl

pub one-worse : (κs : Lfts 0) (a : _) (e f : _) (r s : Result (Unit {0}) Stop) → worse.Learnt κs a r e → worse.Learnt κs a s f → r ≡ s
one-worse κs a e f r s h k = sym (ranked r) ∙ ap end_of (h ∙ sym k) ∙ ranked s

pub one-complain : (κs : Lfts 5) (a : _) (e f : _) (r s : Stop) → complain.Learnt κs a r e → complain.Learnt κs a s f
    → (r ≡ s) × (e.1.0.now ≡ f.1.0.now) × (e.1.1.0.now ≡ f.1.1.0.now) × (e.1.1.1.0.now ≡ f.1.1.1.0.now)
    × (e.1.1.1.1.0.now ≡ f.1.1.1.1.0.now)
one-complain κs a e f r s h k = (h.0 ∙ sym k.0, h.1.0 ∙ sym k.1.0, h.1.1 ∙ sym k.1.1, h.1.2 ∙ sym k.1.2, h.1.3 ∙ sym k.1.3)

pub one-unread : (κs : Lfts 4) (a : _) (e f : _) (r s : Stop) → unread.Learnt κs a r e → unread.Learnt κs a s f
    → (r ≡ s) × (e.1.0.now ≡ f.1.0.now) × (e.1.1.0.now ≡ f.1.1.0.now)
one-unread κs a e f r s h k = (h.0 ∙ sym k.0, h.1.0 ∙ sym k.1.0, h.1.1 ∙ sym k.1.1)

-- doors, what lies outside. Of a reader R whose bytes xs are known two counts are one, and so are the bytes that came and those that are
-- left; whether a read fails is the reader's
pub one-fill : (R : RattleType) (L : Laws R) (G : Ghosts R.Denot) (d : _) (κs : Lfts 3) (a : _) (e f : _) (n m : ℕ) (xs : List ℕ)
    → fill.Learnt R L G d κs a (Ok n) e → fill.Learnt R L G d κs a (Ok m) f → G.remaining a.0.now ≡ Some xs
    → (n ≡ m) × (take n e.1.0.now ≡ take m f.1.0.now) × (G.remaining e.0.now ≡ G.remaining f.0.now)
one-fill R L G d κs a e f n m xs h k known =
    part-one n m e.1.0.now f.1.0.now xs (G.remaining e.0.now) (G.remaining f.0.now) (h.1.1.1.0 ∙ sym k.1.1.1.0) h.0 k.0
    (subst (λ o. Consumes o (G.remaining e.0.now) (take n e.1.0.now)) known h.1.0)
    (subst (λ o. Consumes o (G.remaining f.0.now) (take m f.1.0.now)) known k.1.0) h.1.1.0 k.1.1.0

-- of a name that is no text two answers are errors of one kind; what a file holds, and whether it can be read, is the system's. The name
-- is one, and so is the length of the room
pub one-fill-by : (κs : Lfts 3) (a : _) (e f : _) (r s : Result ℕ Error) → fill-by.Learnt κs a r e → fill-by.Learnt κs a s f
    → ((IsUtf8 a.1.0.now → ⊥) → (error_said r ≡ Some ErrorKind.InvalidFilename) × (error_said s ≡ Some ErrorKind.InvalidFilename))
    × (e.1.0.now ≡ f.1.0.now) × (length e.1.1.0.now ≡ length f.1.1.0.now)
one-fill-by κs a e f r s h k =
    (λ no. (unnamed-kind r (h.1.0 no), unnamed-kind s (k.1.0 no)), h.1.1.1 ∙ sym k.1.1.1, h.1.1.0 ∙ sym k.1.1.0)

-- two writes that both went through, or neither, have one status; the text is one
pub one-doors-write : (κs : Lfts 2) (a : _) (e f : _) (r s : Result (Unit {0}) Stop) → doors-write.Learnt κs a r e
    → doors-write.Learnt κs a s f → (is_ok r ≡ is_ok s → status_of r ≡ status_of s) × (e.1.0.now ≡ f.1.0.now)
one-doors-write κs a e f r s h k =
    (λ same. written-status r h.0 ∙ ap (λ b. cond b 0 2) same ∙ sym (written-status s k.0), h.1 ∙ sym k.1)

-- what a program is started with is the system's: the runtime that is lent is one. It has no content, so that these two say nothing of the
-- results; they stand so that each public function has its line
pub one-asked-for-status : (κs : Lfts 1) (a : _) (e f : _) (r s : Bool) → asked-for-status.Learnt κs a r e
    → asked-for-status.Learnt κs a s f → e.0.now ≡ f.0.now
one-asked-for-status κs a e f r s h k = h ∙ sym k

pub one-word-count : (κs : Lfts 1) (a : _) (e f : _) (r s : ℕ) → word-count.Learnt κs a r e → word-count.Learnt κs a s f
    → e.0.now ≡ f.0.now
one-word-count κs a e f r s h k = h ∙ sym k

-- entries: what is read and what is written to is lent
pub one-desk-check : (κs : Lfts 2) (a : _) (e f : _) (r s : ℕ) → desk-check.Learnt κs a r e → desk-check.Learnt κs a s f
    → (r ≡ s) × (e.1.0.now ≡ f.1.0.now) × (e.0.now ≡ f.0.now)
one-desk-check κs a e f r s h k = (h.0 ∙ sym k.0, h.1.0 ∙ sym k.1.0, h.1.1 ∙ sym k.1.1)

pub one-desk-multiple : (κs : Lfts 1) (a : _) (e f : _) (r s : ℕ) → desk-multiple.Learnt κs a r e → desk-multiple.Learnt κs a s f
    → (r ≡ s) × (e.0.now ≡ f.0.now)
one-desk-multiple κs a e f r s h k = (h.0 ∙ sym k.0, h.1 ∙ sym k.1)

pub one-desk-verdict : (κs : Lfts 2) (a : _) (e f : _) (r s : ℕ) → desk-verdict.Learnt κs a r e → desk-verdict.Learnt κs a s f
    → (r ≡ s) × (e.1.0.now ≡ f.1.0.now) × (e.0.now ≡ f.0.now)
one-desk-verdict κs a e f r s h k = (h.0 ∙ sym k.0, h.1.0 ∙ sym k.1.0, h.1.1 ∙ sym k.1.1)

pub one-desk-verdict-with : (κs : Lfts 2) (a : _) (e f : _) (r s : ℕ) → desk-verdict-with.Learnt κs a r e
    → desk-verdict-with.Learnt κs a s f
    → (r ≡ s) × (e.1.1.0.now ≡ f.1.1.0.now) × (e.0.now ≡ f.0.now)
one-desk-verdict-with κs a e f r s h k = (h.0 ∙ sym k.0, h.1.0 ∙ sym k.1.0, h.1.1 ∙ sym k.1.1)

pub one-desk-quick : (κs : Lfts 2) (a : _) (e f : _) (r s : ℕ) → desk-quick.Learnt κs a r e → desk-quick.Learnt κs a s f
    → (r ≡ s) × (e.1.0.now ≡ f.1.0.now) × (e.0.now ≡ f.0.now)
one-desk-quick κs a e f r s h k = (h.0 ∙ sym k.0, h.1.0 ∙ sym k.1.0, h.1.1 ∙ sym k.1.1)

pub one-desk-limit : (κs : Lfts 2) (a : _) (e f : _) (r s : ℕ) → desk-limit.Learnt κs a r e → desk-limit.Learnt κs a s f
    → (r ≡ s) × (e.1.1.1.0.now ≡ f.1.1.1.0.now) × (e.0.now ≡ f.0.now)
one-desk-limit κs a e f r s h k = (h.0 ∙ sym k.0, h.1.0 ∙ sym k.1.0, h.1.1 ∙ sym k.1.1)

pub one-desk-search : (κs : Lfts 2) (a : _) (e f : _) (r s : ℕ) → desk-search.Learnt κs a r e → desk-search.Learnt κs a s f
    → (r ≡ s) × (e.1.0.now ≡ f.1.0.now) × (e.0.now ≡ f.0.now)
one-desk-search κs a e f r s h k = (h.0 ∙ sym k.0, h.1.0 ∙ sym k.1.0, h.1.1 ∙ sym k.1.1)

pub one-desk-can-miss : (κs : Lfts 2) (a : _) (e f : _) (r s : ℕ) → desk-can-miss.Learnt κs a r e → desk-can-miss.Learnt κs a s f
    → (r ≡ s) × (e.1.0.now ≡ f.1.0.now) × (e.0.now ≡ f.0.now)
one-desk-can-miss κs a e f r s h k = (h.0 ∙ sym k.0, h.1.0 ∙ sym k.1.0, h.1.1 ∙ sym k.1.1)

pub one-desk-run : (κs : Lfts 3) (a : _) (e f : _) (r s : ℕ) → desk-run.Learnt κs a r e → desk-run.Learnt κs a s f
    → (r ≡ s) × (e.1.1.0.now ≡ f.1.1.0.now) × (e.0.now ≡ f.0.now) × (e.1.0.now ≡ f.1.0.now)
one-desk-run κs a e f r s h k = (h.0 ∙ sym k.0, h.1.0 ∙ sym k.1.0, h.1.1.0 ∙ sym k.1.1.0, h.1.1.1 ∙ sym k.1.1.1)

pub one-desk-check-visits : (κs : Lfts 4) (a : _) (e f : _) (r s : ℕ) → desk-check-visits.Learnt κs a r e
    → desk-check-visits.Learnt κs a s f
    → (r ≡ s) × (e.1.1.1.0.now ≡ f.1.1.1.0.now) × (e.0.now ≡ f.0.now) × (e.1.0.now ≡ f.1.0.now)
    × (e.1.1.0.now ≡ f.1.1.0.now)
one-desk-check-visits κs a e f r s h k = (
  h.0 ∙ sym k.0,
  h.1.0 ∙ sym k.1.0,
  h.1.1.0 ∙ sym k.1.1.0,
  h.1.1.1.0 ∙ sym k.1.1.1.0,
  h.1.1.1.1 ∙ sym k.1.1.1.1,
)

pub one-desk-stints : (κs : Lfts 4) (a : _) (e f : _) (r s : ℕ) → desk-stints.Learnt κs a r e → desk-stints.Learnt κs a s f
    → (r ≡ s) × (e.1.1.1.0.now ≡ f.1.1.1.0.now) × (e.1.1.0.now ≡ f.1.1.0.now) × (e.0.now ≡ f.0.now)
    × (e.1.0.now ≡ f.1.0.now)
one-desk-stints κs a e f r s h k = (
  h.0 ∙ sym k.0,
  h.1.0 ∙ sym k.1.0,
  h.1.1.0 ∙ sym k.1.1.0,
  h.1.1.1.0 ∙ sym k.1.1.1.0,
  h.1.1.1.1 ∙ sym k.1.1.1.1,
)

pub one-desk-answer : (κs : Lfts 2) (a : _) (e f : _) (r s : ℕ) → desk-answer.Learnt κs a r e → desk-answer.Learnt κs a s f
    → (r ≡ s) × (e.1.0.now ≡ f.1.0.now) × (e.0.now ≡ f.0.now)
one-desk-answer κs a e f r s h k = (h.0 ∙ sym k.0, h.1.0 ∙ sym k.1.0, h.1.1.0 ∙ sym k.1.1.0)

pub one-desk-date : (κs : Lfts 1) (a : _) (e f : _) (r s : ℕ) → desk-date.Learnt κs a r e → desk-date.Learnt κs a s f
    → (r ≡ s) × (e.1.0.now ≡ f.1.0.now)
one-desk-date κs a e f r s h k = (h.0 ∙ sym k.0, h.1 ∙ sym k.1)

pub one-desk-day : (κs : Lfts 1) (a : _) (e f : _) (r s : ℕ) → desk-day.Learnt κs a r e → desk-day.Learnt κs a s f
    → (r ≡ s) × (e.1.1.1.0.now ≡ f.1.1.1.0.now)
one-desk-day κs a e f r s h k = (h.0 ∙ sym k.0, h.1 ∙ sym k.1)
