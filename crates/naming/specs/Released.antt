-- Refusal 8, by name: the first rule that the release breaks, in the order of document 01 and then of document 02, W-213: its place, its
-- need, N, the day of the release ahead, its due day, its late days, and last the distance to the release of the same string.
--     day_of_ahead v lines n k       the day of the release on the line ahead of line k, in a plan of n strings; 0 where none is ahead
--     last_line v lines n k i     the last release line ahead of line k whose place is i; 0 where there is none
--     release_reason v lines k    of line k
use Rattle.std.specs.Prelude.{ℕ, suc, ◌+◌, ◌-◌, cond, not, ◌&&◌, List, ltb, leb, eqb}
use Rattle.faults.specs.Checks.{in_bounds}
use Rattle.base.specs.Divisors.{greatest_to}
use Rattle.rules.specs.declared.BatteryString.{BatteryString}
use Rattle.rules.specs.Layout.{Version, Place, Day, Need, release_frame}
use Rattle.rules.specs.Text.{Line, field_of, n_in, run_in, string_of, due_in}
use Rattle.lines.specs.declared.reasons.Reason.{Reason}
use Rattle.lines.specs.declared.reasons.Reason.TheVariants.{PlaceOut, NeedOut, AfterRun, OutOfOrder, BeforeDue, TooLate, TooClose}
use Rattle.naming.specs.Lines.{line_no}

unfoldable pub day_of_ahead : Version → List Line → ℕ → ℕ → ℕ
day_of_ahead v lines n k = cond (leb k (n + 2)) 0 (field_of (release_frame v) Day (line_no lines (k - 1)))

unfoldable pub last_line : Version → List Line → ℕ → ℕ → ℕ → ℕ
last_line v lines n k i =
    greatest_to (λ j. leb (n + 2) j && eqb (field_of (release_frame v) Place (line_no lines j)) i) (k - 1)

-- its day t and its due day, against those of others and the string s
unfoldable pub day_reason : BatteryString → ℕ → ℕ → ℕ → ℕ → Reason
day_reason s t due ahead before =
    cond (ltb t ahead) (OutOfOrder t ahead)
    (cond (ltb t due) (BeforeDue t due)
    (cond (ltb (due + s.j.0) t) (TooLate t s.j.0 due) (TooClose due s.t.0 before)))

unfoldable pub release_reason : Version → List Line → ℕ → Reason
release_reason v lines k =
    let line = line_no lines k in
    let n = n_in v (line_no lines 1) in
    let run = run_in v (line_no lines 1) in
    let i = field_of (release_frame v) Place line in
    let need = field_of (release_frame v) Need line in
    let t = field_of (release_frame v) Day line in
    let s = string_of v (line_no lines 1) (line_no lines (suc i)) in
    cond (not (in_bounds 1 i n)) (PlaceOut i n)
    (cond (not (in_bounds 1 need s.c.0)) (NeedOut i need s.c.0)
    (cond (leb run t) (AfterRun t run)
    (day_reason s t (due_in v line) (day_of_ahead v lines n k) (due_in v (line_no lines (last_line v lines n k i))))))
