-- A refused text, by name.
--     reason_for text f k    the reason of the fault f at line k: the first rule of its number that the line breaks
--     refusal_text text      the line of the refusal with its reason; nothing where the text is lawful
-- A text is refused by 1 to 8 (`read-numbers`).
use Rattle.std.specs.Prelude.{ℕ, ◌-◌, cond, List, [], leb, eqb}
use Rattle.faults.specs.Checks.{Checked}
use Rattle.std.specs.Prelude.{Ok, Err}
use Rattle.faults.specs.declared.Fault.{Fault}
use Rattle.faults.specs.Checks.{fault_number}
use Rattle.rules.specs.Text.{lines_of, version_of, n_in, a_in, run_in, string_of, reading_of}
use Rattle.lines.specs.declared.reasons.Reason.{Reason}
use Rattle.lines.specs.declared.reasons.Reason.TheVariants.{TooLong, StringsOut, OverThousand}
use Rattle.lines.specs.Reasons.{reason_line}
use Rattle.naming.specs.Lines.{line_no}
use Rattle.naming.specs.Malformed.{malformed_reason}
use Rattle.naming.specs.Frames.{frame_reason}
use Rattle.naming.specs.Outside.{head_reason, string_reason}
use Rattle.naming.specs.Periods.{plan_named, multiple_reason}
use Rattle.naming.specs.Released.{release_reason}

unfoldable pub bounds_reason : List ℕ → ℕ → Reason
bounds_reason text k =
    let lines = lines_of text in
    let v = version_of lines in
    let header = line_no lines 1 in
    cond (leb k 1) (head_reason (a_in v header) (run_in v header)) (string_reason (k - 1) (string_of v header (line_no lines k)))

-- of 3 to 6, and of 8
unfoldable pub framed_reason : List ℕ → ℕ → ℕ → Reason
framed_reason text number k =
    let lines = lines_of text in
    let v = version_of lines in
    let n = n_in v (line_no lines 1) in
    cond (eqb number 3) (frame_reason v n k (line_no lines k).bytes)
    (cond (eqb number 4) (StringsOut n)
    (cond (eqb number 5) (bounds_reason text k)
    (cond (eqb number 6) (multiple_reason (plan_named v lines)) (release_reason v lines k))))

unfoldable pub reason_for : List ℕ → Fault → ℕ → Reason
reason_for text f k =
    cond (eqb (fault_number f) 1) TooLong
    (cond (eqb (fault_number f) 2) (malformed_reason (line_no (lines_of text) k).bytes)
    (cond (eqb (fault_number f) 7) OverThousand (framed_reason text (fault_number f) k)))

unfoldable pub refusal_for : List ℕ → Checked → List ℕ
refusal_for text (Ok _) = []
refusal_for text (Err e) = reason_line e.fault e.at (reason_for text e.fault e.at)

unfoldable pub refusal_text : List ℕ → List ℕ
refusal_text text = refusal_for text (reading_of text).checked
