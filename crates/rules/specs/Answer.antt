-- All that is answered for a plan file (document 01, "Frames of the plan file"): its refusal, or verdict, search and run.
--     Answered v a o         the three answers
--     answer_of text         the answer for a text
-- The verdict and the run use the X in the plan, not the set found; all three answers are given whatever the verdict is.
use Rattle.std.specs.Prelude.{ℕ, List, Result, Ok, Err}
use Rattle.faults.specs.Checks.{Checked}
use Rattle.faults.specs.declared.Refusal.{Refusal}
use Rattle.rules.specs.declared.Verdict.{Verdict}
use Rattle.rules.specs.declared.Outcome.{Outcome}
use Rattle.rules.specs.declared.Answers.{Answers}
use Rattle.rules.specs.Found.{Assign}
use Rattle.rules.specs.Verdict.{verdict_of}
use Rattle.rules.specs.Search.{search_of}
use Rattle.rules.specs.Release.{releases_of}
use Rattle.rules.specs.Run.{run_of}
use Rattle.rules.specs.Text.{Reading, reading_of}

abbrev pub Answered : Verdict → Assign → Outcome → Result Answers Refusal
Answered v a o = Ok (record { verdict = v; assign = a; outcome = o })

unfoldable pub answered : Checked → Reading → Result Answers Refusal
answered (Ok _) r = Answered (verdict_of r.plan) (search_of r.plan) (run_of r.plan (releases_of r.releases))
answered (Err e) r = Err e

unfoldable pub answer_of : List ℕ → Result Answers Refusal
answer_of text = answered (reading_of text).checked (reading_of text)
