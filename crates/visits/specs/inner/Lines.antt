-- For the proofs inside this crate: a visit text as the code takes it, line by line.
--     lines_answer p rs lines    what is answered for the lines of a text that is not too long
use Rattle.std.specs.Prelude.{List, map}
use Rattle.faults.specs.Checks.{Checked}
use Rattle.faults.specs.Checks.{then}
use Rattle.rules.specs.declared.Plan.{Plan}
use Rattle.rules.specs.declared.Releases.{Releases}
use Rattle.rules.specs.Text.{Line}
use Rattle.visits.specs.Visits.{visits_check}
use Rattle.visits.specs.Texts.{visit_in, visit_lines_check}

unfoldable pub lines_answer : Plan → Releases → List Line → Checked
lines_answer p rs lines =
    let list = visits_check p rs (map visit_in lines) in
    then (visit_lines_check 1 lines) list
