-- For the proofs inside this crate: the rows of a table as the code takes them.
--     rows_in run lines      the plan of rows that are lawful, with an N given beside them, or the first fault
use Rattle.std.specs.Prelude.{ℕ, List, Ok, Result}
use Rattle.faults.specs.Checks.{Refused, or_refused}
use Rattle.faults.specs.declared.Refusal.{Refusal}
use Rattle.rules.specs.declared.Plan.{Plan}
use Rattle.rules.specs.Text.{Line}
use Rattle.register.specs.Table.{rows_check, table_plan}

unfoldable pub rows_in : ℕ → List Line → Result Plan Refusal
rows_in run lines = or_refused Refused (rows_check 1 lines) (Ok (table_plan run lines))
