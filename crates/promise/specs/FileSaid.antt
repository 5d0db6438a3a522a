-- What is said of a plan file that is read, in the page's numbers.
--     file_says r           that it is lawful, or its refusal
use Rattle.std.specs.Prelude.{Result, Ok, Err}
use Rattle.faults.specs.Checks.{fault_number}
use Rattle.faults.specs.declared.Refusal.{Refusal}
use Rattle.rules.specs.declared.PlanFile.{PlanFile}
use Rattle.rules.specs.Said.{Said, lawful, refused}

abbrev pub file_says : Result PlanFile Refusal → Said
file_says (Ok _) = lawful
file_says (Err e) = refused (fault_number e.fault) e.at
