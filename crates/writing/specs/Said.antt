-- What the writer's answer says, in the page's numbers.
--     saved_says a           the refusal, or the length of the text that was written
use Rattle.faults.specs.Checks.{fault_number}
use Rattle.faults.specs.declared.Refusal.{Refusal}
use Rattle.std.specs.Prelude.{ℕ, Ok, Err, Result}
use Rattle.rules.specs.Said.{Noted, refused_with, text}

abbrev pub saved_says : Result ℕ Refusal → Noted
saved_says (Err e) = refused_with (fault_number e.fault) e.at
saved_says (Ok len) = text len
