-- What is answered for a text's plan with the set that was found, in the page's numbers.
--     assigned_says a        the refusal; that no set passes; or the length of the text
use Rattle.faults.specs.Checks.{fault_number}
use Rattle.rules.specs.Said.{Noted, refused_with, text, none_found}
use Rattle.std.specs.Prelude.{Ok, Err, Some, None}
use Rattle.assigning.specs.Assigned.{Assigned}

abbrev pub assigned_says : Assigned → Noted
assigned_says (Err e) = refused_with (fault_number e.fault) e.at
assigned_says (Ok None) = none_found
assigned_says (Ok (Some len)) = text len
