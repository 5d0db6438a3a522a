-- What is answered for a text's releases that miss, in the page's numbers.
--     missed_says m          the refusal; why no text is written; or the length of the text
use Rattle.std.specs.Prelude.{Result, Ok, Err}
use Rattle.faults.specs.Checks.{fault_number}
use Rattle.faults.specs.declared.Refusal.{Refusal}
use Rattle.rules.specs.Said.{Noted, refused_with, text, passing, never, none_found, too_many}
use Rattle.missed.specs.declared.Missed.{Missed}
use Rattle.missed.specs.declared.Missed.TheVariants.{Passes, Never, NoneFound, TooMany, Text}

abbrev pub missed_says : Result Missed Refusal → Noted
missed_says (Err e) = refused_with (fault_number e.fault) e.at
missed_says (Ok Passes) = passing
missed_says (Ok Never) = never
missed_says (Ok NoneFound) = none_found
missed_says (Ok TooMany) = too_many
missed_says (Ok (Text len)) = text len
