-- What the search for releases that miss says, in the page's numbers.
--     missing_says m         the refusal; why no list is shown; or the days of the run that misses
use Rattle.std.specs.Prelude.{Result, Ok, Err}
use Rattle.faults.specs.Checks.{fault_number}
use Rattle.faults.specs.declared.Refusal.{Refusal}
use Rattle.rules.specs.Said.{Noted, refused_with, passing, never, none_found, too_many, misses}
use Rattle.tries.specs.declared.Missing.{Missing}
use Rattle.tries.specs.declared.Missing.TheVariants.{Passes, Never, NoneFound, TooMany, Found}

abbrev pub missing_says : Result Missing Refusal → Noted
missing_says (Err e) = refused_with (fault_number e.fault) e.at
missing_says (Ok Passes) = passing
missing_says (Ok Never) = never
missing_says (Ok NoneFound) = none_found
missing_says (Ok TooMany) = too_many
missing_says (Ok (Found n rs)) = misses n.0
