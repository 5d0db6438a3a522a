-- For the proofs inside this crate: moving costs as the code compares them.
--     other_than_first p s   the string s has another moving cost than the first of the plan p
use Rattle.std.specs.Prelude.{Bool, not, eqb, get_or}
use Rattle.rules.specs.declared.BatteryString.{BatteryString}
use Rattle.rules.specs.declared.Plan.{Plan}
use Rattle.rules.specs.Plan.{no_string}

abbrev pub other_than_first : Plan → BatteryString → Bool
other_than_first p s = not (eqb s.a.0 (get_or p.strings 0 no_string).a.0)
