-- What is found, or not found (document 01, "The verdict" and "The search").
--     FirstBroken           the first broken pair of a plan: Some pair, or None where no pair is broken
--     At l b                the pair (l, b), found
--     Assign                what the search finds: Some m for the set m, or None where no set passes
use Rattle.std.specs.Prelude.{ℕ, Option, Some}
use Rattle.days.specs.declared.Length.{Length}
use Rattle.rules.specs.declared.Broken.{Broken}

abbrev pub FirstBroken : Type 0
FirstBroken = Option Broken

abbrev pub At : Length → Length → FirstBroken
At l b = Some (record { interval = l; blocking = b })

abbrev pub Assign : Type 0
Assign = Option ℕ
