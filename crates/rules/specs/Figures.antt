-- The figures of a plan that its file does not say (document 01, "The demand rule"): H, the load, and E of each string.
--     holds_of p             E of each of the ten places; 0 where there is no string
--     figures_of p           the figures of a lawful plan
--     figures_answer p       what the entry answers: the check of the plan decides
use Rattle.std.specs.Prelude.{ℕ, List, map, Result, Ok}
use Rattle.faults.specs.Checks.{Refused, or_refused}
use Rattle.faults.specs.declared.Refusal.{Refusal}
use Rattle.base.specs.Count.{filled}
use Rattle.rules.specs.declared.Plan.{Plan}
use Rattle.rules.specs.declared.Figures.{Figures}
use Rattle.rules.specs.Plan.{strings_of, multiple_of}
use Rattle.rules.specs.Demand.{hold_of, load}
use Rattle.rules.specs.Refusal.{plan_check}

unfoldable pub holds_of : Plan → List ℕ
holds_of p = filled 10 0 (map (hold_of p) (strings_of p))

unfoldable pub figures_of : Plan → Figures
figures_of p = record { multiple = multiple_of p; load = load p; holds = holds_of p }

unfoldable pub figures_answer : Plan → Result Figures Refusal
figures_answer p =
    let v = figures_of p in
    or_refused Refused (plan_check p) (Ok v)
