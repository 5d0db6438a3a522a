-- A verdict that names a pair with no blocking.
--     names_unblocked v      v is an overload, which breaks the rule at H, or a fail with blocking 0
use Rattle.std.specs.Prelude.{Bool, true, false, eqb}
use Rattle.rules.specs.declared.Verdict.{Verdict}
use Rattle.rules.specs.declared.Verdict.TheVariants.{Overload, Fail, Pass}

abbrev pub names_unblocked : Verdict → Bool
names_unblocked Overload = true
names_unblocked (Fail l b d k) = eqb b.0 0
names_unblocked (Pass k) = false
