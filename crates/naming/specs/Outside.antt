-- Refusal 5, by name: the first number outside its bounds, in the order of document 01, "Bounds on a plan", in which each bound is said by
-- numbers that stand ahead: of a header A, then N; of a string T, D, J, C, X, moving cost.
--     head_reason a run           of a header with the moving cost a and N
--     work_reason i c d j         C of the string at place i is above D − J
--     string_reason i s           of the string s at place i
use Rattle.std.specs.Prelude.{ℕ, ◌+◌, cond, not, ltb, leb, eqb}
use Rattle.faults.specs.Checks.{in_bounds}
use Rattle.rules.specs.declared.BatteryString.{BatteryString}
use Rattle.lines.specs.declared.reasons.Reason.{Reason}
use Rattle.lines.specs.declared.reasons.Reason.TheVariants.{CommonCostOut, RunOut, PeriodOut, DueOut, LateOut}
use Rattle.lines.specs.declared.reasons.Reason.TheVariants.{NoWork, WorkOut, LateWorkOut, PermissionOut, CostOut}

unfoldable pub head_reason : ℕ → ℕ → Reason
head_reason a run = cond (ltb 1000 a) (CommonCostOut a) (RunOut run)

unfoldable pub work_reason : ℕ → ℕ → ℕ → ℕ → Reason
work_reason i c d j = cond (eqb j 0) (WorkOut i c d) (LateWorkOut i c d j)

-- C, X and the moving cost
unfoldable pub rest_reason : ℕ → BatteryString → Reason
rest_reason i s =
    cond (eqb s.c.0 0) (NoWork i)
    (cond (ltb s.d.0 (s.c.0 + s.j.0)) (work_reason i s.c.0 s.d.0 s.j.0)
    (cond (ltb 1 s.x) (PermissionOut i s.x) (CostOut i s.a.0)))

unfoldable pub string_reason : ℕ → BatteryString → Reason
string_reason i s =
    cond (not (in_bounds 1 s.t.0 1000)) (PeriodOut i s.t.0)
    (cond (not (in_bounds 1 s.d.0 s.t.0)) (DueOut i s.d.0 s.t.0)
    (cond (leb s.d.0 s.j.0) (LateOut i s.j.0 s.d.0) (rest_reason i s)))
