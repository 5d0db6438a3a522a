-- A month's start in a year with 30 days in February, less what February lacks.
use Rattle.base.proofs.Prelude.{arith}
use Rattle.calendar.proofs.Formula.{start-early, start-late}
use Rattle.calendar.proofs.month.month_start.Goals as goal

pub returns-then-month-le2 : goal.returns-then-month-le2
returns-then-month-le2 c =
    let g = c.args in
    record { exact = omega (arith, start-early g.february g.month c.requires.le_month.0 c.if-month-le2.true) }

pub returns-else-month-le2 : goal.returns-else-month-le2
returns-else-month-le2 c =
    let g = c.args in
    let r = c.requires in
    record { exact = omega (arith, start-late g.february g.month r.february_bound c.if-month-le2.false r.le_month.1) }
