-- Up to February's last day nothing is put in; from 1 March on, what February lacks.
use Rattle.calendar.proofs.Formula.{month-early, month-late}
use Rattle.calendar.proofs.month.in_month.Goals as goal

pub returns-then-day-february : goal.returns-then-day-february
returns-then-day-february c =
    let g = c.args in
    let placed = c.in_full_month.ensures.placed in
    record { placed = month-early g.february g.day _ _ c.requires.february_bound c.if-day-february.true placed }

pub returns-else-day-february : goal.returns-else-day-february
returns-else-day-february c =
    let g = c.args in
    let placed = c.in_full_month-else-day-february.ensures.placed in
    record { placed = month-late g.february g.day _ _ c.requires.february_bound c.if-day-february.false placed }
