-- The two formulas undo each other.
use Rattle.calendar.proofs.Formula.{full-month}
use Rattle.calendar.proofs.month.in_full_month.Goals as goal

pub returns : goal.returns
returns c = record { placed = full-month c.args.day c.requires }
