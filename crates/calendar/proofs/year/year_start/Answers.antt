-- The closed form.
use Rattle.base.proofs.Prelude.{sym}
use Rattle.calendar.proofs.Years.{up, year_start, days_before_year-at}
use Rattle.calendar.proofs.year.year_start.Goals as goal

pub returns : goal.returns
unfolding year_start up
returns c = record { exact = sym (days_before_year-at c.args.k) }
