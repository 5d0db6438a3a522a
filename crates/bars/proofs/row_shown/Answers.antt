-- The row of a string, where the run is lawful.
use Rattle.base.proofs.Prelude.{ap, ◌∙◌}
use Rattle.rules.specs.Lines.{lines_for}
use Rattle.lines.specs.Pages.{page_of}
use Rattle.bars.specs.Bars.{row_shown}
use Rattle.bars.proofs.Told.{told-lawful, told-refused}
use Rattle.bars.proofs.row_shown.Goals as goal

pub returns-in-Ok : goal.returns-in-Ok
unfolding row_shown
returns-in-Ok c =
    record { exact = c.row_in.ensures.exact ∙ ap page_of (told-lawful _ _ c.in-Ok.ensures.told.0) }

pub returns-in-Err : goal.returns-in-Err
unfolding row_shown lines_for
returns-in-Err c = record { exact = c.written.ensures.exact ∙ ap page_of (told-refused _ _ _ c.in-Err.ensures.told) }
