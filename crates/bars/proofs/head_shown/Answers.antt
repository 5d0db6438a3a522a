-- The marks above the columns, where the run is lawful.
use Rattle.base.proofs.Prelude.{ap, ◌∙◌, map}
use Rattle.rules.specs.Lines.{lines_for}
use Rattle.lines.specs.Pages.{page_of}
use Rattle.lines.specs.Bars.{days_row}
use Rattle.bars.specs.Bars.{day_mark, head_shown}
use Rattle.bars.proofs.Told.{told-lawful, told-refused}
use Rattle.bars.proofs.head_shown.Goals as goal

pub day_marks-requires : goal.day_marks-requires
day_marks-requires c = c.in-Ok.ensures.told.1.fits

pub returns-in-Ok : goal.returns-in-Ok
unfolding head_shown
returns-in-Ok c =
    let told = c.in-Ok.ensures.told in
    record {
      exact = c.day_row.ensures.exact
          ∙ ap page_of (ap days_row (c.day_marks.ensures.exact ∙ ap (map day_mark) told.1.are) ∙ told-lawful _ _ told.0);
    }

pub returns-in-Err : goal.returns-in-Err
unfolding head_shown lines_for
returns-in-Err c = record { exact = c.written.ensures.exact ∙ ap page_of (told-refused _ _ _ c.in-Err.ensures.told) }
