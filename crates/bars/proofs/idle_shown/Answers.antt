-- The line for a column, where the run is lawful.
use Rattle.base.proofs.Prelude.{ap, ◌∙◌}
use Rattle.rules.specs.Lines.{lines_for}
use Rattle.lines.specs.Pages.{page_of}
use Rattle.showing.specs.Shown.{in_place}
use Rattle.bars.specs.Bars.{no_column, idle_words, idle_shown}
use Rattle.bars.proofs.Told.{told-lawful, told-refused}
use Rattle.bars.proofs.idle_shown.Goals as goal

pub idle_in-requires : goal.idle_in-requires
idle_in-requires c = c.in-Ok.ensures.told.1.fits

pub returns-in-Ok : goal.returns-in-Ok
unfolding idle_shown
returns-in-Ok c =
    let told = c.in-Ok.ensures.told in
    record {
      exact = c.idle_in.ensures.exact
          ∙ ap page_of (ap (λ cs. in_place (λ i x. idle_words x) no_column cs c.args.k) told.1.are ∙ told-lawful _ _ told.0);
    }

pub returns-in-Err : goal.returns-in-Err
unfolding idle_shown lines_for
returns-in-Err c = record { exact = c.written.ensures.exact ∙ ap page_of (told-refused _ _ _ c.in-Err.ensures.told) }
