-- The line at the end, where the run is lawful.
use Rattle.base.proofs.Prelude.{ap, ◌∙◌}
use Rattle.rules.specs.{Lines.lines_for, Release.releases_of}
use Rattle.lines.specs.Pages.{page_of}
use Rattle.bars.specs.Bars.{cut_behind, cut_words, drawn, cut_shown}
use Rattle.bars.proofs.Told.{told-lawful, told-refused}
use Rattle.bars.proofs.cut_shown.Goals as goal

pub cut_in-requires : goal.cut_in-requires
cut_in-requires c = c.in-Ok.ensures.told.1.fits

pub returns-in-Ok : goal.returns-in-Ok
unfolding cut_shown cut_words
returns-in-Ok c =
    let told = c.in-Ok.ensures.told in
    record {
      exact = c.cut_in.ensures.exact
          ∙ ap page_of (ap (λ cs. cut_behind cs c.in-Ok.sheet.end) told.1.are
          ∙ ap (cut_behind (drawn c.args.p (releases_of c.args.rs))) told.1.end
          ∙ told-lawful _ _ told.0);
    }

pub returns-in-Err : goal.returns-in-Err
unfolding cut_shown lines_for
returns-in-Err c = record { exact = c.written.ensures.exact ∙ ap page_of (told-refused _ _ _ c.in-Err.ensures.told) }
