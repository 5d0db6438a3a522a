use Rattle.std.proofs.Common.{◌∙◌}
use Rattle.base.proofs.Prelude.{lt-ltb, le-ltb}
use Rattle.rules.specs.Lines.{bytes_of}
use Rattle.lines.specs.{Stints.stint_line}
use Rattle.lines.proofs.{Growing.page_is, StintWords.{one_day_is, days_are}}
use Rattle.lines.proofs.stints.stint_line.Goals as goal
use Rattle.lines.proofs.stints.stint_line.Goals.{then-s-lt2, else-s-lt2}

pub returns : goal.returns
unfolding bytes_of stint_line
returns c = record {
  exact = page_is _ _
      (c.append_use.ensures.exact
      ∙ elim c.if-s-lt2.branch [
        | then-s-lt2 w ↦
            rw (w.days-is, w.fill_in-days.ensures.exact, w.blank.ensures.empty, lt-ltb _ _ w.if-s-lt2.true) (one_day_is _ _)
        | else-s-lt2 w ↦
            rw (w.days-is, w.fill_in-days-else-s-lt2.ensures.exact, w.blank-else-s-lt2.ensures.empty, le-ltb _ _ w.if-s-lt2.false)
            (days_are _ _ _)
      ]);
}
