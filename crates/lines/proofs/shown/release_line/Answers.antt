use Rattle.std.proofs.Common.{◌∙◌, append_assoc}
use Rattle.rules.specs.Lines.{bytes_of, worded_in}
use Rattle.lines.specs.Shown.{release_line}
use Rattle.lines.proofs.Growing.{page_is}
use Rattle.lines.proofs.shown.release_line.Goals as goal

pub returns : goal.returns
unfolding bytes_of worded_in release_line
returns c = record {
  exact = page_is _ _
      ((rw (c.append_due.ensures.exact, c.fill_in.ensures.exact, c.blank.ensures.empty) at c.fill_in-2.ensures.exact)
      ∙ simp append_assoc);
}
