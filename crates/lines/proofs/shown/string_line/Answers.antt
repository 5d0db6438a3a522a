use Rattle.std.proofs.Common.{◌∙◌, append_assoc}
use Rattle.rules.specs.Lines.{bytes_of, worded_in}
use Rattle.lines.specs.Shown.{string_line}
use Rattle.lines.proofs.Growing.{page_is}
use Rattle.lines.proofs.shown.string_line.Goals as goal

pub returns : goal.returns
unfolding bytes_of worded_in string_line
returns c = record {
  exact = page_is _ _
      ((rw (
        c.append_late.ensures.exact,
        c.fill_in-2.ensures.exact,
        c.append_permission.ensures.exact,
        c.fill_in.ensures.exact,
        c.blank.ensures.empty,
      ) at c.fill_in-3.ensures.exact)
      ∙ simp append_assoc);
}
