use Rattle.std.proofs.Common.{◌∙◌}
use Rattle.rules.specs.Lines.{bytes_of}
use Rattle.lines.proofs.{Growing.page_is, Beside.limits-beside}
use Rattle.lines.proofs.limits.limits_line.Goals as goal

pub returns : goal.returns
unfolding bytes_of
returns c = record {
  exact = page_is _ _
      ((rw (
        c.append_beside-5.ensures.exact,
        c.append_beside-4.ensures.exact,
        c.append_beside-3.ensures.exact,
        c.append_beside-2.ensures.exact,
        c.append_beside.ensures.exact,
        c.fill_in.ensures.exact,
        c.blank.ensures.empty,
      )
      at c.append.ensures.exact)
      ∙ limits-beside c.args.place c.args.s c.args.limits);
}
