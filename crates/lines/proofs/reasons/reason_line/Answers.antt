use Rattle.rules.specs.Lines.{bytes_of}
use Rattle.lines.specs.Reasons.{reason_line}
use Rattle.lines.proofs.Growing.{page_is}
use Rattle.lines.proofs.reasons.reason_line.Goals as goal

pub returns : goal.returns
unfolding bytes_of reason_line
returns c = record {
  exact = page_is _ _ (rw (c.fill_in.ensures.exact, c.blank.ensures.empty, c.from.ensures) at c.append_reason.ensures.exact);
}
