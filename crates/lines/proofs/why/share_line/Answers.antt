use Rattle.rules.specs.Lines.{bytes_of}
use Rattle.lines.specs.Why.{share_line, jobs_words, days_words}
use Rattle.lines.proofs.Growing.{page_is}
use Rattle.lines.proofs.why.share_line.Goals as goal

pub returns : goal.returns
unfolding bytes_of share_line jobs_words days_words
returns c = record {
  exact = page_is _ _
      (rw (
        c.fill_in-2.ensures.exact,
        c.count_in-2.ensures.exact,
        c.count_in.ensures.exact,
        c.pad.ensures.exact,
        c.fill_in.ensures.exact,
        c.blank.ensures.empty,
      ) at c.end_column.ensures.exact);
}
