-- Seventy columns, of which the last ends before the run does.
use Rattle.base.proofs.Prelude.{◌≤◌, ◌<◌, sym, ap, ◌∙◌, arith, get_or}
use Rattle.lines.specs.Pages.{page_of}
use Rattle.bars.specs.Bars.{no_column, last_day_of}
use Rattle.bars.proofs.Shortened.{cut-none, cut-there, cut-over}
use Rattle.bars.proofs.cut_in.Goals as goal

pub returns-then-drawn-lt70 : goal.returns-then-drawn-lt70
returns-then-drawn-lt70 c =
    record {
      exact = c.blank.ensures.exact ∙ ap page_of (sym (cut-none c.args.drawn c.requires c.args.end c.if-drawn-lt70.true));
    }

pub last_day-last-requires : goal.last_day-last-requires
last_day-last-requires c = c.requires.brief 69 (omega (arith, c.if-drawn-lt70.false))

pub returns-then-end-last : goal.returns-then-end-last
returns-then-end-last c =
    let last : c.args.end ≤ last_day_of (get_or c.args.drawn.columns 69 no_column) =
    rw c.last_day-last.ensures.exact at c.if-end-last.true in
    record {
      exact = c.blank-then-end-last.ensures.exact
          ∙ ap page_of (sym (cut-over c.args.drawn c.requires c.args.end c.if-drawn-lt70.false last));
    }

pub returns : goal.returns
returns c =
    let more : last_day_of (get_or c.args.drawn.columns 69 no_column) < c.args.end =
    rw c.last_day-last.ensures.exact at c.if-end-last.false in
    record {
      exact = rw c.last_day-last.ensures.exact at c.cut_line.ensures.exact
          ∙ ap page_of (cut-there c.args.drawn c.requires c.args.end c.if-drawn-lt70.false more);
    }
