-- Cell by cell it is the string's layout in every version.
use Rattle.writing.proofs.CellsSaid.{string-says}
use Rattle.writing.proofs.says.string_cells.Goals as goal

pub returns : goal.returns
returns c =
    record {
      exact =
          rw (
            c.of.ensures.exact,
            c.of-2.ensures.exact,
            c.of-3.ensures.exact,
            c.of-4.ensures.exact,
            c.of-5.ensures.exact,
            c.of-6.ensures.exact,
            c.of-7.ensures.exact,
          )
          (string-says c.args.version c.layouts-layouts.result c.layouts-layouts.ensures.exact c.args.s);
    }
