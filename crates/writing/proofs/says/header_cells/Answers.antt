-- Cell by cell it is the header's layout in every version.
use Rattle.base.proofs.Prelude.{sym, ap, get_or-take}
use Rattle.rules.specs.{declared.BatteryString.BatteryString, Plan.{no_string}}
use Rattle.writing.proofs.CellsSaid.{header-says}
use Rattle.writing.proofs.says.header_cells.Goals as goal

pub returns : goal.returns
returns c =
    record {
      exact =
          rw (c.of.ensures.exact, c.of-2.ensures.exact, c.of-3.ensures.exact, c.of-4.ensures.exact, c.of-5.ensures.exact)
          (header-says c.args.version c.layouts-layouts.result c.layouts-layouts.ensures.exact c.args.p _
          (ap (λ (first : BatteryString). first.a.0) (sym (get_or-take c.args.p.n c.args.p.strings 0 no_string c.requires.0))));
    }
