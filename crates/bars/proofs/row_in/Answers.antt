-- The row of the string at its place, by what the sheet says.
use Rattle.base.proofs.Prelude.{◌≤◌, ◌≡◌, sym, ap, ◌∙◌, arith, length}
use Rattle.std.proofs.lemmas.Grind.{common_steps}
use Rattle.rules.specs.Release.{releases_of}
use Rattle.laws.proofs.Releases.{run_check-lawful}
use Rattle.lines.specs.Pages.{page_of}
use Rattle.lines.specs.Bars.{bar_row}
use Rattle.bars.proofs.Told.{row_told, row-outside, row-there}
use Rattle.bars.proofs.row_in.Goals as goal

pub returns-then-not-contains : goal.returns-then-not-contains
returns-then-not-contains c =
    record {
      exact = c.blank.ensures.exact
          ∙ ap page_of (sym (row-outside c.args.p (releases_of c.args.rs) c.args.place
          (λ low high. let out : ⊥ = grind (arith, common_steps) in
          out)));
    }

pub row_cells-cells-requires-clause-n_bound : goal.row_cells-cells-requires-clause-n_bound
row_cells-cells-requires-clause-n_bound c = (run_check-lawful c.args.p c.args.rs c.requires.rs_value).plan.n_max

pub row_cells-cells-requires-clause-count_bound : goal.row_cells-cells-requires-clause-count_bound
row_cells-cells-requires-clause-count_bound c = (run_check-lawful c.args.p c.args.rs c.requires.rs_value).few

pub row_cells-cells-requires-clause-up_to_seventy : goal.row_cells-cells-requires-clause-up_to_seventy
row_cells-cells-requires-clause-up_to_seventy c = c.requires.sheet_of.fits

pub returns : goal.returns
returns c =
    let g = c.args in
    let list = releases_of g.rs in
    let low : 1 ≤ g.place = grind (arith, common_steps) in
    let high : g.place ≤ g.p.n = grind (arith, common_steps) in
    let most = (run_check-lawful g.p g.rs c.requires.rs_value).plan.n_max in
    let ten : length g.p.strings ≡ 10 = c.well_formed.0.1.1.1.1.0.1.0.1 in
    let room : g.p.n ≤ length g.p.strings = omega (arith, ten, most) in
    let cells = c.row_cells-cells.ensures.exact ∙ row_told g.p list g.sheet g.list.now c.requires.sheet_of g.place in
    record { exact = c.bar_row.ensures.exact ∙ ap page_of (ap (bar_row g.place) cells ∙ row-there g.p list g.place room low high) }
