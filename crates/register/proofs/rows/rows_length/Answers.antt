-- Each row is as long as its page says, and a page is short.
use Rattle.base.proofs.Prelude.{◌≡◌, ap, ◌∙◌, arith, length, get_or, refl, take_all}
use mathlib.Core.List.{flat_map}
use Rattle.rules.specs.{Plan.{strings_of, no_string}, Lines.row_line}
use Rattle.lines.proofs.Growing.{len_is}
use Rattle.register.specs.Export.{table_text}
use Rattle.register.proofs.RowTexts.{rows_text, rows-longer}
use Rattle.register.proofs.rows.rows_length.Goals as goal

pub loop-s-init : goal.loop-s-init
unfolding flat_map
loop-s-init c = record { small = omega arith; rows = refl }

pub loop-s-preserved : goal.loop-s-preserved
loop-s-preserved c =
    let o = c.loop-s in
    let strings = strings_of c.args.p in
    let page = c.row_line-length.result in
    let room : length page.bytes ≡ 256 = c.row_line-length.type_inv.1.1.1.0.1.0.1 in
    record {
      small = omega (arith, o.invariant.small, page.within);
      rows =
          omega (
            arith,
            o.invariant.rows,
            len_is page (row_line (get_or strings o.s-index no_string)) c.row_line-length.ensures.exact,
            rows-longer strings no_string o.s-index (omega arith),
          );
    }

pub returns : goal.returns
unfolding table_text
returns c =
    let o = c.loop-s in
    let strings = strings_of c.args.p in
    record { exact = o.invariant.rows ∙ ap (λ ss. length (rows_text ss)) (take_all o.s-index strings (omega arith)) }
