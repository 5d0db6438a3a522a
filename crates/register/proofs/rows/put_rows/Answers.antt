-- There is room for the next row, and what is written stands behind what stands already.
use Rattle.base.proofs.Prelude.{◌≤◌, refl, arith, length, get_or, drop, take_all, length-drop}
use mathlib.Core.List.{flat_map}
use Rattle.rules.specs.{Plan.{strings_of, no_string}, Lines.row_line}
use Rattle.lines.specs.Pages.{text_of}
use Rattle.lines.proofs.Growing.{text-is}
use Rattle.register.specs.Export.{table_text}
use Rattle.writing.proofs.Texts.{stands-none, lent-part}
use Rattle.register.proofs.RowTexts.{told-length, told-page, next-row-room, next-row}
use Rattle.register.proofs.rows.put_rows.Goals as goal

pub loop-s-init : goal.loop-s-init
unfolding flat_map
loop-s-init c = record { long = refl; rows = stands-none c.args.part.now }

pub overflow_add-at : goal.overflow_add-at
unfolding table_text text_of
overflow_add-at c =
    let o = c.loop-s in
    let row = row_line (get_or (strings_of c.args.p) o.s-index no_string) in
    let is = text-is c.row_line-row.result row c.row_line-row.ensures.exact in
    let more = next-row-room (strings_of c.args.p) no_string o.s-index (omega arith) c.args.part.now o.part o.at
    o.invariant.long o.invariant.rows c.requires.p_in_bounds in
    let fits : length row ≤ length (drop o.at o.part) = omega (arith, more, length-drop o.at o.part) in
    let told = c.put_text-at.ensures.exact in
    omega (arith, more, rw (is, lent-part o.at o.part, told-length row (drop o.at o.part) fits) at told)

pub loop-s-preserved : goal.loop-s-preserved
unfolding table_text text_of
loop-s-preserved c =
    let o = c.loop-s in
    let strings = strings_of c.args.p in
    let row = row_line (get_or strings o.s-index no_string) in
    let is = text-is c.row_line-row.result row c.row_line-row.ensures.exact in
    let more = next-row-room strings no_string o.s-index (omega arith) c.args.part.now o.part o.at o.invariant.long o.invariant.rows
    c.requires.p_in_bounds in
    let fits : length row ≤ length (drop o.at o.part) = omega (arith, more, length-drop o.at o.part) in
    let long = rw (is, lent-part o.at o.part, told-length row (drop o.at o.part) fits) at c.put_text-at.ensures.exact in
    let got = rw (is, lent-part o.at o.part, told-page row (drop o.at o.part) fits) at c.put_text-at.ensures.page in
    next-row strings no_string o.s-index (omega arith) c.args.part.now o.part o.at o.invariant.long o.invariant.rows c.requires.p_in_bounds
    c.put_text-at.result long c.put_text-at.new.page got

pub returns : goal.returns
unfolding table_text
returns c =
    let o = c.loop-s in
    let all = take_all o.s-index (strings_of c.args.p) (omega arith) in
    record { exact = rw all at o.invariant.rows.is }
