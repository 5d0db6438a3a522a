-- The header says the cost where its field has bytes.
use Rattle.std.proofs.Common.{◌<◌, ◌≤◌, sym, ap, ◌∙◌, arith}
use Rattle.days.specs.Days.{days}
use Rattle.rules.specs.{Layout.{Common, Own, header_frame, string_frame}, Text.a_in}
use Rattle.layouts.specs.inner.Versions.{meant_by}
use Rattle.layouts.proofs.Versions.{common-known, common-small, common-size, own-known, own-small, cost-common, cost-own}
use Rattle.reading.proofs.Said.{field_room, field-said}
use Rattle.reading.proofs.strings.cost_of.Goals as goal

pub field_of-requires-clause-inside : goal.field_of-requires-clause-inside
field_of-requires-clause-inside c =
    let v = c.args.version in
    let common = common-known v _ c.layouts-layouts.ensures.exact in
    field_room c.args.header.now 0 (header_frame (meant_by v)) Common _ common c.requires.header

pub field_of-requires-clause-short : goal.field_of-requires-clause-short
field_of-requires-clause-short c = common-small c.args.version _ c.layouts-layouts.ensures.exact

pub field_of-requires-else-layouts-gt0-clause-inside : goal.field_of-requires-else-layouts-gt0-clause-inside
field_of-requires-else-layouts-gt0-clause-inside c =
    let v = c.args.version in
    let own = own-known v _ c.layouts-layouts.ensures.exact in
    field_room c.args.frame.now 0 (string_frame (meant_by v)) Own _ own c.requires.frame

pub field_of-requires-else-layouts-gt0-clause-short : goal.field_of-requires-else-layouts-gt0-clause-short
field_of-requires-else-layouts-gt0-clause-short c = own-small c.args.version _ c.layouts-layouts.ensures.exact

pub returns-then-layouts-gt0 : goal.returns-then-layouts-gt0
unfolding a_in
returns-then-layouts-gt0 c =
    let v = c.args.version in
    let known = c.layouts-layouts.ensures.exact in
    let said = field-said c.args.header.now 0 (header_frame (meant_by v)) Common _ (common-known v _ known) c.requires.header in
    let some : 0 < (meant_by v).header Common = omega (arith, common-size v _ known) in
    record { exact = ap days (c.field_of.ensures.exact ∙ said ∙ sym (cost-common (meant_by v) _ _ some)) }

pub returns-else-layouts-gt0 : goal.returns-else-layouts-gt0
returns-else-layouts-gt0 c =
    let v = c.args.version in
    let known = c.layouts-layouts.ensures.exact in
    let said = field-said c.args.frame.now 0 (string_frame (meant_by v)) Own _ (own-known v _ known) c.requires.frame in
    let none : (meant_by v).header Common ≤ 0 = omega (arith, common-size v _ known) in
    record { exact = ap days (c.field_of-else-layouts-gt0.ensures.exact ∙ said ∙ sym (cost-own (meant_by v) _ _ none)) }
