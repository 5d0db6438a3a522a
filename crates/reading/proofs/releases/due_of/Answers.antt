-- The frame says the due day where its field has bytes.
use Rattle.std.proofs.Common.{◌<◌, ◌≤◌, sym, ap, ◌∙◌, arith}
use Rattle.days.specs.Days.{day}
use Rattle.rules.specs.Layout.{Due, Day, release_frame}
use Rattle.layouts.specs.inner.Versions.{meant_by, layouts_number_of}
use Rattle.layouts.proofs.Versions.{due-known, due-small, due-size, day-place, due-said, due-unsaid}
use Rattle.reading.proofs.Said.{field_room, field-said}
use Rattle.reading.proofs.releases.due_of.Goals as goal

pub field_of-requires-clause-inside : goal.field_of-requires-clause-inside
field_of-requires-clause-inside c =
    let v = c.args.version in
    field_room c.args.frame.now 0 (release_frame (meant_by v)) Due _ (due-known v _ c.layouts.ensures.exact) c.requires

pub field_of-requires-clause-short : goal.field_of-requires-clause-short
field_of-requires-clause-short c = due-small c.args.version _ c.layouts.ensures.exact

pub field_of-requires-else-due-gt0-clause-inside : goal.field_of-requires-else-due-gt0-clause-inside
field_of-requires-else-due-gt0-clause-inside c =
    let v = c.args.version in
    field_room c.args.frame.now 0 (release_frame (meant_by v)) Day _ (day-place (layouts_number_of v)) c.requires

pub returns-then-due-gt0 : goal.returns-then-due-gt0
returns-then-due-gt0 c =
    let v = c.args.version in
    let known = c.layouts.ensures.exact in
    let said = field-said c.args.frame.now 0 (release_frame (meant_by v)) Due _ (due-known v _ known) c.requires in
    let some : 0 < (meant_by v).release Due = omega (arith, due-size v _ known) in
    record { exact = ap day (c.field_of.ensures.exact ∙ said ∙ sym (due-said (meant_by v) _ some)) }

pub returns-else-due-gt0 : goal.returns-else-due-gt0
returns-else-due-gt0 c =
    let v = c.args.version in
    let known = c.layouts.ensures.exact in
    let said = field-said c.args.frame.now 0 (release_frame (meant_by v)) Day _ (day-place (layouts_number_of v)) c.requires in
    let none : (meant_by v).release Due ≤ 0 = omega (arith, due-size v _ known) in
    record { exact = ap day (c.field_of-else-due-gt0.ensures.exact ∙ said ∙ sym (due-unsaid (meant_by v) _ none)) }
