-- a frame that says a due day has bytes for it
use Rattle.base.proofs.Prelude.{ℕ, ◌+◌, ◌-◌, ◌*◌, ◌^◌, ◌≤◌, ◌<◌, ◌≡◌, refl, sym, ap, ◌∙◌, arith, min, set}
use Rattle.rules.specs.{Layout.{Day, Due, release_frame}, Text.lines_of}
use Rattle.layouts.specs.inner.Versions.{meant_by, layouts_number_of}
use Rattle.layouts.proofs.Versions.{day-place, due-known, due-size, due-small, due-said, due-unsaid}
use Rattle.naming.specs.Lines.{line_no}
use Rattle.naming.proofs.Numbers.{said, due_room, worth-most}
use Rattle.naming.proofs.releases.due_of.Goals as goal

pub field_of-requires : goal.field_of-requires
field_of-requires c = due_room c.args.version c.layouts.result c.layouts.ensures.exact

pub returns-then-due-gt0-clause-exact : goal.returns-then-due-gt0-clause-exact
returns-then-due-gt0-clause-exact c =
    let version = c.args.version in
    let v = meant_by version in
    let line = line_no (lines_of c.args.text.now) c.args.k in
    let known = c.layouts.ensures.exact in
    c.field_of.ensures.exact ∙ said (release_frame v) Due c.layouts.result.due (due-known version c.layouts.result known) line
    ∙ sym (due-said v line (omega (arith, c.if-due-gt0.true, due-size version c.layouts.result known)))

pub returns-then-due-gt0-clause-small : goal.returns-then-due-gt0-clause-small
returns-then-due-gt0-clause-small c =
    omega (
      arith,
      c.field_of.ensures.small,
      worth-most c.layouts.result.due.size 4
          (due-small c.args.version c.layouts.result c.layouts.ensures.exact),
    )

pub returns-else-due-gt0-clause-exact : goal.returns-else-due-gt0-clause-exact
returns-else-due-gt0-clause-exact c =
    let version = c.args.version in
    let v = meant_by version in
    let line = line_no (lines_of c.args.text.now) c.args.k in
    c.field_of-else-due-gt0.ensures.exact ∙ said (release_frame v) Day _ (day-place (layouts_number_of version)) line
    ∙ sym (due-unsaid v line (omega (arith, c.if-due-gt0.false, due-size version c.layouts.result c.layouts.ensures.exact)))
