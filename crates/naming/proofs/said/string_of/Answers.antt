-- T, C, D and X stand at the same places in all versions, J where the version says
use Rattle.base.proofs.Prelude.{ℕ, ◌+◌, ◌-◌, ◌*◌, ◌^◌, ◌≤◌, ◌<◌, ◌≡◌, refl, sym, ap, ◌∙◌, arith, min, set}
use Rattle.days.specs.Days.{days}
use Rattle.rules.specs.{Layout.{X, T, C, D, Late, string_frame}, Text.lines_of}
use Rattle.layouts.specs.inner.Versions.{meant_by, layouts_number_of}
use Rattle.layouts.proofs.Versions.{x-place, t-place, c-place, d-place, late-known}
use Rattle.reading.proofs.Said.{string-said}
use Rattle.naming.specs.Lines.{line_no}
use Rattle.naming.proofs.Numbers.{said, late-room, late-two}
use Rattle.naming.proofs.said.string_of.Goals as goal

pub field_of-requires-4 : goal.field_of-requires-4
field_of-requires-4 c = late-room c.args.version c.layouts.result c.layouts.ensures.exact

pub overflow_cast-j : goal.overflow_cast-j
overflow_cast-j c = omega (arith, c.field_of-4.ensures.small, late-two c.args.version c.layouts.result c.layouts.ensures.exact)

pub returns : goal.returns
returns c =
    let version = c.args.version in
    let number = layouts_number_of version in
    let v = meant_by version in
    let line = line_no (lines_of c.args.text.now) c.args.k in
    let l = string_frame v in
    record {
      exact = string-said v _ line _ _ _ _ _ _
          (c.field_of.ensures.exact ∙ said l T _ (t-place number) line)
          (c.field_of-2.ensures.exact ∙ said l C _ (c-place number) line)
          (c.field_of-3.ensures.exact ∙ said l D _ (d-place number) line)
          (c.field_of-x.ensures.exact ∙ said l X _ (x-place number) line)
          (ap days c.cost_of.ensures.exact)
          (c.field_of-4.ensures.exact ∙ said l Late _ (late-known version c.layouts.result c.layouts.ensures.exact) line);
    }
