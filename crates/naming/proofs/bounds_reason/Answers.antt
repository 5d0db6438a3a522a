-- the header's numbers, or the string's, as the version's frames say them
use Rattle.base.proofs.Prelude.{ℕ, ◌+◌, ◌-◌, ◌*◌, ◌^◌, ◌≤◌, ◌<◌, ◌≡◌, refl, sym, ap, ◌∙◌, arith, min, set}
use Rattle.rules.specs.{Layout.{Common, Run, header_frame}, Text.{lines_of, a_in, run_in}}
use Rattle.layouts.specs.inner.Versions.{meant_by}
use Rattle.layouts.proofs.Versions.{common-known, run-known}
use Rattle.naming.specs.Lines.{line_no}
use Rattle.naming.proofs.{Numbers.{said, common-room, run_room}, Named.bounds-head}
use Rattle.naming.proofs.bounds_reason.Goals as goal

pub field_of-requires : goal.field_of-requires
field_of-requires c = common-room c.args.version c.layouts-layouts.result c.layouts-layouts.ensures.exact

pub field_of-requires-then-k-le1 : goal.field_of-requires-then-k-le1
field_of-requires-then-k-le1 c = run_room c.args.version c.layouts-layouts.result c.layouts-layouts.ensures.exact

pub returns-then-k-le1 : goal.returns-then-k-le1
unfolding a_in run_in
returns-then-k-le1 c =
    let version = c.args.version in
    let v = meant_by version in
    let text = c.args.text.now in
    let header = line_no (lines_of text) 1 in
    let known = c.layouts-layouts.ensures.exact in
    record {
      exact = c.head_reason.ensures.exact
          ∙ bounds-head text c.args.k v c.requires _ _ (omega arith)
          (c.field_of.ensures.exact ∙ said (header_frame v) Common _ (common-known version c.layouts-layouts.result known) header)
          (c.field_of-then-k-le1.ensures.exact ∙ said (header_frame v) Run _ (run-known version c.layouts-layouts.result known) header);
    }
