-- a header that says a moving cost has bytes for it
use Rattle.base.proofs.Prelude.{ℕ, ◌+◌, ◌-◌, ◌*◌, ◌^◌, ◌≤◌, ◌<◌, ◌≡◌, refl, sym, ap, ◌∙◌, arith, min, set}
use Rattle.rules.specs.{Layout.{Common, Own, header_frame, string_frame}, Text.{lines_of, a_in}}
use Rattle.layouts.specs.inner.Versions.{meant_by}
use Rattle.layouts.proofs.Versions.{common-known, common-size, own-known, cost-common, cost-own}
use Rattle.naming.specs.Lines.{line_no}
use Rattle.naming.proofs.Numbers.{said, common-room, own_room, common-two, own-two}
use Rattle.naming.proofs.said.cost_of.Goals as goal

pub field_of-requires : goal.field_of-requires
field_of-requires c = common-room c.args.version c.layouts-layouts.result c.layouts-layouts.ensures.exact

pub overflow_cast-result : goal.overflow_cast-result
overflow_cast-result c =
    omega (arith, c.field_of.ensures.small, common-two c.args.version c.layouts-layouts.result c.layouts-layouts.ensures.exact)

pub field_of-requires-else-layouts-gt0 : goal.field_of-requires-else-layouts-gt0
field_of-requires-else-layouts-gt0 c = own_room c.args.version c.layouts-layouts.result c.layouts-layouts.ensures.exact

pub overflow_cast-result-else-layouts-gt0 : goal.overflow_cast-result-else-layouts-gt0
overflow_cast-result-else-layouts-gt0 c =
    omega (
      arith,
      c.field_of-else-layouts-gt0.ensures.small,
      own-two c.args.version c.layouts-layouts.result
          c.layouts-layouts.ensures.exact,
    )

pub returns-then-layouts-gt0 : goal.returns-then-layouts-gt0
unfolding a_in
returns-then-layouts-gt0 c =
    let version = c.args.version in
    let v = meant_by version in
    let lines = lines_of c.args.text.now in
    let known = c.layouts-layouts.ensures.exact in
    record {
      exact = c.field_of.ensures.exact
          ∙ said (header_frame v) Common _ (common-known version c.layouts-layouts.result known) (line_no lines 1)
          ∙ sym (cost-common v (line_no lines 1) (line_no lines c.args.k)
          (omega (arith, c.if-layouts-gt0.true, common-size version c.layouts-layouts.result known)));
    }

pub returns-else-layouts-gt0 : goal.returns-else-layouts-gt0
returns-else-layouts-gt0 c =
    let version = c.args.version in
    let v = meant_by version in
    let lines = lines_of c.args.text.now in
    let known = c.layouts-layouts.ensures.exact in
    record {
      exact = c.field_of-else-layouts-gt0.ensures.exact
          ∙ said (string_frame v) Own _ (own-known version c.layouts-layouts.result known) (line_no lines c.args.k)
          ∙ sym (cost-own v (line_no lines 1) (line_no lines c.args.k)
          (omega (arith, c.if-layouts-gt0.false, common-size version c.layouts-layouts.result known)));
    }
