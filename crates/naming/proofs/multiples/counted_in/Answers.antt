-- n, or ten where it is more
use Rattle.base.proofs.Prelude.{ℕ, ◌+◌, ◌-◌, ◌*◌, ◌^◌, ◌≤◌, ◌<◌, ◌≡◌, refl, sym, ap, ◌∙◌, arith, min, set}
use Rattle.rules.specs.{Layout.{Count, header_frame}, Text.{lines_of, n_in}}
use Rattle.layouts.specs.inner.Versions.{meant_by, layouts_number_of}
use Rattle.layouts.proofs.Versions.{count-place}
use Rattle.naming.specs.{Lines.line_no, Periods.plan_named}
use Rattle.naming.proofs.Numbers.{said}
use Rattle.naming.proofs.multiples.counted_in.Goals as goal

pub returns : goal.returns
unfolding plan_named n_in
returns c =
    let v = meant_by c.args.version in
    record {
      exact = c.min.ensures
          ∙ ap (λ k. min k 10) (c.field_of.ensures.exact
          ∙ said (header_frame v) Count _ (count-place (layouts_number_of c.args.version)) (line_no
          (lines_of c.args.text.now) 1));
    }
