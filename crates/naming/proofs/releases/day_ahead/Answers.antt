-- the line ahead, where one is
use Rattle.base.proofs.Prelude.{ℕ, ◌+◌, ◌-◌, ◌*◌, ◌^◌, ◌≤◌, ◌<◌, ◌≡◌, refl, sym, ap, ◌∙◌, arith, min, set}
use Rattle.rules.specs.{Layout.{Day, release_frame}, Text.lines_of}
use Rattle.layouts.specs.inner.Versions.{meant_by, layouts_number_of}
use Rattle.layouts.proofs.Versions.{day-place}
use Rattle.naming.specs.Lines.{line_no}
use Rattle.naming.proofs.{Numbers.said, Released.{no-day-ahead, ahead-some}}
use Rattle.naming.proofs.releases.day_ahead.Goals as goal

pub returns-then-k-n : goal.returns-then-k-n
returns-then-k-n c = record { exact = no-day-ahead (meant_by c.args.version) (lines_of c.args.text.now) c.args.n c.args.k (omega arith) }

pub returns : goal.returns
returns c =
    let v = meant_by c.args.version in
    let lines = lines_of c.args.text.now in
    record {
      exact = c.field_of.ensures.exact
          ∙ said (release_frame v) Day _ (day-place (layouts_number_of c.args.version)) (line_no lines (c.args.k - 1))
          ∙ ahead-some v lines c.args.n c.args.k (omega arith);
    }
