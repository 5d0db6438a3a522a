-- The frame decides first, then its numbers.
use Rattle.std.proofs.Common.{sym, ◌∙◌}
use Rattle.std.proofs.lemmas.Result.{err_from_is_err_and}
use Rattle.rules.specs.Layout.{header_frame}
use Rattle.layouts.specs.inner.Versions.{meant_by}
use Rattle.layouts.proofs.Versions.{header-known}
use Rattle.reading.specs.inner.Positions.{line_at}
use Rattle.reading.proofs.{Framing.{frame_check-frame, as-laid}, Said.{header-refused, header-framed}}
use Rattle.reading.proofs.header.header_check.Goals as goal

pub returns-in_err-frame_check : goal.returns-in_err-frame_check
returns-in_err-frame_check c =
    let v = c.args.version in
    let laid = as-laid (header_frame (meant_by v)) _ (header-known v _ c.layouts.ensures.exact) 1 (line_at c.args.text.now 0) in
    let p = err_from_is_err_and c.from_residual.result c.from_residual.ensures.1 in
    record {
      exact = rw (p.1, p.2) (sym (header-refused (meant_by v) _ _ (sym laid ∙ sym c.in_err-frame_check.ensures.exact)));
    }

pub numbers_check-requires : goal.numbers_check-requires
numbers_check-requires c =
    let v = c.args.version in
    let laid = as-laid (header_frame (meant_by v)) _ (header-known v _ c.layouts.ensures.exact) 1 (line_at c.args.text.now 0) in
    frame_check-frame _ 0 1 _ _ (sym laid ∙ sym c.in_ok-frame_check.ensures.exact)

pub returns : goal.returns
returns c =
    let v = c.args.version in
    let laid = as-laid (header_frame (meant_by v)) _ (header-known v _ c.layouts.ensures.exact) 1 (line_at c.args.text.now 0) in
    record {
      exact =
          c.numbers_check.ensures.exact
          ∙ sym (header-framed (meant_by v) _ (sym laid ∙ sym c.in_ok-frame_check.ensures.exact));
    }
