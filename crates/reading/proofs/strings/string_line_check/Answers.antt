-- The frame decides first, then the bounds of the string.
use Rattle.std.proofs.Common.{◌≡◌, sym, ap, ◌∙◌, true, false}
use Rattle.std.proofs.lemmas.Result.{err_from_is_err_and}
use Rattle.rules.specs.{Layout.string_frame, Plan.string_lawful, Text.string_of}
use Rattle.layouts.specs.inner.Versions.{meant_by}
use Rattle.layouts.proofs.Versions.{string-known}
use Rattle.reading.specs.inner.Positions.{line_at}
use Rattle.reading.proofs.{Framing.{frame_check-frame, as-laid}, StringLines.{string-refused, string-judged}}
use Rattle.reading.proofs.strings.string_line_check.Goals as goal

pub returns-in_err-frame_check : goal.returns-in_err-frame_check
returns-in_err-frame_check c =
    let v = c.args.version in
    let line = line_at c.args.line.now 0 in
    let laid = as-laid (string_frame (meant_by v)) _ (string-known v _ c.layouts.ensures.exact) c.args.k line in
    let p = err_from_is_err_and c.from_residual.result c.from_residual.ensures.1 in
    record {
      exact = rw (p.1, p.2) (sym (string-refused (meant_by v) _ c.args.line.now _ _ _ (sym laid ∙ sym c.in_err-frame_check.ensures.exact)));
    }

pub string_of-requires-clause-frame : goal.string_of-requires-clause-frame
string_of-requires-clause-frame c =
    let v = c.args.version in
    let line = line_at c.args.line.now 0 in
    let laid = as-laid (string_frame (meant_by v)) _ (string-known v _ c.layouts.ensures.exact) c.args.k line in
    frame_check-frame _ _ _ _ _ (sym laid ∙ sym c.in_ok-frame_check.ensures.exact)

pub returns-then-not-string_lawful : goal.returns-then-not-string_lawful
returns-then-not-string_lawful c =
    let v = c.args.version in
    let line = line_at c.args.line.now 0 in
    let laid = as-laid (string_frame (meant_by v)) _ (string-known v _ c.layouts.ensures.exact) c.args.k line in
    let bad : string_lawful (string_of (meant_by v) (line_at c.args.header.now 0) line) ≡ false =
    ap string_lawful (sym c.string_of.ensures.exact) ∙ sym c.if-not-string_lawful.ensures.exact in
    record { exact = sym (string-judged (meant_by v) _ c.args.line.now _ _ (sym laid ∙ sym c.in_ok-frame_check.ensures.exact) ∙ rw bad) }

pub returns : goal.returns
returns c =
    let v = c.args.version in
    let line = line_at c.args.line.now 0 in
    let laid = as-laid (string_frame (meant_by v)) _ (string-known v _ c.layouts.ensures.exact) c.args.k line in
    let good : string_lawful (string_of (meant_by v) (line_at c.args.header.now 0) line) ≡ true =
    ap string_lawful (sym c.string_of.ensures.exact) ∙ sym c.if-not-string_lawful.ensures.exact in
    record { exact = sym (string-judged (meant_by v) _ c.args.line.now _ _ (sym laid ∙ sym c.in_ok-frame_check.ensures.exact) ∙ rw good) }
