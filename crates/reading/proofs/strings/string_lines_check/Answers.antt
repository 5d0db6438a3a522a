-- The line reached decides, or the lines after it do.
use Rattle.std.proofs.Common.{◌≡◌, ◌+◌, ◌*◌, sym, ap, ◌∙◌, arith}
use Rattle.std.proofs.lemmas.Result.{err_from_is_err_and}
use Rattle.base.proofs.Prelude.{add-one, suc-mul}
use Rattle.rules.specs.Text.{string_line_check}
use Rattle.reading.proofs.Lines.{tail-line}
use Rattle.layouts.specs.inner.Versions.{meant_by}
use Rattle.layouts.proofs.Versions.{string-line}
use Rattle.reading.specs.inner.Positions.{line_at}
use Rattle.reading.proofs.StringLines.{string-frame, left-missing, left-bad, reading-left-next, left-end}
use Rattle.reading.proofs.strings.string_lines_check.Goals as goal

pub returns-then-text-here : goal.returns-then-text-here
returns-then-text-here c =
    let missing = left-missing (meant_by c.args.version) c.args.text.now c.layouts-line.result.string.line c.args.start c.args.n c.loop-i.i
    (omega arith) c.if-text-here.true in
    record { exact = sym missing ∙ c.loop-i.invariant.left }

pub returns-in_err-string_line_check : goal.returns-in_err-string_line_check
returns-in_err-string_line_check c =
    let v = meant_by c.args.version in
    let text = c.args.text.now in
    let step = c.layouts-line.result.string.line in
    let i = c.loop-i.i in
    let line = tail-line text (c.args.start + i * step) in
    let said = c.in_err-string_line_check.ensures.exact ∙ ap (string_line_check v (line_at text 0) (i + 2)) line in
    let bad = left-bad v text step c.args.start c.args.n i (omega arith) (omega arith) _ (sym said) in
    let p = err_from_is_err_and c.from_residual.result c.from_residual.ensures.1 in
    record { exact = rw (p.1, p.2) (sym bad ∙ c.loop-i.invariant.left) }

pub loop-i-preserved : goal.loop-i-preserved
loop-i-preserved c =
    let v = meant_by c.args.version in
    let text = c.args.text.now in
    let step = c.layouts-line.result.string.line in
    let i = c.loop-i.i in
    let long = string-line c.args.version _ c.layouts-line.ensures.exact in
    let line = tail-line text (c.args.start + i * step) in
    let good = sym (c.in_ok-string_line_check.ensures.exact ∙ ap (string_line_check v (line_at text 0) (i + 2)) line) in
    let frame = string-frame v (line_at text 0) text (c.args.start + i * step) (i + 2) good in
    let more : (i + 1) * step ≡ i * step + step = rw (add-one i) (suc-mul i step) in
    record {
      inside = omega (arith, frame.inside, long, more);
      left = reading-left-next v text step c.args.start c.args.n i (omega arith) long good ∙ c.loop-i.invariant.left;
    }

pub returns : goal.returns
returns c =
    let end = left-end (meant_by c.args.version) c.args.text.now c.layouts-line.result.string.line c.args.start c.args.n c.loop-i.i
    (omega arith) in
    record { exact = sym end ∙ c.loop-i.invariant.left }
