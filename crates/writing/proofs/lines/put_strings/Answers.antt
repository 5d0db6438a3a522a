-- A string's line is as long as the version says, and there is room for the next.
use Rattle.base.proofs.Prelude.{◌*◌, ◌≤◌, ◌≡◌, ap, arith, length, length-take-le}
use Rattle.rules.specs.{Plan.{strings_of, no_string}, Layout.{line_size, string_frame}}
use Rattle.layouts.specs.inner.Versions.{meant_by}
use Rattle.layouts.proofs.Versions.{string-line}
use Rattle.writing.specs.Written.{string_says, string_text}
use Rattle.writing.proofs.Rows.{rows_start, rows_written, string_text-length, next-line-room, next-line}
use Rattle.writing.proofs.lines.put_strings.Goals as goal

pub loop-i-init : goal.loop-i-init
loop-i-init c = rows_start (string_text (meant_by c.args.version)) (strings_of c.args.p) _

pub put_frame-requires : goal.put_frame-requires
unfolding string_text
put_frame-requires c =
    let line = c.layouts-line.result.string.line in
    let known = string-line c.args.version c.layouts-line.result c.layouts-line.ensures.exact in
    let many : length (strings_of c.args.p) ≡ c.args.p.n = length-take-le c.args.p.n c.args.p.strings (omega arith) in
    let room : length (strings_of c.args.p) * line ≤ length c.args.part.now =
    omega (arith, ap (λ k. c.args.p.n * k) known, ap (λ n. n * line) many) in
    next-line-room (string_frame (meant_by c.args.version)) string_says _ known (strings_of c.args.p) no_string _ _ c.loop-i.i
    (omega arith) room _ c.string_cells.ensures.exact c.loop-i.invariant

pub loop-i-preserved : goal.loop-i-preserved
unfolding string_text
loop-i-preserved c =
    let line = c.layouts-line.result.string.line in
    let known = string-line c.args.version c.layouts-line.result c.layouts-line.ensures.exact in
    let many : length (strings_of c.args.p) ≡ c.args.p.n = length-take-le c.args.p.n c.args.p.strings (omega arith) in
    let room : length (strings_of c.args.p) * line ≤ length c.args.part.now =
    omega (arith, ap (λ k. c.args.p.n * k) known, ap (λ n. n * line) many) in
    next-line (string_frame (meant_by c.args.version)) string_says _ known (strings_of c.args.p) no_string _ _ c.loop-i.i
    (omega arith) room _ c.string_cells.ensures.exact c.loop-i.invariant _ c.put_frame.ensures.exact

pub returns : goal.returns
returns c =
    record {
      exact =
          rows_written (string_text (meant_by c.args.version)) (line_size (string_frame (meant_by c.args.version)))
          (string_text-length (meant_by c.args.version)) (strings_of c.args.p) no_string c.args.part.now c.loop-i.part c.loop-i.i
          c.loop-i.invariant (omega arith);
    }
