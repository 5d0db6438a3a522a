-- A release's line is as long as the version says, and there is room for the next.
use Rattle.base.proofs.Prelude.{◌*◌, ◌≤◌, ◌≡◌, ap, arith, length, length-take-le}
use Rattle.rules.specs.{Release.{releases_of, no_release}, Layout.{line_size, release_frame}}
use Rattle.layouts.specs.inner.Versions.{meant_by}
use Rattle.layouts.proofs.Versions.{release-line}
use Rattle.writing.specs.Written.{release_says, release_text}
use Rattle.writing.proofs.Rows.{rows_start, rows_written, release_text-length, next-line-room, next-line}
use Rattle.writing.proofs.lines.put_releases.Goals as goal

pub loop-i-init : goal.loop-i-init
loop-i-init c = rows_start (release_text (meant_by c.args.version)) (releases_of c.args.rs) _

pub put_frame-requires : goal.put_frame-requires
unfolding release_text
put_frame-requires c =
    let line = c.layouts-line.result.release.line in
    let known = release-line c.args.version c.layouts-line.result c.layouts-line.ensures.exact in
    let many : length (releases_of c.args.rs) ≡ c.args.rs.count = length-take-le c.args.rs.count c.args.rs.list (omega arith) in
    let room : length (releases_of c.args.rs) * line ≤ length c.args.part.now =
    omega (arith, ap (λ k. c.args.rs.count * k) known, ap (λ n. n * line) many) in
    next-line-room (release_frame (meant_by c.args.version)) release_says _ known (releases_of c.args.rs) no_release _ _ c.loop-i.i
    (omega arith) room _ c.release_cells.ensures.exact c.loop-i.invariant

pub loop-i-preserved : goal.loop-i-preserved
unfolding release_text
loop-i-preserved c =
    let line = c.layouts-line.result.release.line in
    let known = release-line c.args.version c.layouts-line.result c.layouts-line.ensures.exact in
    let many : length (releases_of c.args.rs) ≡ c.args.rs.count = length-take-le c.args.rs.count c.args.rs.list (omega arith) in
    let room : length (releases_of c.args.rs) * line ≤ length c.args.part.now =
    omega (arith, ap (λ k. c.args.rs.count * k) known, ap (λ n. n * line) many) in
    next-line (release_frame (meant_by c.args.version)) release_says _ known (releases_of c.args.rs) no_release _ _ c.loop-i.i
    (omega arith) room _ c.release_cells.ensures.exact c.loop-i.invariant _ c.put_frame.ensures.exact

pub returns : goal.returns
returns c =
    record {
      exact =
          rows_written (release_text (meant_by c.args.version)) (line_size (release_frame (meant_by c.args.version)))
          (release_text-length (meant_by c.args.version)) (releases_of c.args.rs) no_release c.args.part.now c.loop-i.part c.loop-i.i
          c.loop-i.invariant (omega arith);
    }
