-- The frames end at the line reached, or one more stands.
use Rattle.std.proofs.Common.{◌≡◌, ◌+◌, ◌*◌, sym, ap, ◌∙◌, arith}
use Rattle.base.proofs.Prelude.{add-one, suc-mul}
use Rattle.faults.specs.Checks.{then}
use Rattle.rules.specs.{Refusal.many_check, Layout.release_frame, Text.{Line, frame_check}}
use Rattle.layouts.specs.inner.Versions.{meant_by}
use Rattle.layouts.proofs.Versions.{release-known, release-line}
use Rattle.reading.specs.inner.Positions.{line_at}
use Rattle.reading.proofs.{Lines.tail-line, Framing.{frame_check-frame, as-laid}, ReleaseLines.{frames-over, frames-stop, frames-frame, frames-room, frames-onward}}
use Rattle.reading.proofs.releases.release_frames.Goals as goal

pub returns-in-Err : goal.returns-in-Err
returns-in-Err c =
    let v = meant_by c.args.version in
    let text = c.args.text.now in
    let step = c.layouts.result.release.line in
    let j = c.loop-count.count in
    let k = c.args.k + j in
    let line = line_at text (c.args.start + j * step) in
    let laid = as-laid (release_frame v) _ (release-known c.args.version _ c.layouts.ensures.exact) k line in
    let there = tail-line text (c.args.start + j * step) in
    let said = λ (l : Line). then (frame_check k c.layouts.result.release.kind c.layouts.result.release.size l) (many_check k (j + 1)) in
    let bad = ap (λ a. then a (many_check k (j + 1))) (sym laid) ∙ sym (c.in-Err.ensures.exact ∙ ap said there) in
    record {
      exact =
          frames-stop v text step c.args.start c.args.k j c.loop-count-test.true c.loop-count.invariant.few _ bad
          ∙ c.loop-count.invariant.left;
    }

pub loop-count-preserved : goal.loop-count-preserved
loop-count-preserved c =
    let v = meant_by c.args.version in
    let text = c.args.text.now in
    let step = c.layouts.result.release.line in
    let start = c.args.start in
    let j = c.loop-count.count in
    let k = c.args.k + j in
    let line = line_at text (start + j * step) in
    let laid = as-laid (release_frame v) _ (release-known c.args.version _ c.layouts.ensures.exact) k line in
    let there = tail-line text (start + j * step) in
    let said = λ (l : Line). then (frame_check k c.layouts.result.release.kind c.layouts.result.release.size l) (many_check k (j + 1)) in
    let good = ap (λ a. then a (many_check k (j + 1))) (sym laid) ∙ sym (c.in_default.ensures.exact ∙ ap said there) in
    let inside = c.loop-count-test.true in
    let few = c.loop-count.invariant.few in
    let long = release-line c.args.version _ c.layouts.ensures.exact in
    let frame = frame_check-frame text (start + j * step) k _ _ (frames-frame v text step start c.args.k j inside few good) in
    let more : (j + 1) * step ≡ j * step + step = rw (add-one j) (suc-mul j step) in
    record {
      few = omega (arith, frames-room v text step start c.args.k j inside few good);
      inside = omega (arith, frame.inside, long, more);
      left = frames-onward v text step start c.args.k j inside few good long ∙ c.loop-count.invariant.left;
    }

pub returns : goal.returns
returns c =
    let v = meant_by c.args.version in
    let step = c.layouts.result.release.line in
    record {
      exact =
          frames-over v c.args.text.now step c.args.start c.args.k c.loop-count.count c.loop-count-test.false
          ∙ c.loop-count.invariant.left;
    }
