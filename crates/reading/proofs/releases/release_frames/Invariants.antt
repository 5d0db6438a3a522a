-- The lines that are left, from the one reached on, give what all of them give.
use Rattle.std.proofs.Common.{◌≡◌, ◌+◌, ◌-◌, ◌*◌, ◌≤◌, length}
use Rattle.rules.specs.Layout.{release_frame}
use Rattle.layouts.specs.inner.Versions.{meant_by}
use Rattle.reading.specs.inner.Positions.{lines_from, frames_in}
use Rattle.reading.proofs.ReleaseLines.{after, frames_left}
use Rattle.reading.proofs.releases.release_frames.Given as goal

abbrev pub invariant-loop-count : goal.invariant-loop-count
invariant-loop-count l =
    record {
      few : l.count ≤ 1000;
      inside : l.start + l.count * l.layout.line ≤ length l.text;
      left : after l.count (frames_left (meant_by l.fn.version) l.text l.layout.line l.start l.k l.count)
          ≡ frames_in (release_frame (meant_by l.fn.version)) l.k 1000 (lines_from l.text l.start);
    }

abbrev pub decreases-loop-count : goal.decreases-loop-count
decreases-loop-count l = 1000 - l.count
