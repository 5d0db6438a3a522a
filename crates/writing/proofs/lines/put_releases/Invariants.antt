-- the lines of the releases so far stand at the head of the part
use Rattle.rules.specs.Release.{releases_of}
use Rattle.layouts.specs.inner.Versions.{meant_by}
use Rattle.writing.specs.Written.{release_text}
use Rattle.writing.proofs.Rows.{Rows}
use Rattle.writing.proofs.lines.put_releases.Given as goal

abbrev pub invariant-loop-i : goal.invariant-loop-i
invariant-loop-i l = Rows (release_text (meant_by l.fn.version)) (releases_of l.fn.rs) l.initial.part l.part l.i
