-- the strings read so far stand at the front
use Rattle.base.proofs.Prelude.{◌≤◌, ◌≡◌}
use Rattle.base.specs.Count.{filled}
use Rattle.rules.specs.{Plan.no_string, Text.lines_of}
use Rattle.layouts.specs.inner.Versions.{meant_by}
use Rattle.naming.proofs.Periods.{named_to}
use Rattle.naming.proofs.multiples.plan_named.Given as goal

abbrev pub invariant-loop-i : goal.invariant-loop-i
invariant-loop-i l = record {
  few : l.n ≤ 10;
  here : l.strings ≡ filled 10 no_string (named_to (meant_by l.version) (lines_of l.text) l.i);
}
