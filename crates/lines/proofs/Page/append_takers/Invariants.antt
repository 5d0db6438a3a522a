use Rattle.std.proofs.Common.{◌≡◌, ◌++◌, ◌+◌, ◌*◌, ◌-◌, ◌≤◌}
use Rattle.base.specs.Count.{keep, up_from}
use Rattle.lines.specs.{Pages.text_of, Same.places_text, Sets.in_set}
use Rattle.lines.proofs.Page.append_takers.Given as goal

abbrev pub invariant-loop-place : goal.invariant-loop-place
invariant-loop-place l = record {
  short : l.page.len + 3 ≤ l.fn.self.len + 3 * l.place;
  so_far : text_of l.page ≡ text_of l.fn.self ++ places_text (keep (in_set l.set) (up_from 1 (l.place - 1)));
}
