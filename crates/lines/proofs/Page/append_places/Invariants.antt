use Rattle.std.proofs.Common.{◌≡◌, ◌++◌, ◌+◌, ◌*◌, ◌≤◌, take}
use Rattle.lines.specs.{Pages.text_of, Same.places_text}
use Rattle.lines.proofs.Page.append_places.Given as goal

abbrev pub invariant-loop-place : goal.invariant-loop-place
invariant-loop-place l = record {
  short : l.page.len ≤ l.fn.self.len + 21 * l.place-index;
  so_far : text_of l.page ≡ text_of l.fn.self ++ places_text (take l.place-index l.places);
}
