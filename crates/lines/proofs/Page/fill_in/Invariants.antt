use Rattle.std.proofs.Common.{ℕ, ◌≡◌, ◌++◌, ◌+◌, ◌-◌, ◌*◌, ◌^◌, ◌<◌, ◌≤◌, length, map, drop, get_or}
use Rattle.rules.specs.Lines.{decimal, worded_in}
use Rattle.lines.specs.Pages.{text_of}
use Rattle.lines.proofs.Page.fill_in.Given as goal

abbrev pub invariant-loop-b : goal.invariant-loop-b
invariant-loop-b l = record {
  room : l.page.len + (length l.template - l.b-index) + 20 * length l.left ≤ l.fn.self.len + length l.template + 20 * length l.numbers;
  small : (k : ℕ) → get_or l.left k 0 < 2 ^ 64;
  whole : text_of l.page ++ worded_in (drop l.b-index l.template) (map decimal l.left)
      ≡ text_of l.fn.self ++ worded_in l.template (map decimal l.numbers);
}
