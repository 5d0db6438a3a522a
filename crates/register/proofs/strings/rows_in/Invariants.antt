-- the lines from here on are those of what stands from here on, and those before are lawful
use Rattle.base.proofs.Prelude.{◌+◌, ◌-◌, ◌≤◌, ◌≡◌, map, length, take, drop}
use Rattle.base.specs.Count.{filled}
use Rattle.rules.specs.{Plan.no_string, Text.lines_of}
use Rattle.register.specs.Table.{row_string, rows_check}
use Rattle.register.proofs.strings.rows_in.Given as goal

abbrev pub invariant-loop-at : goal.invariant-loop-at
invariant-loop-at l =
    record {
      upto : l.n ≤ 10;
      many : l.n ≤ length (lines_of l.text);
      ten : length l.strings ≡ 10;
      inside : l.at ≤ length l.text;
      rest : drop l.n (lines_of l.text) ≡ lines_of (drop l.at l.text);
      same : rows_check 1 (lines_of l.text) ≡ rows_check (l.n + 1) (drop l.n (lines_of l.text));
      said : l.strings ≡ filled 10 no_string (map row_string (take l.n (lines_of l.text)));
    }

abbrev pub decreases-loop-at : goal.decreases-loop-at
decreases-loop-at l = length l.text - l.at
