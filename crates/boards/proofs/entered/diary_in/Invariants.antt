-- the lines from here on are those of what stands from here on, and those before are lawful
use Rattle.base.proofs.Prelude.{◌≡◌, ◌+◌, ◌-◌, ◌≤◌, length, take, drop}
use Rattle.base.specs.Count.{filled}
use Rattle.rules.specs.Text.{lines_of}
use Rattle.boards.specs.Input.{diary_check, diary_in, no_test}
use Rattle.boards.proofs.entered.diary_in.Given as goal

abbrev pub invariant-loop-at : goal.invariant-loop-at
invariant-loop-at l =
    let lines = lines_of (drop l.from l.text) in
    record {
      upto : l.diary.count ≤ 20;
      many : l.diary.count ≤ length lines;
      twenty : length l.diary.tests ≡ 20;
      inside : l.at ≤ length l.text;
      rest : drop l.diary.count lines ≡ lines_of (drop l.at l.text);
      same : diary_check 1 lines ≡ diary_check (l.diary.count + 1) (drop l.diary.count lines);
      said : l.diary.tests ≡ filled 20 no_test (diary_in (take l.diary.count lines));
    }

abbrev pub decreases-loop-at : goal.decreases-loop-at
decreases-loop-at l = length l.text - l.at
