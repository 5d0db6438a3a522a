-- the lines of the tests so far stand in the page
use Rattle.std.proofs.Common.{◌≡◌, ◌+◌, length, take}
use Rattle.base.specs.Count.{put_at}
use Rattle.boards.specs.{Board.tests_of, inner.Daily.tests_text}
use Rattle.boards.proofs.daily.put_tests.Given as goal

abbrev pub invariant-loop-t : goal.invariant-loop-t
invariant-loop-t l =
    let so_far = tests_text l.fn.head l.fn.d (take l.t-index l.t-items) in
    record {
      counted : l.t-items ≡ tests_of l.fn.diary;
      next : l.place ≡ l.fn.at + length so_far;
      stored : l.page ≡ put_at l.fn.at so_far l.fn.page;
    }
