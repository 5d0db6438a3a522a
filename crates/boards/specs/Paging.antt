-- The board page by page (document 02, W-214), from the stints of a run in a lent list of numbers, five for each (rules/specs/Stints).
--     uses_in list k n       what the bank did day by day, by n stints of a list from that with index k on; a stint that lacks a number has
--                           no days
--     in_calendar k us       those of the uses us, the first of which is that of day k, whose days are in the calendar
--     fitted room k ts us   what is written of days in a row, as board_from, of the first of them that fit into `room` bytes, whole days
--     days_fitted room k ts us       how many days these are
--     page_uses b list t     the uses of the board b from day t of its run on
--     page_text b list t room        what a page of `room` bytes holds of the board from day t of its run on
--     page_filled b list t room      how many days that are, and how many bytes
--     page_after b list t page       the page afterwards: that text, and then its own later bytes
--     pages_from n b list room t     n pages in a row, the first from day t of the run on, each from where the one before it ended
use Rattle.std.specs.Prelude.{ℕ, zero, suc, ◌+◌, ◌-◌, cond, List, [], ◌∷◌, ◌++◌, map, leb, length, take, drop}
use Rattle.base.specs.Count.{up_from}
use Rattle.calendar.specs.Numbers.{last_day}
use Rattle.rules.specs.declared.Use.{Use}
use Rattle.run.specs.Numbers.{stint_at}
use Rattle.stretch.specs.Stints.{spelled}
use Rattle.boards.specs.declared.Test.{Test}
use Rattle.boards.specs.declared.Board.{Board}
use Rattle.boards.specs.declared.Filled.{Filled}
use Rattle.boards.specs.Board.{board_day, tests_of}

unfoldable pub uses_in : List ℕ → ℕ → ℕ → List Use
uses_in list k n = spelled (map (stint_at list) (up_from k n))

abbrev pub in_calendar : ℕ → List Use → List Use
in_calendar k us = take (last_day + 1 - k) us

unfoldable pub fitted : ℕ → ℕ → List Test → List Use → List ℕ
fitted room k ts [] = []
fitted room k ts (u ∷ us) =
    let more = board_day k ts u ++ fitted (room - length (board_day k ts u)) (suc k) ts us in
    cond (leb (length (board_day k ts u)) room) more []

unfoldable pub days_fitted : ℕ → ℕ → List Test → List Use → ℕ
days_fitted room k ts [] = 0
days_fitted room k ts (u ∷ us) =
    let more = suc (days_fitted (room - length (board_day k ts u)) (suc k) ts us) in
    cond (leb (length (board_day k ts u)) room) more 0

unfoldable pub page_uses : Board → List ℕ → ℕ → List Use
page_uses b list t = in_calendar (b.start.0 + t) (drop t (uses_in list 0 b.stints))

unfoldable pub page_text : Board → List ℕ → ℕ → ℕ → List ℕ
page_text b list t room = fitted room (b.start.0 + t) (tests_of b.diary) (page_uses b list t)

unfoldable pub page_filled : Board → List ℕ → ℕ → ℕ → Filled
page_filled b list t room =
    record {
      days = days_fitted room (b.start.0 + t) (tests_of b.diary) (page_uses b list t);
      length = length (page_text b list t room);
    }

abbrev pub page_after : Board → List ℕ → ℕ → List ℕ → List ℕ
page_after b list t page =
    page_text b list t (length page) ++ drop (length (page_text b list t (length page))) page

unfoldable pub pages_from : ℕ → Board → List ℕ → ℕ → ℕ → List ℕ
pages_from zero b list room t = []
pages_from (suc n) b list room t = page_text b list t room ++ pages_from n b list room (t + (page_filled b list t room).days)
