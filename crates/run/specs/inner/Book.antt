-- The stints of a run as it goes, and what stands of them in the lent list.
--     Writable b            the numbers of the book fit the code's words
--     stored_at k s list     the list with the five numbers of s at the place of the stint with index k, where there is room for them
--     closed_count b, closed_list b list      how many stints there are, and the list, once the last is finished; it counts if it has a day
--     noted_book b s, noted_list b s list     the book and the list once the stretch s has come: the last stint goes on, or s
--                           begins another
use Rattle.std.specs.Prelude.{ℕ, ◌+◌, ◌*◌, ◌≤◌, ◌<◌, ◌^◌, cond, List, eqb, leb, length}
use Rattle.base.specs.Count.{put_at}
use Rattle.rules.specs.declared.Stint.{Stint}
use Rattle.rules.specs.Stints.{same_use, stint, place_used, release_used, stint_numbers}
use Rattle.run.specs.declared.book.Book.{Book}

pub record Writable (b : Book) : Type 0 where
  pub few : b.finished ≤ 1000000
  pub place : place_used b.current.used < 2 ^ 32
  pub release : release_used b.current.used < 2 ^ 32

unfoldable pub stored_at : ℕ → Stint → List ℕ → List ℕ
stored_at k s list = cond (leb (5 * k + 5) (length list)) (put_at (5 * k) (stint_numbers s) list) list

unfoldable pub closed_count : Book → ℕ
closed_count b = cond (eqb b.current.length.0 0) b.finished (b.finished + 1)

unfoldable pub closed_list : Book → List ℕ → List ℕ
closed_list b list = cond (eqb b.current.length.0 0) list (stored_at b.finished b.current list)

abbrev longer : Stint → ℕ → Stint
longer s n = stint s.first.0 (s.length.0 + n) s.used

unfoldable pub noted_book : Book → Stint → Book
noted_book b s =
    cond (same_use b.current.used s.used)
    (record { finished = b.finished; current = longer b.current s.length.0 })
    (record { finished = closed_count b; current = s })

unfoldable pub noted_list : Book → Stint → List ℕ → List ℕ
noted_list b s list = cond (same_use b.current.used s.used) list (closed_list b list)
