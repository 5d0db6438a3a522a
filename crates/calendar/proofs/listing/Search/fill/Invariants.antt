-- What is stored so far and what is left make the whole; the places behind are as they were.
use Rattle.base.proofs.Prelude.{◌≤◌}
use Rattle.base.proofs.Storing.{Stored}
use Rattle.calendar.specs.Yearly.{yearly_days}
use Rattle.calendar.proofs.YearByYear.{left_from}
use Rattle.calendar.proofs.listing.Search.fill.Given as goal

abbrev pub invariant-loop-k : goal.invariant-loop-k
invariant-loop-k l =
    let s = l.self in
    let all = yearly_days s.test.edition s.test.on s.first s.last in
    let left = left_from s.test.edition s.test.on s.first s.last l.k in
    (l.k ≤ 400) × Stored all left l.initial.list l.list l.at
