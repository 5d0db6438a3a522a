-- at each event the code stands where the definition does, day by day
use Rattle.std.proofs.Common.{◌-◌, ◌≤◌}
use Rattle.rules.specs.{Release.releases_of, Run.history}
use Rattle.run.proofs.{Events.Standing, Booking.Booked}
use Rattle.run.proofs.walk.walk.Given as goal

abbrev pub invariant-loop-place : goal.invariant-loop-place
invariant-loop-place l = record {
  within : l.today.0 ≤ l.p.run.0;
  stands : Standing l.p (releases_of l.fn.rs) l.today.0 l.slots l.next l.tally;
  booked : Booked (history l.p (releases_of l.fn.rs) l.today.0) l.fn.list l.list l.book;
}

abbrev pub decreases-loop-place : goal.decreases-loop-place
decreases-loop-place l = l.p.run.0 - l.today.0
