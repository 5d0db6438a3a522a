-- the releases from `next` on have still to join
use Rattle.std.proofs.Common.{◌-◌, length}
use Rattle.run.specs.inner.Join.{Joining}
use Rattle.run.proofs.release.join_today.Given as goal

abbrev pub invariant-loop-next : goal.invariant-loop-next
invariant-loop-next l = Joining l.p l.releases l.fn.today.0 l.fn.next l.slots l.next

abbrev pub decreases-loop-next : goal.decreases-loop-next
decreases-loop-next l = length l.releases - l.next
