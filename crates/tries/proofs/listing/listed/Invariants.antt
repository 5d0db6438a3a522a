-- what is stored so far, and what is still to come, is the list of the try; in a day, whatever comes after it
use Rattle.std.proofs.Common.{◌≡◌, ◌+◌, ◌≤◌, List, ◌++◌}
use Rattle.rules.specs.{Plan.strings_of, declared.Release.Release}
use Rattle.tries.specs.{Tries.list_of, inner.Openings.{head_of, try_of}}
use Rattle.tries.proofs.{DayByDay.{days_from, places_from}, Packing.Packing}
use Rattle.tries.proofs.listing.listed.Given as goal

abbrev pub invariant-loop-t : goal.invariant-loop-t
invariant-loop-t l =
    Packing (list_of l.fn.p (try_of l.fn.o l.fn.l)) (days_from l.fn.p (head_of l.fn.o) l.fn.o.lead l.fn.o.delay l.fn.l l.t) l.list l.count

abbrev pub invariant-loop-i : goal.invariant-loop-i
invariant-loop-i l =
    record {
      counted : l.s-items ≡ strings_of l.fn.p;
      few : l.count ≤ 1000;
      packing : (all left : List Release)
          → Packing all (places_from l.fn.p (head_of l.fn.o) l.fn.o.lead l.fn.o.delay l.fn.l l.t 1 ++ left) l.initial.list l.initial.count
          → Packing all (places_from l.fn.p (head_of l.fn.o) l.fn.o.lead l.fn.o.delay l.fn.l l.t (l.i + 1) ++ left) l.list l.count;
    }
