-- the first releases are stored one after the other
use Rattle.base.proofs.Prelude.{◌+◌, ◌≤◌, [], refl, ap, ◌∙◌, arith}
use Rattle.std.specs.Prelude.{option_to_list}
use Rattle.tries.specs.inner.Openings.{head_of}
use Rattle.tries.proofs.Packing.{Packing, packing-as, packing-more, packing-end, begun-first, begun-without}
use Rattle.tries.proofs.listing.begun.Goals as goal
use Rattle.tries.proofs.listing.begun.Goals.{in-Some, in_default}

pub returns-in-Some-taker : goal.returns-in-Some-taker
returns-in-Some-taker c =
    let kept : Packing (head_of c.args.o) (option_to_list c.args.o.taker) c.match-o.list c.match-o.count × (c.match-o.count ≤ 1) =
    elim c.match-o.branch [
      | in-Some w ↦ (rw (w.list-is, w.count-is) (begun-first c.args.o w.in-Some.first w.in-Some.is), omega (arith, w.count-is))
      | in_default w ↦ (rw (w.list-is, w.count-is) (begun-without c.args.o w.in_default.is), omega (arith, w.count-is))
    ] in
    let more = packing-more _ _ _ _ kept.0 c.in-Some-taker.taker [] (ap option_to_list c.in-Some-taker.is) (omega (arith, kept.1)) in
    packing-end _ _ _ _ more refl

pub returns-in_default-taker : goal.returns-in_default-taker
returns-in_default-taker c =
    let kept : Packing (head_of c.args.o) (option_to_list c.args.o.taker) c.match-o.list c.match-o.count =
    elim c.match-o.branch [
      | in-Some w ↦ rw (w.list-is, w.count-is) (begun-first c.args.o w.in-Some.first w.in-Some.is)
      | in_default w ↦ rw (w.list-is, w.count-is) (begun-without c.args.o w.in_default.is)
    ] in
    packing-end _ _ _ _ kept (ap option_to_list c.in_default-taker.is)
