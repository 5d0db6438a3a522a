-- the larger of the longest so far and of the next
use Rattle.why.proofs.Walking.{why-string-there, longest-none, longest-next, longest-all}
use Rattle.why.proofs.checked.CheckedPlan.longest_block.Goals as goal

pub loop-s-init : goal.loop-s-init
loop-s-init c = record { counted = c.strings-s-items.ensures.exact; longest = longest-none c.args.self.now c.args.l }

pub blocks_for-requires : goal.blocks_for-requires
blocks_for-requires c =
    let inside = rw c.loop-s.invariant.counted at c.loop-s-test.true in
    rw c.loop-s.invariant.counted (why-string-there c.args.self.now c.loop-s.s-index inside)

pub loop-s-preserved : goal.loop-s-preserved
loop-s-preserved c =
    let inside = rw c.loop-s.invariant.counted at c.loop-s-test.true in
    let holds = rw c.loop-s.invariant.counted at c.blocks_for.ensures.exact in
    record {
      counted = c.loop-s.invariant.counted;
      longest = longest-next c.args.self.now c.args.l c.loop-s.most c.loop-s.s-index c.blocks_for.result _ c.loop-s.invariant.longest inside
          holds c.max-most.ensures;
    }

pub returns : goal.returns
returns c =
    let past = rw c.loop-s.invariant.counted at c.loop-s-test.false in
    record { exact = longest-all c.args.self.now c.args.l c.loop-s.most c.loop-s.s-index c.loop-s.invariant.longest past }
