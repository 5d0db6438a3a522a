-- the first that blocks for longest
use Rattle.base.proofs.Prelude.{arith}
use Rattle.why.proofs.Walking.{ready, why-string-there, behind-none, behind-next, behind-found, behind-all}
use Rattle.why.proofs.checked.CheckedPlan.blocker_place.Goals as goal

pub loop-i-init : goal.loop-i-init
loop-i-init c = record {
  counted = c.strings-s-items.ensures.exact;
  behind = behind-none c.args.self.now c.args.l c.longest_block-most.result c.longest_block-most.ensures.exact;
}

pub blocks_for-requires : goal.blocks_for-requires
blocks_for-requires c =
    let inside = rw c.loop-i.invariant.counted at c.loop-i-test.true in
    rw c.loop-i.invariant.counted (why-string-there c.args.self.now c.loop-i.i inside)

pub returns-then-blocks_for-most : goal.returns-then-blocks_for-most
returns-then-blocks_for-most c =
    let inside = rw c.loop-i.invariant.counted at c.loop-i-test.true in
    let holds = rw c.loop-i.invariant.counted at c.blocks_for.ensures.exact in
    record {
      exact = behind-found c.args.self.now c.args.l c.longest_block-most.result c.loop-i.i c.blocks_for.result c.loop-i.invariant.behind
          inside holds c.if-blocks_for-most.true;
    }

pub loop-i-preserved : goal.loop-i-preserved
loop-i-preserved c =
    let holds = rw c.loop-i.invariant.counted at c.blocks_for.ensures.exact in
    record {
      counted = c.loop-i.invariant.counted;
      behind = behind-next c.args.self.now c.args.l c.longest_block-most.result c.loop-i.i c.blocks_for.result c.loop-i.invariant.behind
          holds c.if-blocks_for-most.false;
    }

pub overflow_add-result-2 : goal.overflow_add-result-2
overflow_add-result-2 c = omega (arith, (ready c.args.self.now).lawful.n_max)

pub returns : goal.returns
returns c =
    let past = rw c.loop-i.invariant.counted at c.loop-i-test.false in
    record { exact = behind-all c.args.self.now c.args.l c.longest_block-most.result c.loop-i.i c.loop-i.invariant.behind past }
