-- each string makes the longest longer, or not
use Rattle.base.proofs.Prelude.{◌∙◌, max, ap, arith}
use Rattle.base.specs.Count.{largest}
use Rattle.rules.specs.Demand.{blocker_hold}
use Rattle.tries.proofs.Places.{most-next, most-end, lawful-here}
use Rattle.tries.specs.Tries.{longest_block}
use Rattle.tries.proofs.breaks.longest_block.Goals as goal

pub blocker_days-requires : goal.blocker_days-requires
blocker_days-requires c = lawful-here c.requires c.loop-s.invariant.counted c.loop-s.s-index c.loop-s-test.true

pub loop-s-preserved : goal.loop-s-preserved
loop-s-preserved c = record {
  counted = c.loop-s.invariant.counted;
  most = most-next c.loop-s.invariant.most c.loop-s-test.true _
      (c.max-most.ensures ∙ ap (λ d. max d c.loop-s.most) c.blocker_days.ensures);
}

pub returns : goal.returns
unfolding longest_block
returns c =
    let all = most-end c.loop-s.invariant.most c.loop-s-test.false in
    omega (arith, c.min.ensures, ap (largest (blocker_hold c.args.p c.args.l)) c.loop-s.invariant.counted)
