-- each string makes the largest larger, or not
use Rattle.base.proofs.Prelude.{ap, ◌∙◌}
use Rattle.base.specs.Count.{largest}
use Rattle.rules.specs.declared.BatteryString.{BatteryString}
use Rattle.exact.specs.Missing.{most_late}
use Rattle.tries.proofs.Places.{most-next, most-end}
use Rattle.tries.proofs.openings.most_late.Goals as goal

pub loop-s-preserved : goal.loop-s-preserved
loop-s-preserved c = record {
  counted = c.loop-s.invariant.counted;
  most = most-next c.loop-s.invariant.most c.loop-s-test.true _ c.max-most.ensures;
}

pub returns : goal.returns
unfolding most_late
returns c = most-end c.loop-s.invariant.most c.loop-s-test.false ∙ ap (largest (λ (s : BatteryString). s.j.0)) c.loop-s.invariant.counted
