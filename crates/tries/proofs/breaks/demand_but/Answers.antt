-- each string adds what it asks, but for the one that is left out
use Rattle.base.proofs.Prelude.{◌+◌, refl, sym, ap, ◌∙◌, arith}
use Rattle.tries.proofs.{Places.{lawful-here}, Demanding.{Summed, summed_start, summed-end, summed_few, asked_little, summed-own, summed-next, other_place, same_place}}
use Rattle.tries.proofs.breaks.demand_but.Goals as goal
use Rattle.tries.proofs.breaks.demand_but.Goals.{then-ne, else-ne}

pub loop-i-init : goal.loop-i-init
loop-i-init c = record { counted = refl; summed = summed_start c.requires.ready }

pub asks-sum-requires-clause-plan_string : goal.asks-sum-requires-clause-plan_string
asks-sum-requires-clause-plan_string c = lawful-here c.requires.ready c.loop-i.invariant.counted c.loop-i.i c.loop-i-test.true

pub overflow_add-sum : goal.overflow_add-sum
overflow_add-sum c =
    let few = summed_few c.requires.ready c.loop-i.invariant.counted c.loop-i.invariant.summed c.loop-i-test.true c.requires.l_bound in
    let little = asked_little c.requires.ready c.loop-i.invariant.counted c.loop-i.invariant.summed c.loop-i-test.true c.requires.l_bound in
    let small = c.loop-i.invariant.summed.small in
    omega (arith, c.asks-sum.ensures)

pub loop-i-preserved : goal.loop-i-preserved
loop-i-preserved c =
    elim c.if-ne.branch [
      | then-ne w ↦
          let other = other_place c.args.left_out (c.loop-i.i + 1) (omega arith) (sym c.ne.ensures ∙ w.if-ne.true) in
          let next = summed-next c.requires.ready c.loop-i.invariant.counted c.loop-i.invariant.summed c.loop-i-test.true c.requires.l_bound
          other in
          record {
            counted = c.loop-i.invariant.counted;
            summed = rw (w.sum-is, w.asks-sum.ensures) next;
          }
      | else-ne w ↦
          let own = same_place c.args.left_out (c.loop-i.i + 1) (sym c.ne.ensures ∙ w.if-ne.false) in
          let next = summed-own c.requires.ready c.loop-i.invariant.counted c.loop-i.invariant.summed c.loop-i-test.true c.requires.l_bound
          own in
          record { counted = c.loop-i.invariant.counted; summed = rw w.sum-is next }
    ]

pub returns : goal.returns
returns c = summed-end c.requires.ready c.loop-i.invariant.counted c.loop-i.invariant.summed c.loop-i-test.false
