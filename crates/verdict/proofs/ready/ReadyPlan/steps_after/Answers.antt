-- The next string is lawful, and its step stands at its place.
use Rattle.base.proofs.Prelude.{◌<◌, ◌≡◌, refl, sym, ap, ◌∙◌, arith, length, get_or, length-set}
use Rattle.rules.specs.Plan.{no_string}
use Rattle.base.proofs.Filling.{below_set}
use Rattle.verdict.specs.inner.Steps.{step_after}
use Rattle.verdict.proofs.StringSums.{walk-few, walk-count, walk-string, walk-same}
use Rattle.verdict.proofs.ready.ReadyPlan.steps_after.Goals as goal

pub loop-i-init : goal.loop-i-init
loop-i-init c = record { all = c.strings-s-items.ensures; size = refl; done = λ j h. absurd (omega arith) }

pub step_of-requires-clause-lawful_string : goal.step_of-requires-clause-lawful_string
step_of-requires-clause-lawful_string c =
    (walk-string c.args.self.plan c.args.self.ready _ c.loop-i.invariant.all _ c.loop-i-test.true).lawful

pub offset_bounds-next-i : goal.offset_bounds-next-i
offset_bounds-next-i c = omega (arith, walk-few c.args.self.plan c.args.self.ready _ c.loop-i.invariant.all)

pub bounds-next-i : goal.bounds-next-i
bounds-next-i c = omega (arith, walk-few c.args.self.plan c.args.self.ready _ c.loop-i.invariant.all)

pub loop-i-preserved : goal.loop-i-preserved
loop-i-preserved c =
    let p = c.args.self.plan in
    let l = c.args.l in
    let inv = c.loop-i.invariant in
    let room : c.loop-i.i < length c.loop-i.next = omega (arith, inv.size, walk-few p c.args.self.ready _ inv.all) in
    let same = ap (step_after l) (walk-same p c.args.self.ready _ inv.all c.loop-i.i c.loop-i-test.true) in
    record {
      all = inv.all;
      size = length-set c.loop-i.next c.loop-i.i _ ∙ inv.size;
      done = below_set (λ j v. v ≡ step_after l (get_or p.strings j no_string)) c.loop-i.next c.loop-i.i _ 0 room inv.done
          (c.step_of.ensures ∙ sym same);
    }

pub returns : goal.returns
returns c =
    let inv = c.loop-i.invariant in
    let past = walk-count c.args.self.plan c.args.self.ready _ inv.all in
    record { size = inv.size; each = λ j h. inv.done j (omega (arith, c.loop-i-test.false)) }
