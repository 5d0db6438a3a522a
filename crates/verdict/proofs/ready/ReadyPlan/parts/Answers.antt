-- The next string is lawful, and its part stands at its place.
use Rattle.base.proofs.Prelude.{◌≡◌, refl, sym, ap, ◌∙◌, arith, get_or, length-set}
use Rattle.rules.specs.{declared.BatteryString.BatteryString, Plan.no_string}
use Rattle.base.proofs.Filling.{below_set}
use Rattle.verdict.specs.inner.Steps.{job_of}
use Rattle.verdict.proofs.StringSums.{walk-few, walk-count, walk-string, walk-same}
use Rattle.verdict.proofs.ready.ReadyPlan.parts.Goals as goal

pub loop-i-init : goal.loop-i-init
loop-i-init c = record {
  all = c.strings-s-items.ensures;
  every_size = refl;
  keeps_size = refl;
  takes_size = refl;
  times = λ j h. absurd (omega arith);
  kept = λ j h. absurd (omega arith);
  took = λ j h. absurd (omega arith);
}

pub job_of-requires : goal.job_of-requires
job_of-requires c = walk-string c.args.self.plan c.args.self.ready _ c.loop-i.invariant.all _ c.loop-i-test.true

pub job_of-requires-in-loop-i : goal.job_of-requires-in-loop-i
job_of-requires-in-loop-i c = walk-string c.args.self.plan c.args.self.ready _ c.loop-i.invariant.all _ c.loop-i-test.true

pub offset_bounds-every-i : goal.offset_bounds-every-i
offset_bounds-every-i c = omega (arith, walk-few c.args.self.plan c.args.self.ready _ c.loop-i.invariant.all)

pub bounds-every-i : goal.bounds-every-i
bounds-every-i c = omega (arith, walk-few c.args.self.plan c.args.self.ready _ c.loop-i.invariant.all)

pub offset_bounds-keeps-i : goal.offset_bounds-keeps-i
offset_bounds-keeps-i c = omega (arith, walk-few c.args.self.plan c.args.self.ready _ c.loop-i.invariant.all)

pub bounds-keeps-i : goal.bounds-keeps-i
bounds-keeps-i c = omega (arith, walk-few c.args.self.plan c.args.self.ready _ c.loop-i.invariant.all)

pub offset_bounds-takes-i : goal.offset_bounds-takes-i
offset_bounds-takes-i c = omega (arith, walk-few c.args.self.plan c.args.self.ready _ c.loop-i.invariant.all)

pub bounds-takes-i : goal.bounds-takes-i
bounds-takes-i c = omega (arith, walk-few c.args.self.plan c.args.self.ready _ c.loop-i.invariant.all)

pub loop-i-preserved : goal.loop-i-preserved
loop-i-preserved c =
    let p = c.args.self.plan in
    let inv = c.loop-i.invariant in
    let i = c.loop-i.i in
    let few = walk-few p c.args.self.ready _ inv.all in
    let same = walk-same p c.args.self.ready _ inv.all i c.loop-i-test.true in
    record {
      all = inv.all;
      every_size = length-set c.loop-i.every i _ ∙ inv.every_size;
      keeps_size = length-set c.loop-i.keeps i _ ∙ inv.keeps_size;
      takes_size = length-set c.loop-i.takes i _ ∙ inv.takes_size;
      times = below_set (λ j v. v ≡ (get_or p.strings j no_string).t.0) c.loop-i.every i _ 0 (omega (arith, inv.every_size)) inv.times
          (sym (ap (λ (s : BatteryString). s.t.0) same));
      kept = below_set (λ j v. v ≡ job_of p 0 (get_or p.strings j no_string)) c.loop-i.keeps i _ 0 (omega (arith, inv.keeps_size))
          inv.kept (c.job_of.ensures ∙ sym (ap (job_of p 0) same));
      took = below_set (λ j v. v ≡ job_of p 1 (get_or p.strings j no_string)) c.loop-i.takes i _ 0 (omega (arith, inv.takes_size))
          inv.took (c.job_of-in-loop-i.ensures ∙ sym (ap (job_of p 1) same));
    }

pub invariant_of-result : goal.invariant_of-result
invariant_of-result c =
    let inv = c.loop-i.invariant in
    let past = walk-count c.args.self.plan c.args.self.ready _ inv.all in
    record {
      parted = record {
        times = λ j h. inv.times j (omega (arith, c.loop-i-test.false));
        kept = λ j h. inv.kept j (omega (arith, c.loop-i-test.false));
        took = λ j h. inv.took j (omega (arith, c.loop-i-test.false));
      };
    }
