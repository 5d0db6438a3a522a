-- the stretch is no longer than any of the days that it names
use Rattle.std.proofs.Common.{◌-◌, ◌≡◌, refl, sym, ap, ◌∙◌, arith}
use Rattle.days.specs.declared.Length.{Length}
use Rattle.rules.specs.Run.{slot_at}
use Rattle.laws.proofs.Steps.{use_of-free}
use Rattle.stretch.specs.Stretch.{part_days}
use Rattle.stretch.proofs.Spending.{days_off-free}
use Rattle.run.proofs.Stepping.{days_off-by, use_of-by}
use Rattle.run.proofs.day.use_days.Goals as goal

pub returns-in_default : goal.returns-in_default
returns-in_default c =
    let e = c.next_event.ensures.exact in
    let free = sym c.in_default.ensures.exact in
    let gap : c.days_to-gap.result.0 ≡ c.next_event.result.0 - c.args.today.0 = ap (λ (l : Length). l.0) c.days_to-gap.ensures.exact in
    record {
      exact = record {
        first = refl;
        used = sym (use_of-free _ free);
        after = sym (days_off-free _ _ free);
        some = omega (arith, gap, e.after);
        part = λ held. absurd (held free);
        latest = omega (arith, gap, e.after, e.latest);
        none-due = λ j some later. omega (arith, gap, e.after, e.none-due j some later);
      };
    }

pub returns : goal.returns
returns c =
    let ss = c.args.slots.now in
    let h = c.in-Some.holder in
    let holds = c.in-Some.ensures.exact in
    let some = c.in-Some.ensures.within.0 in
    let e = c.next_event.ensures.exact in
    let k = c.max.result in
    let gap : c.days_to-gap.result.0 ≡ c.next_event.result.0 - c.args.today.0 = ap (λ (l : Length). l.0) c.days_to-gap.ensures.exact in
    let part : c.part_left.result.0 ≡ part_days (slot_at ss h).job = ap (λ (l : Length). l.0) c.part_left.ensures.exact in
    record {
      exact = record {
        first = refl;
        used = c.use_for.ensures.exact ∙ use_of-by ss h holds some;
        after = days_off-by ss h holds some k c.spent_by.result c.spent_by.ensures.exact;
        some = omega arith;
        part = λ held. rw (← holds) (omega (arith, gap));
        latest = omega (arith, gap, e.after, e.latest);
        none-due = λ j some later. omega (arith, gap, e.after, e.none-due j some later);
      };
    }
