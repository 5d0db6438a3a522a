-- the deadline that comes first, or the day that was named
use Rattle.std.proofs.Common.{◌≡◌, min, sym, arith, rules}
use Rattle.rules.specs.Run.{slot_at}
use Rattle.run.proofs.Deadlines.{none-later, first-due}
use Rattle.run.proofs.day.next_event.Goals as goal

pub returns-in-Some : goal.returns-in-Some
returns-in-Some c =
    let first = first-due c.args.slots.now c.args.today c.in-Some.due c.in-Some.ensures.exact c.in-Some.ensures.within.0 in
    let least : c.min.result.0 ≡ min (slot_at c.args.slots.now c.in-Some.due).deadline.0 c.args.until.0 = rw c.min.ensures (search rules) in
    record {
      exact = record {
        after = omega (arith, first.later);
        latest = omega arith;
        none-due = λ j some later. omega (arith, first.none-due j some later);
      };
    }

pub returns-in-None : goal.returns-in-None
returns-in-None c = record {
  exact = record {
    after = c.requires;
    latest = omega arith;
    none-due = none-later c.args.slots.now c.args.today (sym c.in-None.ensures.exact) c.args.until.0;
  };
}
