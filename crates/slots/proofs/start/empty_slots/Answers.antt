-- each slot is that of its string
use Rattle.std.proofs.Common.{rules, arith}
use Rattle.rules.specs.{Plan.no_string, Run.{no_slot}}
use Rattle.slots.proofs.EmptySlots.{each-emptied}
use Rattle.slots.proofs.start.empty_slots.Goals as goal

pub returns : goal.returns
returns c =
    let mapped = c.map.ensures.items in
    record {
      exact = each-emptied c.args.strings c.map.result (omega (arith, mapped.long))
          (λ j h. let called = mapped.at j no_string no_slot (rw mapped.long at h) in search rules);
    }
