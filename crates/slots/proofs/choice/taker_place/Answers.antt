-- the closures are the definition's test and order
use Rattle.std.proofs.Common.{rules}
use Rattle.rules.specs.Run.{may_take, due_before}
use Rattle.slots.proofs.choice.taker_place.Goals as goal

pub returns-clause-exact : goal.returns-clause-exact
returns-clause-exact c =
    c.chosen_place.ensures.exact (may_take c.args.day.0 c.args.due.0) due_before (λ s b h. search rules) (λ s r b h. search rules)
