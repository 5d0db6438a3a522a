-- the closures are the definition's test and order
use Rattle.std.proofs.Common.{rules}
use Rattle.rules.specs.Run.{late_at, late_slot, none_ahead}
use Rattle.slots.proofs.choice.late_place.Goals as goal

pub returns-clause-exact : goal.returns-clause-exact
unfolding late_at
returns-clause-exact c = c.chosen_place.ensures.exact (late_slot c.args.day.0) none_ahead (λ s b h. search rules) (λ s r b h. search rules)
