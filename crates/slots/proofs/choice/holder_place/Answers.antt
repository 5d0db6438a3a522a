-- the closures are the definition's test and order
use Rattle.std.proofs.Common.{rules}
use Rattle.rules.specs.Run.{holder, on_bank, none_ahead}
use Rattle.slots.proofs.choice.holder_place.Goals as goal

pub returns-clause-exact : goal.returns-clause-exact
unfolding holder
returns-clause-exact c = c.chosen_place.ensures.exact (λ s. on_bank s.job) none_ahead (λ s b h. search rules) (λ s r b h. search rules)
