-- the closures are the definition's test and order
use Rattle.std.proofs.Common.{rules}
use Rattle.rules.specs.Run.{next_up, waits, goes_first}
use Rattle.slots.proofs.choice.next_place.Goals as goal

pub returns-clause-exact : goal.returns-clause-exact
unfolding next_up
returns-clause-exact c =
    c.chosen_place.ensures.exact (λ s. waits s.job) goes_first (λ s b h. search rules) (λ s r b h. search rules)
