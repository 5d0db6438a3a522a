-- the closures are the definition's test and order
use Rattle.std.proofs.Common.{rules, ltb, ◌&&◌}
use Rattle.rules.specs.Run.{left, due_before}
use Rattle.slots.proofs.choice.due_place.Goals as goal

pub returns-clause-exact : goal.returns-clause-exact
returns-clause-exact c =
    c.chosen_place.ensures.exact (λ s. ltb c.args.after.0 s.deadline.0 && ltb 0 (left s.job)) due_before (λ s b h. search rules)
    (λ s r b h. search rules)
