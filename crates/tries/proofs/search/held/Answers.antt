-- where the plan's own rule breaks, the search there; elsewhere there is no try
use Rattle.base.proofs.Prelude.{sym, ap, ◌∙◌}
use Rattle.base.specs.Count.{first_of}
use Rattle.base.proofs.FirstOf.{first_of-end}
use Rattle.tries.specs.Tries.{own_break, held_tries, misses_on}
use Rattle.tries.proofs.{OwnBreak.{nowhere_said, there_said, broken-interval, broken-blocking}, Searching.finds-as}
use Rattle.tries.proofs.search.held.Goals as goal

pub returns-in_err-broken : goal.returns-in_err-broken
returns-in_err-broken c =
    let p = c.args.p in
    let nowhere = nowhere_said (own_break p) (sym c.in_err-broken.was ∙ c.where_broken.ensures) in
    rw c.from_residual.ensures (ap (λ q. first_of (misses_on p) (held_tries p q)) nowhere ∙ first_of-end (misses_on p))

pub held_at-requires : goal.held_at-requires
held_at-requires c =
    let said = sym c.in_ok-broken.was ∙ c.where_broken.ensures in
    record {
      ready = c.requires;
      l_bound = broken-interval c.args.p c.requires c.in_ok-broken.broken said;
      b_bound = broken-blocking c.args.p c.requires c.in_ok-broken.broken said;
    }

pub returns : goal.returns
returns c =
    let p = c.args.p in
    let there = there_said (own_break p) c.in_ok-broken.broken (sym c.in_ok-broken.was ∙ c.where_broken.ensures) in
    finds-as c.held_at.result _ _ (ap (λ q. first_of (misses_on p) (held_tries p q)) (sym there)) c.held_at.ensures
