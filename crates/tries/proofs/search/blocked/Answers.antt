-- where the sharp rule with free moving breaks there is one try, elsewhere none
use Rattle.base.proofs.Prelude.{[], ◌∷◌, sym, ap, ◌∙◌, arith}
use Rattle.base.specs.Count.{first_of}
use Rattle.base.proofs.FirstOf.{first_of-end}
use Rattle.tries.specs.Tries.{free_tries, misses_on}
use Rattle.tries.proofs.{SharpBreaks.{free-near, free-blocking}, Searching.finds-as}
use Rattle.tries.proofs.search.blocked.Goals as goal

pub returns-in_err-found : goal.returns-in_err-found
returns-in_err-found c =
    let p = c.args.p in
    rw c.from_residual.ensures
    (ap (λ y. first_of (misses_on p) (free_tries p y)) c.in_err-found.ensures ∙ first_of-end (misses_on p))

pub blocking-requires : goal.blocking-requires
blocking-requires c = record {
  ready = c.requires;
  blocks = c.in_ok-found.ensures.0;
  few = free-blocking c.args.p c.requires.lawful _ c.in_ok-found.ensures.1;
}

pub tested-requires : goal.tested-requires
tested-requires c = record {
  ready = c.requires;
  small = c.blocking.ensures.small;
  l_bound = omega (arith, free-near c.args.p c.requires.lawful _ c.in_ok-found.ensures.1, c.requires.lawful.h_max);
}

pub returns : goal.returns
returns c =
    let p = c.args.p in
    let there = ap (λ y. first_of (misses_on p) (free_tries p y)) (sym c.in_ok-found.ensures.1) in
    finds-as c.tested.result _ _ (ap (λ y. first_of (misses_on p) (y ∷ [])) c.blocking.ensures.opens ∙ there) c.tested.ensures
