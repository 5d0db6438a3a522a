-- the try is found where it misses
use Rattle.base.proofs.Prelude.{◌∙◌, sym, [], ◌∷◌, subst}
use Rattle.base.specs.Count.{first_of}
use Rattle.tries.specs.{Tries.misses_on, inner.Openings.{try_of, Finds}}
use Rattle.tries.proofs.Searching.{finds_tested}
use Rattle.tries.proofs.search.tested.Goals as goal

pub returns : goal.returns
returns c =
    subst (λ t. Finds t (first_of (misses_on c.args.p) (try_of c.args.opening c.args.l ∷ []))) (sym c.then_some.ensures)
    (finds_tested (misses_on c.args.p) _ _ c.requires.small c.requires.l_bound c.misses_on.ensures)
