-- the four parts of the tries, one after the other
use Rattle.base.proofs.Prelude.{List, ◌++◌, ◌≡◌, sym, ap, ◌∙◌, append_assoc, rules}
use Rattle.base.specs.Count.{first_of}
use Rattle.rules.specs.declared.Plan.{Plan}
use Rattle.tries.specs.Tries.{Try, free_break, free_tries, own_break, held_tries, stopped_tries, paid_tries, tries, misses_on, found}
use Rattle.tries.proofs.Searching.{finds-as, finds_or}
use Rattle.tries.proofs.search.first_that_misses.Goals as goal

module _ (p : Plan) where
  abbrev free : List Try
  free = free_tries p (free_break p)

  abbrev held : List Try
  held = held_tries p (own_break p)

  all-of-them : first_of (misses_on p) (((free ++ held) ++ stopped_tries p) ++ paid_tries p) ≡ found p
  unfolding found tries
  all-of-them =
      ap (first_of (misses_on p)) (append_assoc (free ++ held) (stopped_tries p) (paid_tries p)
      ∙ append_assoc free held (stopped_tries p ++ paid_tries p))

pub returns : goal.returns
returns c =
    let p = c.args.p in
    let f = misses_on p in
    let two = finds_or f (free p) (held p) c.blocked.result c.or_else.result c.blocked.ensures (search rules) in
    let three = finds_or f (free p ++ held p) (stopped_tries p) c.or_else.result c.or_else-2.result two (search rules) in
    let four =
    finds_or f ((free p ++ held p) ++ stopped_tries p) (paid_tries p) c.or_else-2.result c.or_else-3.result three (search rules) in
    finds-as c.or_else-3.result _ _ (all-of-them p) four
