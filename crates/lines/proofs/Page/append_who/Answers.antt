use Rattle.std.proofs.Common.{◌∙◌, sym, append_assoc, arith}
use Rattle.rules.specs.Lines.{bytes_of}
use Rattle.lines.specs.{Sets.{takers_of}}
use Rattle.lines.proofs.TakersText.{worded-none, worded-one, worded-more}
use Rattle.lines.proofs.Page.append_who.Goals as goal

pub returns-in-0-clause-exact : goal.returns-in-0-clause-exact
unfolding bytes_of
returns-in-0-clause-exact c = rw (worded-none (takers_of c.args.set) (sym c.takers_in.ensures.exact ∙ c.in-0.is)) c.append.ensures.exact

pub returns-in-1-clause-exact : goal.returns-in-1-clause-exact
unfolding bytes_of
returns-in-1-clause-exact c =
    rw (worded-one (takers_of c.args.set) (sym c.takers_in.ensures.exact ∙ c.in-1.is))
    (rw (c.append-in-1.ensures.exact, append_assoc) at c.append_takers.ensures.exact)

pub returns-in_default-clause-exact : goal.returns-in_default-clause-exact
unfolding bytes_of
returns-in_default-clause-exact c =
    rw (worded-more (takers_of c.args.set) (λ e. omega arith) (λ e. omega arith))
    (rw (c.append-in_default.ensures.exact, append_assoc) at c.append_takers-in_default.ensures.exact)
