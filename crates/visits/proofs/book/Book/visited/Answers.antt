-- What is kept has room in the book.
use Rattle.base.proofs.Prelude.{sym}
use Rattle.visits.proofs.Kept.{kept-fits}
use Rattle.visits.proofs.book.Book.visited.Goals as goal

pub enter-requires-clause-le_release : goal.enter-requires-clause-le_release
enter-requires-clause-le_release c = (kept-fits _ _ c.requires (sym c.if-not-keeps.ensures.exact)).named

pub enter-requires-clause-end_bound : goal.enter-requires-clause-end_bound
enter-requires-clause-end_bound c = (kept-fits _ _ c.requires (sym c.if-not-keeps.ensures.exact)).ends

pub enter-requires-clause-length_bound : goal.enter-requires-clause-length_bound
enter-requires-clause-length_bound c = (kept-fits _ _ c.requires (sym c.if-not-keeps.ensures.exact)).had

pub enter-requires-clause-release_bound : goal.enter-requires-clause-release_bound
enter-requires-clause-release_bound c = (kept-fits _ _ c.requires (sym c.if-not-keeps.ensures.exact)).asked
