use Rattle.std.proofs.Common.{refl}
use Rattle.lines.specs.Pages.{page_of, text_of}
use Rattle.lines.proofs.Growing.{page-same}
use Rattle.lines.proofs.pages.blank.Goals as goal

pub returns-clause-exact : goal.returns-clause-exact
unfolding page_of
returns-clause-exact c = page-same _ _ refl refl

pub returns-clause-empty : goal.returns-clause-empty
unfolding text_of
returns-clause-empty c = refl
