-- the text stands in the part of the page that starts at the place
use Rattle.boards.proofs.InPlace.{copied-in}
use Rattle.boards.proofs.daily.put.Goals as goal

pub returns-clause-stored : goal.returns-clause-stored
returns-clause-stored c = rw c.copy_from_slice.ensures.after (copied-in c.args.at c.args.text.now c.args.page.now)
