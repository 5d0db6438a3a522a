use Rattle.lines.proofs.Putting.{no-room, room}
use Rattle.lines.proofs.pages.put_text.Goals as goal

pub returns-then-page-len-clause-exact : goal.returns-then-page-len-clause-exact
returns-then-page-len-clause-exact c = (no-room c.args.text.now c.args.page.now c.if-page-len.true).0

pub returns-then-page-len-clause-page : goal.returns-then-page-len-clause-page
returns-then-page-len-clause-page c = (no-room c.args.text.now c.args.page.now c.if-page-len.true).1

pub returns-clause-exact : goal.returns-clause-exact
returns-clause-exact c = (room c.args.text.now c.args.page.now c.if-page-len.false).0

pub returns-clause-page : goal.returns-clause-page
returns-clause-page c = rw c.copy_from_slice.ensures.after (room c.args.text.now c.args.page.now c.if-page-len.false).1
