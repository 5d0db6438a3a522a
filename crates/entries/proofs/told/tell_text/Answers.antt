-- the text of the page goes into the lent one
use Rattle.std.proofs.lemmas.Grind.{common_steps}
use Rattle.base.proofs.Prelude.{arith}
use Rattle.lines.specs.Pages.{text_of}
use Rattle.entries.proofs.told.tell_text.Goals as goal

pub returns : goal.returns
unfolding text_of
returns c = record { exact = c.put_text.ensures.exact; page = c.put_text.ensures.page }
