use Rattle.rules.specs.Lines.{bytes_of, refused_line}
use Rattle.lines.proofs.parts.refused.Goals as goal

pub returns : goal.returns
unfolding bytes_of refused_line
returns c = record { exact = rw c.from.ensures at c.lone_line.ensures.exact }
