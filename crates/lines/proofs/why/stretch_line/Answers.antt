use Rattle.std.proofs.Common.{◌∙◌, sym}
use Rattle.rules.specs.Lines.{bytes_of}
use Rattle.lines.specs.Why.{stretch_line}
use Rattle.lines.proofs.why.stretch_line.Goals as goal

pub returns-then-eq : goal.returns-then-eq
unfolding bytes_of stretch_line
returns-then-eq c = record { exact = rw (sym c.eq.ensures ∙ c.if-eq.true) c.lone_line.ensures.exact }

pub returns-else-eq : goal.returns-else-eq
unfolding bytes_of stretch_line
returns-else-eq c = record { exact = rw (sym c.eq.ensures ∙ c.if-eq.false) c.lone_line-else-eq.ensures.exact }
