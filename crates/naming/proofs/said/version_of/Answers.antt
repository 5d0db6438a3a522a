-- the second byte of the first line names it
use Rattle.base.proofs.Prelude.{ℕ, ◌+◌, ◌-◌, ◌*◌, ◌^◌, ◌≤◌, ◌<◌, ◌≡◌, refl, sym, ap, ◌∙◌, arith, min, set}
use Rattle.rules.specs.{Layout.held_to, Text.lines_of}
use Rattle.naming.proofs.Numbers.{version-first}
use Rattle.naming.proofs.said.version_of.Goals as goal

pub returns : goal.returns
returns c = record { exact = c.held_to.ensures.exact ∙ ap held_to c.field_of.ensures.exact ∙ version-first (lines_of c.args.text.now) }
