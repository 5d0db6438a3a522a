-- `naming::said::field_of` meets its contract: the number stands in the line.
use Rattle.base.proofs.Prelude.{ap, ◌∙◌, rules}
use Rattle.naming.specs.inner.Bytes.{number_at}
use Rattle.naming.proofs.said.field_of.Statement.{statement}
use Rattle.naming.proofs.said.field_of.Tie as tie

returns : tie.Need-returns
returns c =
    let field = c.args.field in (
      c.number_in.ensures.0 ∙ ap (λ bytes. number_at bytes field.at field.size)
          c.line_in-line.ensures,
      c.number_in.ensures.1,
    )

pub field_of_spec : {M : Type 1} → statement M
field_of_spec = tie.close (tie.spec (λ c κs. search rules) (λ c κs. search rules) returns)
