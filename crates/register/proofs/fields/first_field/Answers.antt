-- What stands ahead of the first comma is the first field.
use Rattle.base.proofs.Prelude.{◌+◌, sym, ap, ◌∙◌, ◌∷◌, take}
use Rattle.register.specs.Table.{fields_of}
use Rattle.register.proofs.Splitting.{fields-found, fields-not-found}
use Rattle.writing.proofs.Texts.{lent-part}
use Rattle.register.proofs.fields.first_field.Goals as goal

pub returns-in-Some : goal.returns-in-Some
returns-in-Some c =
    let row = c.args.row.now in
    let comma = c.in-Some.comma in
    record {
      exact =
          fields-found row comma (sym c.place_of.ensures.exact ∙ c.in-Some.is)
          ∙ ap (λ rest. take comma row ∷ fields_of rest) (sym (lent-part (comma + 1) row));
    }

pub returns-in-None : goal.returns-in-None
returns-in-None c = record { exact = fields-not-found c.args.row.now (sym c.place_of.ensures.exact ∙ c.in-None.is) }
