-- A row is a line of six numbers, and they say its string.
use Rattle.base.proofs.Prelude.{ap, ◌∙◌, arith}
use Rattle.register.specs.declared.Row.TheVariants.{Says}
use Rattle.register.proofs.Walk.{row-none, row-said, row-unsaid}
use Rattle.register.proofs.reader.row_at.Goals as goal

pub returns-then-text-at : goal.returns-then-text-at
returns-then-text-at c = record { exact = row-none c.args.text.now c.args.at c.if-text-at.true }

pub returns-in-Some : goal.returns-in-Some
returns-in-Some c =
    let read = c.line_at-numbers in
    record {
      exact =
          ap (λ s. Says s read.result.next) c.string_from.ensures.exact
          ∙ row-said c.args.text.now c.args.at (omega arith) read.result read.ensures.exact c.in-Some.numbers c.in-Some.is;
    }

pub returns-in-None : goal.returns-in-None
returns-in-None c =
    let read = c.line_at-numbers in
    record { exact = row-unsaid c.args.text.now c.args.at (omega arith) read.result read.ensures.exact c.in-None.is }
