-- Row by row, what is decided is what the definition decides.
use Rattle.base.proofs.Prelude.{◌≡◌, sym, ap, ◌∙◌, arith, [], length, drop, length-set, length-drop, drop_of_length-le}
use Rattle.rules.specs.{Plan.string_lawful, Text.lines_of}
use Rattle.register.proofs.{Walk.{first_line, first_some, next-within, next-lines, says-formed, not-formed}, Taking.{rows-taken, eleventh, no_row, out-of-bounds, rows-later, check-next, said-next}}
use Rattle.register.proofs.strings.rows_in.Goals as goal

pub returns-then-line-gt10 : goal.returns-then-line-gt10
returns-then-line-gt10 c =
    let text = c.args.text.now in
    let o = c.loop-at in
    let here = o.invariant.rest ∙ next-lines text o.at (omega arith) in
    record { exact = eleventh c.args.run.0 (lines_of text) o.n (first_line (drop o.at text)) _ here o.invariant.same (omega arith) }

pub returns-in_default : goal.returns-in_default
returns-in_default c =
    let text = c.args.text.now in
    let o = c.loop-at in
    let here = o.invariant.rest ∙ next-lines text o.at (omega arith) in
    let other = not-formed text o.at (omega arith) c.row_from.result c.row_from.ensures.exact c.in_default.not-Says in
    record { exact = no_row c.args.run.0 (lines_of text) o.n (first_line (drop o.at text)) _ here o.invariant.same (omega arith) other }

pub returns-then-not-string_lawful : goal.returns-then-not-string_lawful
returns-then-not-string_lawful c =
    let text = c.args.text.now in
    let o = c.loop-at in
    let here = o.invariant.rest ∙ next-lines text o.at (omega arith) in
    let says = says-formed text o.at (omega arith) c.in-Says.string c.in-Says.next (sym c.row_from.ensures.exact ∙ c.in-Says.is) in
    record {
      exact =
          out-of-bounds c.args.run.0 (lines_of text) o.n (first_line (drop o.at text)) _ here o.invariant.same (omega arith) says.0
          (ap string_lawful (sym says.1) ∙ sym c.string_lawful.ensures.exact ∙ c.if-not-string_lawful.true);
    }

pub loop-at-smaller : goal.loop-at-smaller
loop-at-smaller c =
    let text = c.args.text.now in
    let o = c.loop-at in
    let says = says-formed text o.at (omega arith) c.in-Says.string c.in-Says.next (sym c.row_from.ensures.exact ∙ c.in-Says.is) in
    let some = first_some (drop o.at text) (omega (arith, length-drop o.at text)) in
    omega (arith, says.2, next-within text o.at (omega arith))

pub loop-at-preserved : goal.loop-at-preserved
loop-at-preserved c =
    let text = c.args.text.now in
    let lines = lines_of text in
    let o = c.loop-at in
    let line = first_line (drop o.at text) in
    let here = o.invariant.rest ∙ next-lines text o.at (omega arith) in
    let says = says-formed text o.at (omega arith) c.in-Says.string c.in-Says.next (sym c.row_from.ensures.exact ∙ c.in-Says.is) in
    let lawful = ap string_lawful (sym says.1) ∙ sym c.string_lawful.ensures.exact ∙ c.if-not-string_lawful.false in
    record {
      upto = omega arith;
      many = omega (arith, length-drop o.n lines, ap length here);
      ten = length-set o.strings o.n c.in-Says.string ∙ o.invariant.ten;
      inside = omega (arith, says.2, next-within text o.at (omega arith));
      rest =
          rows-later c.args.run.0 lines o.n line _ here o.invariant.same (omega arith) says.0
          ∙ ap (λ j. lines_of (drop j text)) (sym says.2);
      same = check-next c.args.run.0 lines o.n line _ here o.invariant.same (omega arith) says.0 lawful;
      said = rw says.1 (said-next c.args.run.0 lines o.n line _ here o.invariant.same (omega arith) says.0 o.strings o.invariant.said);
    }

pub returns : goal.returns
unfolding lines_of
returns c =
    let text = c.args.text.now in
    let o = c.loop-at in
    let end : drop o.at text ≡ [] = drop_of_length-le text (omega arith) in
    record {
      exact =
          rows-taken c.args.run.0 (lines_of text) o.n o.strings (o.invariant.rest ∙ ap lines_of end) o.invariant.many o.invariant.same
          o.invariant.said;
    }
