use Rattle.std.proofs.Common.{◌≡◌, ◌∙◌, ap, ◌-◌, ◌++◌, length, arith, rules}
use Rattle.rules.specs.Lines.{bytes_of, decimal}
use Rattle.lines.specs.{Pages.text_of, Why.{padded, columned}}
use Rattle.lines.proofs.{Digits.decimal-64, Growing.text-length}
use Rattle.lines.proofs.Page.end_column.Goals as goal

pub append_number-figure-requires : goal.append_number-figure-requires
append_number-figure-requires c = omega (arith, decimal-64 c.args.n (search rules))

pub overflow_sub-figure : goal.overflow_sub-figure
overflow_sub-figure c = omega (arith, decimal-64 c.args.n (search rules))

pub append-requires-2 : goal.append-requires-2
unfolding text_of
append-requires-2 c = omega (arith, decimal-64 c.args.n (search rules), text-length c.append_number-figure.result)

pub append-requires-3 : goal.append-requires-3
unfolding text_of
append-requires-3 c = omega (arith, decimal-64 c.args.n (search rules), text-length c.append_number-figure.result)

pub returns : goal.returns
unfolding text_of bytes_of columned
returns c =
    let n = c.args.n in
    let figure = c.append_number-figure in
    let digits : text_of figure.result ≡ decimal n = rw c.blank.ensures.empty at figure.ensures.exact in
    let count : figure.result.len ≡ length (decimal n) = omega arith in
    let padding : text_of c.pad.result ≡ padded (41 - length (decimal n)) (text_of c.args.self ++ bytes_of " ") =
    c.pad.ensures.exact ∙ ap (padded (41 - figure.result.len)) c.append.ensures.exact
    ∙ ap (λ k. padded (41 - k) (text_of c.args.self ++ bytes_of " ")) count in
    record {
      exact = c.append-3.ensures.exact
          ∙ ap (λ text. text ++ bytes_of "\n") (c.append-2.ensures.exact ∙ ap (λ ds. text_of c.pad.result ++ ds) digits
          ∙ ap (λ text. text ++ decimal n) padding);
    }
