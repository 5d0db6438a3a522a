-- so many bytes are ahead of the 0a, or as many as there are
use Rattle.base.proofs.Prelude.{◌+◌, ◌≡◌, sym, ap, ◌∙◌, arith, eqb, drop, length-drop}
use Rattle.std.specs.Prelude.{Some, None, position}
use Rattle.writing.proofs.Texts.{lent-part}
use Rattle.register.proofs.Splitting.{register_found, not-found}
use Rattle.boards.proofs.entered.line_end.Goals as goal

pub overflow_add-result : goal.overflow_add-result
overflow_add-result c =
    let text = c.args.text.now in
    let rest = drop c.args.from text in
    let here : position (λ b. eqb b 0x0a) rest ≡ Some c.in-Some.i =
    ap (position (λ b. eqb b 0x0a)) (sym (lent-part c.args.from text)) ∙ sym c.first_end.ensures.exact ∙ c.in-Some.is in
    omega (arith, (register_found 0x0a rest c.in-Some.i here).1, length-drop c.args.from text)

pub returns-in-Some : goal.returns-in-Some
returns-in-Some c =
    let text = c.args.text.now in
    let rest = drop c.args.from text in
    let here : position (λ b. eqb b 0x0a) rest ≡ Some c.in-Some.i =
    ap (position (λ b. eqb b 0x0a)) (sym (lent-part c.args.from text)) ∙ sym c.first_end.ensures.exact ∙ c.in-Some.is in
    record { exact = ap (λ n. c.args.from + n) (sym (register_found 0x0a rest c.in-Some.i here).0) }

pub returns-in-None : goal.returns-in-None
returns-in-None c =
    let text = c.args.text.now in
    let rest = drop c.args.from text in
    let none : position (λ b. eqb b 0x0a) rest ≡ None =
    ap (position (λ b. eqb b 0x0a)) (sym (lent-part c.args.from text)) ∙ sym c.first_end.ensures.exact ∙ c.in-None.is in
    record { exact = omega (arith, not-found 0x0a rest none, length-drop c.args.from text, c.requires) }
