use Rattle.std.proofs.Common.{ℕ, ◌∙◌, ap, arith}
use Rattle.lines.specs.{declared.Page.Page, Pages.text_of}
use Rattle.lines.proofs.Digits.{digit-length, last-length, digit-behind, last-behind}
use Rattle.lines.proofs.Page.+append_number.Goals as goal
use Rattle.lines.proofs.Page.+append_number.Goals.{then-n-lt10, else-n-lt10}

pub append_number-front-requires : goal.append_number-front-requires
append_number-front-requires t c = (omega arith, omega (arith, last-length c.args.n c.if-n-lt10.false))

abbrev len_of : Page → ℕ
len_of page = page.len

pub append-requires : goal.append-requires
append-requires t c =
    elim c.if-n-lt10.branch [
      | then-n-lt10 w ↦ omega (arith, ap len_of w.front-is, digit-length c.args.n w.if-n-lt10.true)
      | else-n-lt10 w ↦ omega (arith, ap len_of w.front-is, last-length c.args.n w.if-n-lt10.false)
    ]

pub returns-clause-exact : goal.returns-clause-exact
returns-clause-exact t c =
    c.append.ensures.exact
    ∙ elim c.if-n-lt10.branch [
      | then-n-lt10 w ↦ rw w.front-is (digit-behind (text_of c.args.self) c.args.n w.if-n-lt10.true)
      | else-n-lt10 w ↦
          last-behind (text_of c.args.self) (text_of c.if-n-lt10.front) c.args.n w.if-n-lt10.false
          (ap text_of w.front-is ∙ w.append_number-front.ensures.exact)
    ]

pub returns-clause-len : goal.returns-clause-len
returns-clause-len t c =
    elim c.if-n-lt10.branch [
      | then-n-lt10 w ↦ omega (arith, ap len_of w.front-is, digit-length c.args.n w.if-n-lt10.true)
      | else-n-lt10 w ↦ omega (arith, ap len_of w.front-is, last-length c.args.n w.if-n-lt10.false)
    ]
