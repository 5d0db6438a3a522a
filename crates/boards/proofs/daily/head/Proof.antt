-- `head` meets its contract: the characters are the date's and the weekday's.
use Rattle.base.proofs.Prelude.{◌%◌, arith, rules}
use Rattle.base.specs.Digits.{places_of}
use Rattle.calendar.specs.{Weekdays.weekday_of, Texts.{digits, date_text}}
use Rattle.rules.specs.Lines.{bytes_of, worded_in}
use Rattle.boards.specs.inner.Daily.{head_with}
use Rattle.boards.proofs.{Days.letters, daily.head.Statement.statement}
use Rattle.boards.proofs.daily.head.Tie as tie

returns : tie.Need-returns
unfolding head_with bytes_of worded_in weekday_of date_text digits places_of
returns c =
    let eight = c.before.before.before in
    let seven = eight.before in
    let six = seven.before.before in
    let five = six.before in
    let four = five.before.before in
    let three = four.before in
    let two = three.before.before in
    let one = two.before.before in
    rw (
      one.figure.ensures,
      two.figure-2.ensures,
      three.figure-3.ensures,
      four.figure-4.ensures,
      five.figure-5.ensures,
      six.figure-6.ensures,
      seven.figure-7.ensures,
      eight.figure-8.ensures,
      ← letters (one.args.day % 7) (omega arith),
    )

pub head_spec : {M : Type 1} → statement M
head_spec =
    tie.close (tie.spec
    (λ c. search rules) (λ c. search rules) (λ c κs. search rules) (λ c κs. search rules) (λ c κs. search rules)
    (λ c κs. search rules) (λ c κs. search rules) (λ c κs. search rules) (λ c κs. search rules) (λ c κs. search rules)
    (λ c. search rules) (λ c. search rules) (λ c. search rules) (λ c. search rules) (λ c. search rules) returns)
