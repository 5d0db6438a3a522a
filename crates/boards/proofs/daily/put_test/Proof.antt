-- `put_test` meets its contract: the line of a test that falls on the date, and nothing else.
use Rattle.base.proofs.Prelude.{ℕ, ◌+◌, ◌≤◌, ◌≡◌, sym, ap, ◌∙◌, List, [], ◌∷◌, ◌++◌, arith, rules, length}
use Rattle.base.specs.Count.{put_at}
use Rattle.boards.specs.inner.Daily.{tests_text}
use Rattle.boards.proofs.{InPlace.{put_at-length, put_at-none}, Days.{tests-falls, tests-not}, daily.put_test.Statement.statement}
use Rattle.boards.proofs.daily.put_test.Tie as tie

module _ (y : tie.After-yearly_tail-tail) where
  abbrev start : tie.Start
  start = y.before.before.before.before

  -- the line is that of the tests that fall
  line : start.args.head ++ y.yearly_tail-tail.result ≡ tests_text start.args.head start.args.d (start.args.t ∷ [])
  line =
      ap (λ tail. start.args.head ++ tail) y.yearly_tail-tail.ensures
      ∙ sym (tests-falls start.args.head start.args.d start.args.t
      (sym y.falls.ensures ∙ y.if-falls.true))

  room : start.args.at + length (start.args.head ++ y.yearly_tail-tail.result) ≤ length start.args.page.now
  room = omega (arith, start.requires, ap length line)

module _ (l : tie.After-put_line) where
  abbrev asked : tie.After-yearly_tail-tail
  asked = l.before.before.before

  abbrev text : List ℕ
  text = tests_text (start asked).args.head (start asked).args.d ((start asked).args.t ∷ [])

  stored : l.put_line.new.page ≡ put_at (start asked).args.at text (start asked).args.page.now
  stored = l.put_line.ensures.1 ∙ ap (λ text. put_at (start asked).args.at text (start asked).args.page.now) (line asked)

  same : length l.put_line.new.page ≡ length (start asked).args.page.now
  same =
      let g = (start asked).args in
      ap length stored ∙ put_at-length g.at text g.page.now (start asked).requires

  next : l.put_line.result ≡ (start asked).args.at + length text
  next = l.put_line.ensures.0 ∙ ap (λ t. (start asked).args.at + length t) (line asked)

returns-2 : tie.Need-returns
returns-2 c =
    let g = c.args in
    let none = tests-not g.head g.d g.t (sym c.falls.ensures ∙ c.if-falls.false) in
    (omega (arith, ap length none), sym (ap (λ text. put_at g.at text g.page.now) none ∙ put_at-none g.at g.page.now))

pub put_test_spec : {M : Type 1} → statement M
put_test_spec =
    tie.close (tie.spec
    (λ c κs. search rules) (λ c κs. search rules) (λ c. search rules) (λ c κs. room c.before.before)
    (λ c. same c.before.before)
    (λ c. (next c.before.before, stored c.before.before)) returns-2)
