-- `put_day` meets its contract: the day's line, and behind it those of the tests.
use Rattle.base.proofs.Prelude.{ℕ, ◌+◌, ◌≤◌, ◌≡◌, ap, ◌∙◌, List, ◌++◌, arith, length, length-append}
use mathlib.Core.Path.{ap₂}
use Rattle.base.specs.Count.{put_at}
use Rattle.boards.specs.{Board.tests_of, inner.Daily.{tests_text, day_text}}
use Rattle.boards.proofs.{InPlace.{put_at-length, put_at-next}, daily.put_day.Statement.statement}
use Rattle.boards.proofs.daily.put_day.Tie as tie

module _ (s : tie.Start) where
  abbrev page : List ℕ
  page = s.args.page.now

  abbrev line : List ℕ
  line = s.args.head ++ s.args.tail.now

  abbrev lines : List ℕ
  lines = tests_text s.args.head s.args.d (tests_of s.args.diary)

  room : s.args.at + length line + length lines ≤ length page
  unfolding day_text
  room = omega (arith, s.requires, length-append line lines)

-- the line stands
module _ (p : tie.After-put_line-next) where
  abbrev start : tie.Start
  start = p.before.before.before.before

  size : length p.put_line-next.new.page ≡ length (page start)
  size =
      ap length p.put_line-next.ensures.1
      ∙ put_at-length start.args.at (line start) (page start) (omega (arith, room start))

module _ (q : tie.After-put_tests) where
  abbrev first : tie.After-put_line-next
  first = q.before.before.before.before

  stored : q.put_tests.new.page ≡ put_at (start first).args.at (line (start first) ++ lines (start first)) (page (start first))
  stored =
      let s = start first in
      q.put_tests.ensures.1
      ∙ ap₂ (λ at page. put_at at (lines s) page) first.put_line-next.ensures.0 first.put_line-next.ensures.1
      ∙ put_at-next s.args.at (line s) (page s) (omega (arith, room s)) (lines s) (room s)

  next : q.put_tests.result ≡ (start first).args.at + length (line (start first) ++ lines (start first))
  next =
      let s = start first in
      omega (arith, q.put_tests.ensures.0, first.put_line-next.ensures.0, length-append (line s) (lines s))

  same : length q.put_tests.new.page ≡ length (page (start first))
  same =
      let s = start first in
      ap length stored ∙ put_at-length s.args.at (line s ++ lines s) (page s) (omega (arith, room s, length-append (line s) (lines s)))

pub put_day_spec : {M : Type 1} → statement M
unfolding day_text
put_day_spec =
    tie.close (tie.spec
    (λ c κs. omega (arith, room c.before.before.before))
    (λ c κs.
    let p = c.before.before.before in
    omega (arith, p.put_line-next.ensures.0, size p, room (start p)))
    (λ c. same c.before.before) λ c. (next c.before.before, stored c.before.before))
