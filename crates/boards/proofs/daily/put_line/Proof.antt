-- `put_line` meets its contract: the head, and behind it the tail.
use Rattle.base.proofs.Prelude.{ℕ, ◌+◌, ◌≤◌, ◌≡◌, ap, ◌∙◌, List, ◌++◌, arith, rules, length, length-append}
use mathlib.Core.Path.{ap₂}
use Rattle.base.specs.Count.{put_at}
use Rattle.boards.proofs.{InPlace.{put_at-length, put_at-next}, daily.put_line.Statement.statement}
use Rattle.boards.proofs.daily.put_line.Tie as tie

module _ (s : tie.Start) where
  abbrev page : List ℕ
  page = s.args.page.now

  abbrev head : List ℕ
  head = s.args.head

  abbrev tail : List ℕ
  tail = s.args.tail.now

  room : s.args.at + length head + length tail ≤ length page
  room = omega (arith, s.requires, length-append head tail)

-- the head stands
module _ (p : tie.After-put-next) where
  abbrev start : tie.Start
  start = p.before.before.before.before.before

  size : length p.put-next.new.page ≡ length (page start)
  size =
      ap length p.put-next.ensures.1
      ∙ put_at-length start.args.at (head start) (page start) (omega (arith, room start))

  room-left : p.put-next.result + length (tail start) ≤ length p.put-next.new.page
  room-left = omega (arith, p.put-next.ensures.0, size, room start)

module _ (q : tie.After-put) where
  abbrev first : tie.After-put-next
  first = q.before.before.before.before

  stored : q.put.new.page ≡ put_at (start first).args.at (head (start first) ++ tail (start first)) (page (start first))
  stored =
      let s = start first in
      q.put.ensures.1
      ∙ ap₂ (λ at page. put_at at (tail s) page) first.put-next.ensures.0 first.put-next.ensures.1
      ∙ put_at-next s.args.at (head s) (page s) (omega (arith, room s)) (tail s) (room s)

  next : q.put.result ≡ (start first).args.at + length (head (start first) ++ tail (start first))
  next =
      let s = start first in
      omega (arith, q.put.ensures.0, first.put-next.ensures.0, length-append (head s) (tail s))

  same : length q.put.new.page ≡ length (page (start first))
  same =
      let s = start first in
      ap length stored ∙ put_at-length s.args.at (head s ++ tail s) (page s) s.requires

pub put_line_spec : {M : Type 1} → statement M
put_line_spec =
    tie.close (tie.spec
    (λ c. search rules) (λ c κs. omega (arith, room c.before.before.before.before))
    (λ c κs. room-left c.before.before.before)
    (λ c. same c.before.before)
    λ c. (next c.before.before, stored c.before.before))
