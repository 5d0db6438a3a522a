-- `put_miss` meets its contract: the line is put where its day is in the calendar and the page has room for it.
use Rattle.base.proofs.Prelude.{ℕ, ◌+◌, ◌≤◌, ◌≡◌, sym, ap, ◌∙◌, List, ◌++◌, arith, rules, length, take, length-take-le}
use mathlib.Core.Path.{ap₂}
use Rattle.base.specs.Count.{put_at}
use Rattle.calendar.specs.Numbers.{last_day}
use Rattle.lines.specs.{Pages.text_of, Board.missed_line}
use Rattle.lines.proofs.Growing.{text-is, len_is, within}
use Rattle.boards.specs.inner.Daily.{head_with}
use Rattle.boards.proofs.{Ending.{miss_line, miss_line-long, end-late, end_short, end-put}, paging.put_miss.Statement.statement}
use Rattle.boards.proofs.paging.put_miss.Tie as tie

-- the line is made
module _ (b : tie.After-bytes-1) where
  abbrev made : tie.After-missed_line-line
  made = b.before

  abbrev start : tie.Start
  start = made.before.before.before.before.before.before

  abbrev k : ℕ
  k = start.args.start

  abbrev page : List ℕ
  page = start.args.page.now

  there : k + start.args.day.0 ≤ last_day
  there = omega (arith, made.if-start-day.false, made.if-start-gt-LAST_DAY.false)

  long : made.missed_line-line.result.len ≡ length (missed_line start.args.place)
  long = len_is made.missed_line-line.result (missed_line start.args.place) made.missed_line-line.ensures

  short : made.missed_line-line.result.len ≤ 256
  short =
      let bytes : length made.missed_line-line.result.bytes ≡ 256 = made.missed_line-line.type_inv.1.1.1.0.1.0.1 in
      omega (arith, within made.missed_line-line.result (missed_line start.args.place) made.missed_line-line.ensures)

-- and its head
module _ (c : tie.After-bytes-2-1) where
  abbrev at : tie.After-bytes-1
  at = c.before.before.before.before.before

  abbrev said : List ℕ
  said = miss_line (k (at)) (start at).args.day (start at).args.place (page at) (there at)

  abbrev whole : List ℕ
  whole = c.head.result ++ take (made at).missed_line-line.result.len (made at).missed_line-line.result.bytes

  is : whole ≡ said
  unfolding text_of
  is =
      let on = k at + (start at).args.day.0 in
      ap₂ (λ h t. h ++ t) (c.head.ensures ∙ ap (λ d. head_with d on) c.date_on.ensures)
      (text-is (made at).missed_line-line.result (missed_line (start at).args.place) (made at).missed_line-line.ensures)

  room : 15 + length (missed_line (start at).args.place) ≤ length (page at)
  room = omega (arith, long at, c.if-page-len.false)

  size : length said ≡ 15 + length (missed_line (start at).args.place)
  size = miss_line-long (k at) (start at).args.day (start at).args.place (page at) (there at)

  fits : 0 + length whole ≤ length (page at)
  fits = omega (arith, ap length is, size, room)

returns-4 : tie.Need-returns
returns-4 c =
    let p = c.before.before in
    let b = p.before in
    let s = start (at b) in
    end-put s.args.start s.args.day s.args.place (page (at b)) (there (at b)) (room b) _ _
    (p.put_line.ensures.0 ∙ ap (λ l. 0 + length l) (is b))
    (p.put_line.ensures.1 ∙ ap (λ l. put_at 0 l (page (at b))) (is b))

pub put_miss_spec : {M : Type 1} → statement M
put_miss_spec =
    tie.close (tie.spec
    (λ c. end-late _ _ _ _ (omega (arith, c.if-start-gt-LAST_DAY.true)))
    (λ c. end-late _ _ _ _ (omega (arith, c.if-start-day.true, c.if-start-gt-LAST_DAY.false)))
    (λ c. search rules) (λ c κs. search rules) (λ c. omega (arith, short c))
    (λ c. end_short _ _ _ _ (there c.before) (omega (arith, c.if-page-len.true, long c.before)))
    (λ c κs. search rules) (λ c κs. search rules) (λ c. search rules)
    (λ c. sym (length-take-le _ _
    (within (made (at c)).missed_line-line.result (missed_line (start (at c)).args.place) (made (at c)).missed_line-line.ensures)))
    (λ c κs. fits c) (λ c. search rules) returns-4)
