-- `board_page` meets its contract. Invariant: the days so far stand in the page; of those that the stints from here on have, the days that
-- fit will follow.
use Rattle.base.proofs.Prelude.{ℕ, ◌+◌, ◌-◌, ◌≤◌, ◌<◌, min, ◌≡◌, refl, sym, ap, ◌∙◌, List, [], ◌++◌, append-nil, append_assoc, arith, rules, length, drop, length-append, replicate}
use mathlib.Core.Path.{ap₂}
use Rattle.base.specs.Count.{put_at}
use Rattle.calendar.specs.Numbers.{last_day}
use Rattle.rules.specs.{declared.Use.Use, declared.Stint.Stint}
use Rattle.run.specs.Numbers.{stint_at}
use Rattle.boards.specs.{declared.Test.Test, declared.Filled.Filled, Board.tests_of, Paging.{uses_in, in_calendar, fitted, days_fitted, page_uses, page_text, page_filled, page_after}}
use Rattle.boards.proofs.{InPlace.{put_at-length, put_at-next, put_at-none}, Fitting.fitted-within, FromStints.{none_left, numbers-end, stint-next, passed_over, no-days, uses-none, cut_short, stint-passed, fits-calendar, days-are, run-most, days-most}, paging.board_page.Statement.statement}
use Rattle.boards.proofs.paging.board_page.Tie as tie

abbrev invariant-loop : tie.invariant-loop-i
invariant-loop list page₀ start stints diary day₀ skip₀ at₀ days₀ i₀ page day skip at days i =
    record {
      upto : i ≤ stints;
      there : day ≤ last_day + 1;
      text : List ℕ;
      room : 0 + length text ≤ length page₀;
      front : text ++ fitted (length page₀ - at) day (tests_of diary) (in_calendar day (drop skip (uses_in list i (stints - i))))
          ≡ fitted (length page₀) day₀ (tests_of diary) (in_calendar day₀ (drop skip₀ (uses_in list 0 stints)));
      so_far : days + days_fitted (length page₀ - at) day (tests_of diary) (in_calendar day (drop skip (uses_in list i (stints - i))))
          ≡ days_fitted (length page₀) day₀ (tests_of diary) (in_calendar day₀ (drop skip₀ (uses_in list 0 stints)));
      next : at ≡ length text;
      stored : page ≡ put_at 0 text page₀;
    }

abbrev decreases-loop : tie.decreases-loop-i
decreases-loop list page₀ start stints diary day₀ skip₀ at₀ days₀ i₀ page day skip at days i = stints - i

-- ---- What was asked for

module _ (s : tie.Start invariant-loop decreases-loop) where
  abbrev page₀ : List ℕ
  page₀ = s.args.page.now

  abbrev list : List ℕ
  list = s.args.list.now

  abbrev tests : List Test
  tests = tests_of s.args.b.diary

  abbrev first : ℕ
  first = s.args.b.start.0 + s.args.from.0

  abbrev uses : List Use
  uses = in_calendar first (drop s.args.from.0 (uses_in list 0 s.args.b.stints))

  abbrev said : List ℕ
  said = fitted (length page₀) first tests uses

  abbrev Given : Filled → List ℕ → Type 0
  Given f page =
      (f ≡ page_filled s.args.b list s.args.from.0 (length page₀))
      × ((page ≡ page_after s.args.b list s.args.from.0 page₀) × (list ≡ list))

  -- it is given
  ended : (text page : List ℕ) (days at : ℕ) → text ≡ said → days ≡ days_fitted (length page₀) first tests uses → at ≡ length text
      → page ≡ put_at 0 text page₀
      → Given (record { days = days; length = at }) page
  unfolding page_filled page_text page_uses
  ended text page days at is counted long stored = (
    ap₂ (λ n m. record { days = n; length = m }) counted (long ∙ ap length is),
    (stored ∙ none ∙ ap (λ t. t ++ drop (length t) page₀) is, refl),
  )
    where
      none : put_at 0 text page₀ ≡ text ++ drop (length text) page₀
      none =
          let same : 0 + length text ≡ length text = omega arith in
          rw same

  -- nothing, where the first day is not in the calendar
  nothing : last_day < first
      → Given (record { days = 0; length = 0 }) page₀
  nothing late =
      let none = no-days tests (length page₀) first (drop s.args.from.0 (uses_in list 0 s.args.b.stints)) late in
      ended [] page₀ 0 0 (sym none.0) (sym none.1) refl (sym (put_at-none 0 page₀))

-- ---- So far

module _ (o : tie.At-loop-i invariant-loop decreases-loop) where
  abbrev start : tie.Start invariant-loop decreases-loop
  start = o.before.before.before.before.before.before.before.before

  abbrev left : List Use
  left = uses_in (list start) o.loop-i.i (start.args.b.stints - o.loop-i.i)

  size : length o.loop-i.page ≡ length (page₀ start)
  size = ap length o.loop-i.invariant.stored ∙ put_at-length 0 o.loop-i.invariant.text (page₀ start) o.loop-i.invariant.room

  -- no stint is left
  closed : left ≡ []
      → Given start (record { days = o.loop-i.days; length = o.loop-i.at }) o.loop-i.page
  closed none =
      let none-fit = uses-none (tests start) (length (page₀ start) - o.loop-i.at) o.loop-i.day o.loop-i.skip left none in
      ended start o.loop-i.invariant.text o.loop-i.page o.loop-i.days o.loop-i.at
      (sym (append-nil o.loop-i.invariant.text) ∙ ap (λ l. o.loop-i.invariant.text ++ l) (sym none-fit.0) ∙ o.loop-i.invariant.front)
      (omega (arith, none-fit.1, o.loop-i.invariant.so_far)) o.loop-i.invariant.next o.loop-i.invariant.stored

-- ---- The next stint

module _ (p : tie.After-put_days-filled invariant-loop decreases-loop) where
  abbrev at : tie.At-loop-i invariant-loop decreases-loop
  at = p.before.before.before.before.before.before.before

  abbrev s : tie.Start invariant-loop decreases-loop
  s = start at

  abbrev i : ℕ
  i = at.loop-i.i

  abbrev found : Stint
  found = stint_at (list s) i

  abbrev long : ℕ
  long = found.length.0

  abbrev used : Use
  used = found.used

  abbrev stay : ℕ
  stay = long - at.loop-i.skip

  abbrev rest : List Use
  rest = drop (at.loop-i.skip - long) (uses_in (list s) (i + 1) (s.args.b.stints - (i + 1)))

  abbrev room : ℕ
  room = length (page₀ s) - at.loop-i.at

  abbrev run : List Use
  run = replicate (min stay (last_day + 1 - at.loop-i.day)) used

  more : i < s.args.b.stints
  more = p.loop-i-test.true

  here : drop at.loop-i.skip (left at) ≡ replicate stay used ++ rest
  here =
      ap (drop at.loop-i.skip)
      (stint-next (list s) s.args.b.stints i more)
      ∙ passed_over long at.loop-i.skip used _

  stint-is : p.stint_at-stint.result ≡ found
  stint-is = p.stint_at-stint.ensures.0

  left_is : p.saturating_sub-left.result ≡ stay
  left_is = p.saturating_sub-left.ensures ∙ ap (λ (f : Stint). f.length.0 - at.loop-i.skip) stint-is

  asked : replicate p.min.result p.stint_at-stint.result.used ≡ run
  asked =
      ap₂ replicate (p.min.ensures ∙ ap (λ n. min n (last_day + 1 - at.loop-i.day)) left_is)
      (ap (λ (f : Stint). f.used) stint-is)

  days-said : p.put_days-filled.result.days ≡ days_fitted room at.loop-i.day (tests s) run
  days-said =
      p.put_days-filled.ensures.0
      ∙ ap₂ (λ n us. days_fitted (n - at.loop-i.at) at.loop-i.day (tests s) us) (size at) asked

  text-said : fitted (length at.loop-i.page - at.loop-i.at) at.loop-i.day (tests s)
      (replicate p.min.result p.stint_at-stint.result.used)
      ≡ fitted room at.loop-i.day (tests s) run
  text-said = ap₂ (λ n us. fitted (n - at.loop-i.at) at.loop-i.day (tests s) us) (size at) asked

  abbrev text : List ℕ
  text = fitted room at.loop-i.day (tests s) run

  long-said : p.put_days-filled.result.length ≡ length text
  long-said = p.put_days-filled.ensures.1.0 ∙ ap length text-said

  text-fits : 0 + length at.loop-i.invariant.text + length text ≤ length (page₀ s)
  text-fits = omega (arith, fitted-within (tests s) room at.loop-i.day run, at.loop-i.invariant.room, at.loop-i.invariant.next)

  put : p.put_days-filled.new.page ≡ put_at 0 (at.loop-i.invariant.text ++ text) (page₀ s)
  put =
      let place : at.loop-i.at ≡ 0 + length at.loop-i.invariant.text = omega (arith, at.loop-i.invariant.next) in
      p.put_days-filled.ensures.1.1
      ∙ ap (λ t. put_at at.loop-i.at t at.loop-i.page) text-said
      ∙ ap₂ (λ n page. put_at n text page) place at.loop-i.invariant.stored
      ∙ put_at-next 0 at.loop-i.invariant.text (page₀ s) at.loop-i.invariant.room text text-fits

  put-size : length p.put_days-filled.new.page ≡ length (page₀ s)
  put-size =
      ap length put
      ∙ put_at-length 0 (at.loop-i.invariant.text ++ text) (page₀ s) (omega (arith, text-fits, length-append at.loop-i.invariant.text text))

  long-next : at.loop-i.at + p.put_days-filled.result.length ≡ length (at.loop-i.invariant.text ++ text)
  long-next = omega (arith, at.loop-i.invariant.next, long-said, length-append at.loop-i.invariant.text text)

  -- no number is too large
  days-fit : at.loop-i.days + p.put_days-filled.result.days ≤ 292194
  days-fit =
      omega (
        arith,
        days-said,
        run-most (tests s) room at.loop-i.day stay (last_day + 1 - at.loop-i.day) used,
        at.loop-i.invariant.so_far,
        days-most (tests s) (length (page₀ s)) (first s) (drop s.args.from.0 (uses_in (list s) 0 s.args.b.stints)),
      )

  abbrev ahead : List Use
  ahead = in_calendar at.loop-i.day (drop at.loop-i.skip (left at))

  -- not all of its days were put
  module _ (less : p.put_days-filled.result.days < p.saturating_sub-left.result) where
    some : (fitted room at.loop-i.day (tests s) ahead ≡ text)
        × (days_fitted room at.loop-i.day (tests s) ahead ≡ p.put_days-filled.result.days)
    some =
        let cut = cut_short (tests s) room at.loop-i.day stay used rest at.loop-i.invariant.there
        (omega (arith, days-said, less, left_is)) in (
          ap (λ us. fitted room at.loop-i.day (tests s) (in_calendar at.loop-i.day us)) here ∙ cut.0,
          ap (λ us. days_fitted room at.loop-i.day (tests s) (in_calendar at.loop-i.day us)) here ∙ cut.1 ∙ sym days-said,
        )

    stopped :
        Given s (record { days = at.loop-i.days + p.put_days-filled.result.days; length = at.loop-i.at + p.put_days-filled.result.length })
        p.put_days-filled.new.page
    stopped =
        ended s (at.loop-i.invariant.text ++ text) p.put_days-filled.new.page (at.loop-i.days + p.put_days-filled.result.days)
        (at.loop-i.at + p.put_days-filled.result.length)
        (ap (λ t. at.loop-i.invariant.text ++ t) (sym some.0) ∙ at.loop-i.invariant.front)
        (omega (arith, some.1, at.loop-i.invariant.so_far)) long-next put

  -- all were
  module _ (all : p.saturating_sub-left.result ≤ p.put_days-filled.result.days) where
    every-day : stay ≤ days_fitted room at.loop-i.day (tests s) run
    every-day = omega (arith, days-said, all, left_is)

    still : at.loop-i.day + p.saturating_sub-left.result ≤ last_day + 1
    still =
        omega (
          arith,
          fits-calendar (tests s) room at.loop-i.day stay used rest at.loop-i.invariant.there every-day,
          left_is,
          at.loop-i.invariant.there,
        )

    days-is : p.put_days-filled.result.days ≡ stay
    days-is = days-said ∙ days-are (tests s) room at.loop-i.day stay used rest at.loop-i.invariant.there every-day

-- the list has a place for it, so its number is small
small : (e : tie.Else-list-i invariant-loop decreases-loop) → e.loop-i.i + 1 ≤ 18446744073709551615
small e = omega (arith, e.if-list-i.false)

-- where the part of the page is lent
abbrev standing : tie.After-put_days-arg-1 invariant-loop decreases-loop → tie.At-loop-i invariant-loop decreases-loop
standing a = a.before.before.before.before.before

ready : tie.Need-put_days-filled-requires invariant-loop decreases-loop
ready c κs =
    let o = standing c.before in
    (omega (arith, size o, o.loop-i.invariant.room, o.loop-i.invariant.next), omega (arith, c.min.ensures, o.loop-i.invariant.there))

loop-again : tie.Need-loop-i-preserved invariant-loop decreases-loop
loop-again c =
    let p = c.before.before.before.before.before.before.before in
    let o = at p in
    let all : p.saturating_sub-left.result ≤ p.put_days-filled.result.days = omega (arith, c.if-filled-left.false) in
    let onward = stint-passed (tests (s p)) (room p) o.loop-i.day (stay p) (used p) (rest p) o.loop-i.invariant.there (every-day p all) in
    let so = o.loop-i.invariant.text in
    let new = (at p).loop-i.at + p.put_days-filled.result.length in
    let day = o.loop-i.day + p.saturating_sub-left.result in
    let day-is : o.loop-i.day + stay p ≡ day = omega (arith, left_is p) in
    let room-is : room p - length (text p) ≡ length (page₀ (s p)) - new = omega (arith, long-said p) in
    let skip_is : o.loop-i.skip - long p ≡ c.saturating_sub-skip.result =
    sym (c.saturating_sub-skip.ensures ∙ ap (λ (f : Stint). o.loop-i.skip - f.length.0) (stint-is p)) in
    let after = in_calendar day (drop c.saturating_sub-skip.result (uses_in (list (s p)) (i p + 1) ((s p).args.b.stints - (i p + 1)))) in
    let left = length (page₀ (s p)) - new in
    let text-more : fitted (room p) o.loop-i.day (tests (s p)) (ahead p) ≡ text p ++ fitted left day (tests (s p)) after =
    ap (λ us. fitted (room p) o.loop-i.day (tests (s p)) (in_calendar o.loop-i.day us)) (here p) ∙ onward.0
    ∙ rw (room-is, day-is, skip_is) in
    let days-more : days_fitted (room p) o.loop-i.day (tests (s p)) (ahead p) ≡ stay p + days_fitted left day (tests (s p)) after =
    ap (λ us. days_fitted (room p) o.loop-i.day (tests (s p)) (in_calendar o.loop-i.day us)) (here p) ∙ onward.1
    ∙ rw (room-is, day-is, skip_is) in
    record {
      upto = omega (arith, more p);
      there = still p all;
      text = so ++ text p;
      room = omega (arith, text-fits p, length-append so (text p));
      front = append_assoc so (text p) _ ∙ ap (λ l. so ++ l) (sym text-more) ∙ o.loop-i.invariant.front;
      so_far = omega (arith, days-more, days-is p all, o.loop-i.invariant.so_far);
      next = long-next p;
      stored = put p;
    }

loop-holds : tie.Need-loop-i-init invariant-loop decreases-loop
loop-holds c =
    let s = c.before.before.before.before.before.before.before in
    let none : length (page₀ s) - 0 ≡ length (page₀ s) = omega arith in
    let all : s.args.b.stints - 0 ≡ s.args.b.stints = omega arith in
    record {
      upto = omega arith;
      there = omega (arith, c.if-start-from.false, c.if-start-gt-LAST_DAY.false);
      text = [];
      room = omega arith;
      front = rw (none, all);
      so_far = rw (none, all) (omega arith);
      next = refl;
      stored = sym (put_at-none 0 (page₀ s));
    }

pub board_page_spec : {M : Type 1} → statement M
board_page_spec =
    tie.close (tie.spec
    invariant-loop decreases-loop
    (λ c. nothing c.before.before.before.before (omega (arith, c.if-start-gt-LAST_DAY.true)))
    (λ c. nothing c.before.before.before.before.before.before (omega (arith, c.if-start-from.true, c.if-start-gt-LAST_DAY.false)))
    (λ c. omega (arith, c.if-start-from.false)) loop-holds (λ c. size c.before.before)
    (λ c. closed c.before.before (numbers-end (list (start c.before.before)) c.loop-i.i _ c.if-list-i.true))
    (λ c κs. search rules) (λ c κs. search rules)
    (λ c. search rules) (λ c. omega (arith, (standing c).loop-i.invariant.there)) (λ c κs. search rules) ready
    (λ c. omega (
      arith,
      long-next c.before.before.before,
      text-fits c.before.before.before,
      length-append (at c.before.before.before).loop-i.invariant.text (text c.before.before.before),
      (start (at c.before.before.before)).well_formed,
    ))
    (λ c. omega (arith, days-fit c.before.before.before.before)) (λ c. search rules)
    (λ c. put-size c.before.before.before.before.before.before)
    (λ c. stopped c.before.before.before.before.before.before c.if-filled-left.true)
    (λ c. omega (arith, still c.before.before.before.before.before.before (omega (arith, c.if-filled-left.false)))) (λ c κs. search rules)
    (λ c. omega (arith, small c.before.before.before.before.before.before.before.before.before.before.before.before))
    (λ c. omega (arith, more c.before.before.before.before.before.before.before)) loop-again (λ c. size c.before)
    (λ c. closed c.before (none_left (list (start c.before)) (start c.before).args.b.stints c.loop-i.i (omega (
      arith,
      c.loop-i-test.false,
    )))))
