-- `put_days` meets its contract. Invariant: the days so far stand in the page, and of the others those that fit will follow.
use Rattle.base.proofs.Prelude.{ℕ, ◌+◌, ◌-◌, ◌*◌, ◌≤◌, ◌<◌, ◌≡◌, sym, ap, ◌∙◌, List, [], ◌++◌, append-nil, append_assoc, arith, rules, length, take, length-append, length-take-le, replicate}
use mathlib.Core.Path.{ap₂}
use Rattle.base.specs.Count.{keep, put_at}
use Rattle.calendar.specs.Numbers.{date_of, last_day}
use Rattle.lines.specs.{Pages.text_of, Board.used_line}
use Rattle.lines.proofs.Growing.{text-is, within}
use Rattle.boards.specs.{declared.Test.Test, Board.tests_of, Paging.{fitted, days_fitted}, inner.Daily.{head_with, falls_by, day_text, day_by, run_text, run_days}}
use Rattle.boards.proofs.{InPlace.{put_at-length, put_at-next, put_at-none}, Days.{head-long, day-long}, Fitting.{run_more, run-days, run-full, run_none, run-fitted}, daily.put_days.Statement.statement}
use Rattle.boards.proofs.daily.put_days.Tie as tie

abbrev invariant-loop : tie.invariant-loop-passed
invariant-loop page₀ at first count diary len bytes place₀ passed₀ page place passed =
    let day = day_by (take len bytes) (tests_of diary) in
    record {
      upto : passed ≤ count;
      days-there : first + count ≤ last_day + 1;
      short : len ≤ 256;
      tail : len ≤ length bytes;
      text : List ℕ;
      room : at + length text ≤ length page₀;
      front : text ++ run_text day (length page₀ - place) (first + passed) (count - passed)
          ≡ run_text day (length page₀ - at) first count;
      days : passed + run_days day (length page₀ - place) (first + passed) (count - passed)
          ≡ run_days day (length page₀ - at) first count;
      next : place ≡ at + length text;
      stored : page ≡ put_at at text page₀;
    }

abbrev decreases-loop : tie.decreases-loop-passed
decreases-loop page₀ at first count diary len bytes place₀ passed₀ page place passed = count - passed

module _ (o : tie.At-loop-passed invariant-loop decreases-loop) where
  abbrev start : tie.Start invariant-loop decreases-loop
  start = o.before.before.before.before

  abbrev page₀ : List ℕ
  page₀ = start.args.page.now

  abbrev tail : List ℕ
  tail = take o.used_line-line.result.len o.used_line-line.result.bytes

  abbrev tests : List Test
  tests = tests_of start.args.diary

  abbrev k : ℕ
  k = start.args.first + o.loop-passed.passed

  size : length o.loop-passed.page ≡ length page₀
  size = ap length o.loop-passed.invariant.stored ∙ put_at-length start.args.at o.loop-passed.invariant.text page₀
      o.loop-passed.invariant.room

  -- the line's tail is that of the use
  tail-is : tail ≡ used_line start.args.used
  unfolding text_of
  tail-is = text-is o.used_line-line.result (used_line start.args.used) o.used_line-line.ensures

  -- what was written, once no more is
  module _ (none : run_text (day_by tail tests) (length page₀ - o.loop-passed.place) k (start.args.count - o.loop-passed.passed) ≡ [])
      (no_more : run_days (day_by tail tests) (length page₀ - o.loop-passed.place) k (start.args.count - o.loop-passed.passed) ≡ 0)
    where
      written : o.loop-passed.invariant.text ≡ run_text (day_by tail tests) (length page₀ - start.args.at) start.args.first start.args.count
      written = sym (append-nil o.loop-passed.invariant.text) ∙ ap (λ l. o.loop-passed.invariant.text ++ l) (sym none)
          ∙ o.loop-passed.invariant.front

      done : o.loop-passed.passed ≡ run_days (day_by tail tests) (length page₀ - start.args.at) start.args.first start.args.count
      done = omega (arith, o.loop-passed.invariant.days)

      abbrev whole : List ℕ
      whole = fitted (length page₀ - start.args.at) start.args.first tests (replicate start.args.count start.args.used)

      is : o.loop-passed.invariant.text ≡ whole
      is =
          written
          ∙ ap (λ t. run_text (day_by t tests) (length page₀ - start.args.at) start.args.first start.args.count) tail-is
          ∙ sym (run-fitted tests start.args.used (length page₀ - start.args.at) start.args.first start.args.count).0

      ended : (o.loop-passed.passed
          ≡ days_fitted (length page₀ - start.args.at) start.args.first tests (replicate start.args.count start.args.used))
          × ((o.loop-passed.place - start.args.at ≡ length whole) × (o.loop-passed.page ≡ put_at start.args.at whole page₀))
      ended = (
        done
            ∙ ap (λ t. run_days (day_by t tests) (length page₀ - start.args.at) start.args.first start.args.count) tail-is
            ∙ sym (run-fitted tests start.args.used (length page₀ - start.args.at) start.args.first start.args.count).1,
        (
          omega (arith, o.loop-passed.invariant.next, ap length is),
          o.loop-passed.invariant.stored
              ∙ ap (λ t. put_at start.args.at t page₀) is,
        ),
      )

loop-holds : tie.Need-loop-passed-init invariant-loop decreases-loop
loop-holds c =
    let s = c.before.before.before in
    let line = c.used_line-line.result in
    let bytes : length line.bytes ≡ 256 = c.used_line-line.type_inv.1.1.1.0.1.0.1 in
    let none : s.args.first + 0 ≡ s.args.first = omega arith in
    let all : s.args.count - 0 ≡ s.args.count = omega arith in
    record {
      upto = omega arith;
      days-there = s.requires.1;
      short = omega (arith, within c.used_line-line.result (used_line s.args.used) c.used_line-line.ensures);
      tail = within c.used_line-line.result (used_line s.args.used) c.used_line-line.ensures;
      text = [];
      room = omega (arith, s.requires.0);
      front = rw (none, all);
      days = rw (none, all) (omega arith);
      next = omega arith;
      stored = sym (put_at-none s.args.at s.args.page.now);
    }

-- the day that is looked at
module _ (f : tie.After-falling invariant-loop decreases-loop) where
  abbrev at : tie.At-loop-passed invariant-loop decreases-loop
  at = f.before.before.before

  more : 1 ≤ (start at).args.count - at.loop-passed.passed
  more = omega (arith, f.loop-passed-test.true)

  long : 15 + at.used_line-line.result.len + 28 * f.falling.result ≡ length (day_by (tail at) (tests at) (k at))
  unfolding day_by
  long =
      let d = date_of (k at) in
      let counted : f.falling.result ≡ length (keep (falls_by d) (tests at)) =
      f.falling.ensures.0 ∙ ap (λ e. length (keep (falls_by e) (tests at))) f.date_on-d.ensures in
      omega (
        arith,
        counted,
        day-long (head_with d (k at)) (tail at) d (tests at) (head-long d (k at)),
        length-take-le at.used_line-line.result.len at.used_line-line.result.bytes at.loop-passed.invariant.tail,
      )

-- it does not fit
returns : tie.Need-returns-then-page-place invariant-loop decreases-loop
returns c =
    let f = c.before in
    let o = at f in
    let s = start o in
    let day = day_by (tail o) (tests o) in
    let over : length (page₀ o) - o.loop-passed.place < length (day (k o)) = omega (arith, long f, c.if-page-place.true, size o) in
    let full = run-full day (length (page₀ o) - o.loop-passed.place) (k o) (s.args.count - o.loop-passed.passed) (more f) over in
    ended o full.0 full.1

-- it does
module _ (b : tie.After-bytes-in-loop-passed-1 invariant-loop decreases-loop) where
  abbrev looked : tie.After-falling invariant-loop decreases-loop
  looked = b.before.before.before.before

  abbrev stands : tie.At-loop-passed invariant-loop decreases-loop
  stands = at looked

  abbrev day_of : ℕ → List ℕ
  day_of = day_by (tail stands) (tests stands)

  fits : length (day_of (k stands)) ≤ length (page₀ stands) - stands.loop-passed.place
  fits = omega (arith, long looked, b.if-page-place.false, size stands)

  -- what is put is the day
  day-is : day_text b.head.result (tail stands) looked.date_on-d.result (tests stands) ≡ day_of (k stands)
  unfolding day_by
  day-is =
      ap (λ h. day_text h (tail stands) looked.date_on-d.result (tests stands)) b.head.ensures
      ∙ ap (λ d. day_text (head_with d (k stands)) (tail stands) d (tests stands)) looked.date_on-d.ensures

  room_for : stands.loop-passed.place + length (day_of (k stands)) ≤ length stands.loop-passed.page
  room_for = omega (arith, fits, size stands, stands.loop-passed.invariant.room, stands.loop-passed.invariant.next)

loop-again : tie.Need-loop-passed-preserved invariant-loop decreases-loop
loop-again c =
    let p = c.before.before in
    let b = p.before in
    let o = stands b in
    let s = start o in
    let day = day_of b in
    let this = day (k o) in
    let so = o.loop-passed.invariant.text in
    let left = length (page₀ o) - o.loop-passed.place in
    let rest = s.args.count - o.loop-passed.passed in
    let put : p.put_day-place.result ≡ o.loop-passed.place + length this = p.put_day-place.ensures.0
    ∙ ap (λ l. o.loop-passed.place + length l) (day-is b) in
    let room-left : left - length this ≡ length (page₀ o) - p.put_day-place.result = omega (arith, put) in
    let next-day : k o + 1 ≡ s.args.first + (o.loop-passed.passed + 1) = omega arith in
    let fewer : rest - 1 ≡ s.args.count - (o.loop-passed.passed + 1) = omega arith in
    let after = run_text day (length (page₀ o) - p.put_day-place.result) (s.args.first + (o.loop-passed.passed + 1))
    (s.args.count - (o.loop-passed.passed + 1)) in
    let text-more : run_text day left (k o) rest ≡ this ++ after = run_more day left (k o) rest (more (looked b)) (fits b) ∙ rw (
      room-left,
      next-day,
      fewer,
    ) in
    let days-more : run_days day left (k o) rest
    ≡ 1 + run_days day (length (page₀ o) - p.put_day-place.result) (s.args.first + (o.loop-passed.passed + 1))
    (s.args.count - (o.loop-passed.passed + 1))
    = run-days day left (k o) rest (more (looked b)) (fits b) ∙ rw (room-left, next-day, fewer) in
    record {
      upto = omega (arith, more (looked b));
      days-there = o.loop-passed.invariant.days-there;
      short = o.loop-passed.invariant.short;
      tail = o.loop-passed.invariant.tail;
      text = so ++ this;
      room = omega (arith, room_for b, size o, o.loop-passed.invariant.next, length-append so this);
      front = append_assoc so this after ∙ ap (λ l. so ++ l) (sym text-more) ∙ o.loop-passed.invariant.front;
      days = omega (arith, days-more, o.loop-passed.invariant.days);
      next = omega (arith, put, o.loop-passed.invariant.next, length-append so this);
      stored = p.put_day-place.ensures.1
          ∙ ap (λ l. put_at o.loop-passed.place l o.loop-passed.page) (day-is b)
          ∙ ap₂ (λ place page. put_at place this page) o.loop-passed.invariant.next o.loop-passed.invariant.stored
          ∙ put_at-next s.args.at so (page₀ o) o.loop-passed.invariant.room this
          (omega (arith, room_for b, size o, o.loop-passed.invariant.next));
    }

returns-2 : tie.Need-returns invariant-loop decreases-loop
returns-2 c =
    let o = c.before in
    let s = start o in
    let day = day_by (tail o) (tests o) in
    let none : s.args.count - o.loop-passed.passed ≡ 0 = omega (arith, c.loop-passed-test.false) in
    let room = length (page₀ o) - o.loop-passed.place in
    let over = run_none day room (k o) in
    ended o (ap (run_text day room (k o)) none ∙ over.0) (ap (run_days day room (k o)) none ∙ over.1)

pub put_days_spec : {M : Type 1} → statement M
put_days_spec =
    tie.close (tie.spec
    invariant-loop decreases-loop (λ c κs. search rules) loop-holds (λ c. omega (arith, c.loop-passed.invariant.days-there))
    (λ c κs. omega (arith, c.loop-passed.invariant.days-there)) (λ c. omega (arith, c.loop-passed.invariant.short))
    (λ c κs. search rules)
    (λ c. omega (arith, c.falling.ensures.1)) (λ c. omega (arith, c.falling.ensures.1, (at c).loop-passed.invariant.short))
    (λ c. omega (arith, size (at c), (at c).loop-passed.invariant.room, (at c).loop-passed.invariant.next)) (λ c. search rules)
    (λ c. omega (arith, (at c.before).loop-passed.invariant.next)) (λ c. size (at c.before)) returns (λ c κs. search rules)
    (λ c. (at c.before.before.before).loop-passed.invariant.tail)
    (λ c. sym (length-take-le _ _ (at (looked c)).loop-passed.invariant.tail))
    (λ c κs. omega (arith, room_for c, ap length (day-is c)))
    (λ c. omega (arith, more (looked c.before.before.before))) (λ c. omega arith) loop-again (λ c. search rules)
    (λ c. omega (arith, c.loop-passed.invariant.next)) (λ c. size c.before) returns-2)
