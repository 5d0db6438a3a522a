-- one line more behind those that stand
use Rattle.base.proofs.Prelude.{ℕ, ◌+◌, ◌≤◌, ◌<◌, ◌≡◌, sym, ap, ◌∙◌, List, [], ◌∷◌, ◌++◌, arith, length, take, get_or, length-append, take_all}
use mathlib.Core.Path.{ap₂}
use Rattle.base.specs.Count.{put_at}
use Rattle.calendar.specs.declared.Date.{Date}
use Rattle.boards.specs.{declared.Test.Test, Input.no_test, inner.Daily.tests_text}
use Rattle.boards.proofs.{InPlace.{put_at-length, put_at-next, put_at-none}, Days.{tests-none, test-more, tests-within, first-twenty}}
use Rattle.boards.proofs.daily.put_tests.Goals as goal

module _ (head : List ℕ) (d : Date) (ts : List Test) (at i place : ℕ) (page₀ page : List ℕ) (inside : i < length ts)
    (room : at + length (tests_text head d ts) ≤ length page₀) (next : place ≡ at + length (tests_text head d (take i ts)))
    (stored : page ≡ put_at at (tests_text head d (take i ts)) page₀)
  where
    abbrev so_far : List ℕ
    so_far = tests_text head d (take i ts)

    abbrev line : List ℕ
    line = tests_text head d (get_or ts i no_test ∷ [])

    more : tests_text head d (take (i + 1) ts) ≡ so_far ++ line
    more = test-more head d ts no_test i inside

    both : at + length so_far + length line ≤ length page₀
    both = omega (arith, ap length more, length-append so_far line, tests-within head d ts (i + 1))

    fits : place + length line ≤ length page
    fits = omega (arith, both, ap length stored, put_at-length at so_far page₀ (omega (arith, both)))

    longer : place + length line ≡ at + length (tests_text head d (take (i + 1) ts))
    longer = omega (arith, ap length more, length-append so_far line)

    written : put_at place line page ≡ put_at at (tests_text head d (take (i + 1) ts)) page₀
    written =
        ap₂ (λ n p. put_at n line p) next stored ∙ put_at-next at so_far page₀ (omega (arith, both)) line both
        ∙ ap (λ l. put_at at l page₀) (sym more)

pub loop-t-init : goal.loop-t-init
loop-t-init c =
    let diary = c.args.diary in
    record {
      counted = ap (λ n. take n diary.tests) c.min.ensures ∙ first-twenty diary.count diary.tests c.well_formed.1.1.1.0.1.1.1.0.1.0.1;
      next = rw (tests-none c.args.head c.args.d) (omega arith);
      stored = rw (tests-none c.args.head c.args.d) (sym (put_at-none c.args.at c.args.page.now));
    }

pub put_test-place-requires : goal.put_test-place-requires
put_test-place-requires c =
    let so = c.loop-t.invariant in
    let room = rw (← so.counted) at c.requires in
    fits c.args.head c.args.d _ c.args.at c.loop-t.t-index _ c.args.page.now _ c.loop-t-test.true room so.next so.stored

pub loop-t-preserved : goal.loop-t-preserved
loop-t-preserved c =
    let so = c.loop-t.invariant in
    let room = rw (← so.counted) at c.requires in
    record {
      counted = so.counted;
      next = c.put_test-place.ensures.next
          ∙ longer c.args.head c.args.d _ c.args.at c.loop-t.t-index _ c.args.page.now _ c.loop-t-test.true room so.next so.stored;
      stored = c.put_test-place.ensures.stored
          ∙ written c.args.head c.args.d _ c.args.at c.loop-t.t-index _ c.args.page.now _ c.loop-t-test.true room so.next so.stored;
    }

pub returns : goal.returns
returns c =
    let so = c.loop-t.invariant in
    let all = take_all c.loop-t.t-index _ c.loop-t-test.false ∙ so.counted in
    record {
      next = so.next ∙ ap (λ ts. c.args.at + length (tests_text c.args.head c.args.d ts)) all;
      stored = so.stored ∙ ap (λ ts. put_at c.args.at (tests_text c.args.head c.args.d ts) c.args.page.now) all;
    }
