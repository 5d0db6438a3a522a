-- each line gives a test or the refusal of the diary
use Rattle.base.proofs.Prelude.{ℕ, ◌+◌, ◌-◌, ◌≤◌, ◌≡◌, refl, sym, ap, ◌∙◌, cond, ltb, List, arith, rules, length, take, drop, length-set, length-drop, drop_of_length-le}
use Rattle.std.proofs.lemmas.Result.{err_from_is_err_and}
use Rattle.rules.specs.Text.{lines_of}
use Rattle.register.specs.{Reader.line_long, inner.Fields.bytes_ahead}
use Rattle.register.proofs.Walk.{first_line, first_some, next-within, next-lines}
use Rattle.boards.specs.{Input.diary_in, inner.Walk.noted_of}
use Rattle.boards.proofs.Noting.{cut, end-within, behind-is, few, noting-all, noting-refused, later-lines, diary-next, counted, noted-next}
use Rattle.boards.proofs.entered.diary_in.Goals as goal

module _ (text : List ℕ) (at end : ℕ) (inside : at ≤ length text) (is : end ≡ at + bytes_ahead 0x0a (drop at text)) where
  -- the line that is cut out is the first of what stands from here on
  found : (j : ℕ) → noted_of j (record { bytes = take (end - at) (drop at text); ended = ltb end (length text) })
      ≡ noted_of j (first_line (drop at text))
  found j =
      ap (noted_of j)
      (ap (λ e. record { bytes = take (e - at) (drop at text); ended = ltb e (length text) }) is ∙ cut text at inside)

  end-inside : end ≤ length text
  end-inside = omega (arith, end-within text at inside)

  next : cond (ltb end (length text)) (end + 1) end ≡ at + line_long (first_line (drop at text))
  next = ap (λ e. cond (ltb e (length text)) (e + 1) e) is ∙ behind-is text at inside

pub loop-at-init : goal.loop-at-init
unfolding diary_in
loop-at-init c = record {
  upto = omega arith;
  many = omega arith;
  twenty = refl;
  inside = c.requires;
  rest = refl;
  same = refl;
  said = refl;
}

pub slice_bounds-test_at-end : goal.slice_bounds-test_at-end
slice_bounds-test_at-end c =
    let inside : c.line_end-end.result ≤ length c.args.text.now =
    end-inside c.args.text.now c.loop-at.at _ c.loop-at.invariant.inside c.line_end-end.ensures.exact in
    search (rules, inside)

pub returns-in_err-test : goal.returns-in_err-test
returns-in_err-test c =
    let text = c.args.text.now in
    let at = c.loop-at in
    let passed = err_from_is_err_and c.from_residual.result c.from_residual.ensures.1 in
    let gave = c.in_err-test.ensures.exact ∙ found text at.at _ at.invariant.inside c.line_end-end.ensures.exact _ in
    record {
      exact = rw (passed.1, passed.2)
          (noting-refused (lines_of (drop c.args.from text)) at.diary.count (first_line (drop at.at text)) _
          (at.invariant.rest ∙ next-lines text at.at c.loop-at-test.true) at.invariant.same _ (sym gave));
    }

pub bounds-diary-diary : goal.bounds-diary-diary
bounds-diary-diary c =
    let text = c.args.text.now in
    let gave = c.in_ok-test.ensures.exact ∙ found text c.loop-at.at _ c.loop-at.invariant.inside c.line_end-end.ensures.exact _ in
    omega (arith, few (c.loop-at.diary.count + 1) (first_line (drop c.loop-at.at text)) c.in_ok-test.test (sym gave))

pub loop-at-smaller : goal.loop-at-smaller
loop-at-smaller c =
    let text = c.args.text.now in
    let at = c.loop-at.at in
    let some = first_some (drop at text) (omega (arith, length-drop at text, c.loop-at-test.true)) in
    omega (
      arith,
      next-within text at c.loop-at-test.true,
      c.behind-at.ensures.exact ∙ next text at _ c.loop-at.invariant.inside c.line_end-end.ensures.exact,
    )

pub loop-at-preserved : goal.loop-at-preserved
loop-at-preserved c =
    let text = c.args.text.now in
    let lines = lines_of (drop c.args.from text) in
    let at = c.loop-at.at in
    let n = c.loop-at.diary.count in
    let so = c.loop-at.invariant in
    let line = first_line (drop at text) in
    let gave = sym (c.in_ok-test.ensures.exact ∙ found text at _ so.inside c.line_end-end.ensures.exact (n + 1)) in
    let here = so.rest ∙ next-lines text at c.loop-at-test.true in
    let on = c.behind-at.ensures.exact ∙ next text at _ so.inside c.line_end-end.ensures.exact in
    let later = later-lines lines n line _ here so.same c.in_ok-test.test gave in
    record {
      upto = few (n + 1) line c.in_ok-test.test gave;
      many = omega (arith, counted lines n line _ here so.same c.in_ok-test.test gave);
      twenty = simp length-set so.twenty;
      inside = omega (arith, on, next-within text at c.loop-at-test.true);
      rest = later ∙ ap (λ place. lines_of (drop place text)) (sym on);
      same = diary-next lines n line _ here so.same c.in_ok-test.test gave;
      said = noted-next lines n line _ here so.same c.in_ok-test.test gave c.loop-at.diary.tests so.said;
    }

pub returns : goal.returns
unfolding lines_of
returns c =
    let text = c.args.text.now in
    let so = c.loop-at.invariant in
    let past : length text ≤ c.loop-at.at = omega (arith, c.loop-at-test.false) in
    record {
      exact = noting-all (lines_of (drop c.args.from text)) c.loop-at.diary.count c.loop-at.diary.tests
          (so.rest ∙ ap lines_of (drop_of_length-le text past)) so.many so.same so.said;
    }
