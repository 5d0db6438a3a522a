-- the form is tested, then its parts are read, the edition first
use Rattle.base.proofs.Prelude.{ℕ, ◌≡◌, ◌≤◌, ◌<◌, refl, sym, ap, ◌∙◌, Bool, true, false, arith, rules, length, take, length-take-le, lt-leb, le-leb, dec_le}
use Rattle.std.specs.Prelude.{Ok}
use Rattle.std.proofs.lemmas.Result.{err_from_is_err_and}
use Rattle.faults.specs.{declared.Fault.TheVariants.NoSuchDate, Checks.Refused}
use Rattle.calendar.specs.{declared.YearlyDate.YearlyDate, Texts.{yearly_reading, edition_reading}}
use Rattle.calendar.proofs.Texts.{fits-length}
use Rattle.writing.proofs.Texts.{lent-part}
use Rattle.boards.specs.{Input.diary_form, inner.Walk.noted_from}
use Rattle.boards.proofs.Entering.{unformed, formed-noted}
use Rattle.boards.proofs.entered.test_at.Goals as goal
use Rattle.boards.proofs.entered.test_at.Goals.{then-not-ended-via-then-not-ended, then-not-ended-via-else-not-ended+then-place-gt20}

late : (ed : ℕ) (on : YearlyDate) (ended : Bool) (j : ℕ) → (ended ≡ true → j ≤ 20 → ⊥) → Refused NoSuchDate 0
    ≡ noted_from (Ok ed) (Ok on) ended j
unfolding noted_from
late ed on false j never = refl
late ed on true j never = rw (lt-leb j 20 (past (never refl)))
  where
    past : (j ≤ 20 → ⊥) → 20 < j
    past h = elim (dec_le j 20) [ yes k ↦ absurd (h k) | no k ↦ omega arith ]

early : (ed : ℕ) (on : YearlyDate) (ended : Bool) (j : ℕ) → ended ≡ true → j ≤ 20
    → Ok (record { month = on.month; day = on.day; edition = ed }) ≡ noted_from (Ok ed) (Ok on) ended j
unfolding noted_from
early ed on ended j t k = rw (t, le-leb j 20 k)

pub returns-then-not-fits : goal.returns-then-not-fits
returns-then-not-fits c = record { exact = unformed c.args.line.now c.args.ended c.args.place (sym c.if-not-fits.ensures.exact) }

pub slice_bounds-edition_read-count : goal.slice_bounds-edition_read-count
slice_bounds-edition_read-count c = omega (arith, fits-length diary_form c.args.line.now (sym c.if-not-fits.ensures.exact))

pub slice_bounds-edition_read-start : goal.slice_bounds-edition_read-start
slice_bounds-edition_read-start c =
    let seven : 7 ≡ length c.args.line.now = fits-length diary_form c.args.line.now (sym c.if-not-fits.ensures.exact) in
    search (rules, seven)

pub returns-in_err-edition : goal.returns-in_err-edition
unfolding noted_from
returns-in_err-edition c =
    let passed = err_from_is_err_and c.from_residual.result c.from_residual.ensures.1 in
    let said = c.in_err-edition.ensures.exact ∙ ap edition_reading (lent-part 6 c.args.line.now) in
    record {
      exact = rw (passed.1, passed.2)
          (ap (λ r. noted_from r (yearly_reading (take 5 c.args.line.now)) c.args.ended c.args.place) said
          ∙ formed-noted c.args.line.now c.args.ended c.args.place (sym c.if-not-fits.ensures.exact));
    }

pub slice_bounds-yearly_read-end : goal.slice_bounds-yearly_read-end
slice_bounds-yearly_read-end c =
    let seven : 7 ≡ length c.args.line.now = fits-length diary_form c.args.line.now (sym c.if-not-fits.ensures.exact) in
    sym (length-take-le 5 c.args.line.now (omega arith))

pub returns-in_err-date : goal.returns-in_err-date
unfolding noted_from
returns-in_err-date c =
    let passed = err_from_is_err_and c.from_residual-in_err-date.result c.from_residual-in_err-date.ensures.1 in
    let edition = c.in_ok-edition.ensures.exact ∙ ap edition_reading (lent-part 6 c.args.line.now) in
    record {
      exact = rw (passed.1, passed.2)
          (ap (λ on. noted_from (Ok c.in_ok-edition.edition) on c.args.ended c.args.place) c.in_err-date.ensures.exact
          ∙ ap (λ r. noted_from r (yearly_reading (take 5 c.args.line.now)) c.args.ended c.args.place) edition
          ∙ formed-noted c.args.line.now c.args.ended c.args.place (sym c.if-not-fits.ensures.exact));
    }

pub returns-then-not-ended : goal.returns-then-not-ended
returns-then-not-ended c =
    let edition = c.in_ok-edition.ensures.exact ∙ ap edition_reading (lent-part 6 c.args.line.now) in
    record {
      exact = late c.in_ok-edition.edition c.in_ok-date.date c.args.ended c.args.place
          (λ t k. elim c.then-not-ended.branch [
            | then-not-ended-via-then-not-ended w ↦ let e = w.if-not-ended.true in cc
            | then-not-ended-via-else-not-ended+then-place-gt20 w ↦ omega (arith, w.if-place-gt20.true)
          ])
          ∙ ap (λ on. noted_from (Ok c.in_ok-edition.edition) on c.args.ended c.args.place) c.in_ok-date.ensures.exact
          ∙ ap (λ r. noted_from r (yearly_reading (take 5 c.args.line.now)) c.args.ended c.args.place) edition
          ∙ formed-noted c.args.line.now c.args.ended c.args.place (sym c.if-not-fits.ensures.exact);
    }

pub returns : goal.returns
returns c =
    let edition = c.in_ok-edition.ensures.exact ∙ ap edition_reading (lent-part 6 c.args.line.now) in
    record {
      exact = early c.in_ok-edition.edition c.in_ok-date.date c.args.ended c.args.place c.if-not-ended.false c.if-place-gt20.false
          ∙ ap (λ on. noted_from (Ok c.in_ok-edition.edition) on c.args.ended c.args.place) c.in_ok-date.ensures.exact
          ∙ ap (λ r. noted_from r (yearly_reading (take 5 c.args.line.now)) c.args.ended c.args.place) edition
          ∙ formed-noted c.args.line.now c.args.ended c.args.place (sym c.if-not-fits.ensures.exact);
    }
