-- each test is the definition's
use Rattle.base.proofs.Prelude.{ap, ◌∙◌, arith}
use Rattle.rules.specs.{Layout.{Count, Run, Place, Day, Need, header_frame, release_frame}, Text.{lines_of, n_in, run_in, due_in}}
use Rattle.layouts.specs.inner.Versions.{meant_by, layouts_number_of}
use Rattle.layouts.proofs.Versions.{count-place, place-place, need-place, day-place, run-known}
use Rattle.naming.specs.Lines.{line_no}
use Rattle.naming.proofs.{Numbers.{said, run_room}, Released.{last-line-said, place-below, place-above, need-low, need-high, after_run, day-out}}
use Rattle.naming.proofs.releases.release_reason.Goals as goal

pub returns-then-place-lt1 : goal.returns-then-place-lt1
unfolding n_in
returns-then-place-lt1 c =
    let number = layouts_number_of c.args.version in
    let v = meant_by c.args.version in
    let lines = lines_of c.args.text.now in
    let line = line_no lines c.args.k in
    let ei = c.field_of-place.ensures.exact ∙ said (release_frame v) Place _ (place-place number) line in
    let en = c.field_of-n.ensures.exact ∙ said (header_frame v) Count _ (count-place number) (line_no lines 1) in
    record { exact = place-below v lines c.args.k _ _ ei en (omega (arith, c.if-place-lt1.true)) }

pub returns-then-n-place : goal.returns-then-n-place
unfolding n_in
returns-then-n-place c =
    let number = layouts_number_of c.args.version in
    let v = meant_by c.args.version in
    let lines = lines_of c.args.text.now in
    let line = line_no lines c.args.k in
    let ei = c.field_of-place.ensures.exact ∙ said (release_frame v) Place _ (place-place number) line in
    let en = c.field_of-n.ensures.exact ∙ said (header_frame v) Count _ (count-place number) (line_no lines 1) in
    record { exact = place-above v lines c.args.k _ _ ei en (omega (arith, c.if-n-place.true)) (omega (arith, c.if-place-lt1.false)) }

pub returns-then-need-lt1 : goal.returns-then-need-lt1
unfolding n_in
returns-then-need-lt1 c =
    let number = layouts_number_of c.args.version in
    let v = meant_by c.args.version in
    let lines = lines_of c.args.text.now in
    let line = line_no lines c.args.k in
    let ei = c.field_of-place.ensures.exact ∙ said (release_frame v) Place _ (place-place number) line in
    let en = c.field_of-n.ensures.exact ∙ said (header_frame v) Count _ (count-place number) (line_no lines 1) in
    let ew = c.field_of-need.ensures.exact ∙ said (release_frame v) Need _ (need-place number) line in
    record {
      exact = need-low v lines c.args.k _ _ ei en (omega (arith, c.if-place-lt1.false)) (omega (arith, c.if-n-place.false))
          _ c.string_of-s.ensures.exact _ ew (omega (arith, c.if-need-lt1.true));
    }

pub returns-then-c-need : goal.returns-then-c-need
unfolding n_in
returns-then-c-need c =
    let number = layouts_number_of c.args.version in
    let v = meant_by c.args.version in
    let lines = lines_of c.args.text.now in
    let line = line_no lines c.args.k in
    let ei = c.field_of-place.ensures.exact ∙ said (release_frame v) Place _ (place-place number) line in
    let en = c.field_of-n.ensures.exact ∙ said (header_frame v) Count _ (count-place number) (line_no lines 1) in
    let ew = c.field_of-need.ensures.exact ∙ said (release_frame v) Need _ (need-place number) line in
    record {
      exact = need-high v lines c.args.k _ _ ei en (omega (arith, c.if-place-lt1.false)) (omega (arith, c.if-n-place.false))
          _ c.string_of-s.ensures.exact _ ew (omega (arith, c.if-c-need.true)) (omega (arith, c.if-need-lt1.false));
    }

pub field_of-run-requires : goal.field_of-run-requires
field_of-run-requires c =
    run_room c.args.version c.layouts.result c.layouts.ensures.exact

pub returns-then-run-day : goal.returns-then-run-day
unfolding n_in run_in
returns-then-run-day c =
    let number = layouts_number_of c.args.version in
    let v = meant_by c.args.version in
    let lines = lines_of c.args.text.now in
    let line = line_no lines c.args.k in
    let ei = c.field_of-place.ensures.exact ∙ said (release_frame v) Place _ (place-place number) line in
    let en = c.field_of-n.ensures.exact ∙ said (header_frame v) Count _ (count-place number) (line_no lines 1) in
    let ew = c.field_of-need.ensures.exact ∙ said (release_frame v) Need _ (need-place number) line in
    let er = c.field_of-run.ensures.exact
    ∙ said (header_frame v) Run _ (run-known c.args.version c.layouts.result c.layouts.ensures.exact) (line_no
    lines 1) in
    let et = c.field_of-day.ensures.exact ∙ said (release_frame v) Day _ (day-place number) line in
    record {
      exact = after_run v lines c.args.k _ _ ei en (omega (arith, c.if-place-lt1.false)) (omega (arith, c.if-n-place.false))
          _ c.string_of-s.ensures.exact _ ew (omega (arith, c.if-need-lt1.false)) (omega (arith, c.if-c-need.false))
          _ _ er et (omega (arith, c.if-run-day.true));
    }

pub returns : goal.returns
unfolding n_in run_in
returns c =
    let number = layouts_number_of c.args.version in
    let v = meant_by c.args.version in
    let lines = lines_of c.args.text.now in
    let line = line_no lines c.args.k in
    let ei = c.field_of-place.ensures.exact ∙ said (release_frame v) Place _ (place-place number) line in
    let en = c.field_of-n.ensures.exact ∙ said (header_frame v) Count _ (count-place number) (line_no lines 1) in
    let ew = c.field_of-need.ensures.exact ∙ said (release_frame v) Need _ (need-place number) line in
    let er = c.field_of-run.ensures.exact
    ∙ said (header_frame v) Run _ (run-known c.args.version c.layouts.result c.layouts.ensures.exact) (line_no
    lines 1) in
    let et = c.field_of-day.ensures.exact ∙ said (release_frame v) Day _ (day-place number) line in
    let found = c.last_line-last.ensures.exact ∙ last-line-said number lines c.field_of-n.result c.args.k c.field_of-place.result in
    record {
      exact = c.day_reason.ensures.exact
          ∙ day-out v lines c.args.k _ _ ei en (omega (arith, c.if-place-lt1.false)) (omega (arith, c.if-n-place.false))
          _ c.string_of-s.ensures.exact _ ew (omega (arith, c.if-need-lt1.false)) (omega (arith, c.if-c-need.false))
          _ _ er et (omega (arith, c.if-run-day.false)) _ _ _ c.due_of-due.ensures.exact c.day_ahead-ahead.ensures.exact
          (c.due_of.ensures.exact ∙ ap (λ j. due_in v (line_no lines j)) found);
    }
