-- The version's number decides first, then n and N, then the moving cost.
use Rattle.std.proofs.Common.{sym, ap, ◌∙◌}
use Rattle.std.proofs.lemmas.Result.{err_from_is_err_and}
use Rattle.faults.specs.Checks.{then}
use Rattle.rules.specs.{Refusal.cost_check, Text.a_in}
use Rattle.reading.specs.inner.Positions.{line_at}
use Rattle.rules.specs.Layout.{Number, Count, Common, Run, header_frame}
use Rattle.layouts.specs.inner.Versions.{meant_by, layouts_number_of}
use Rattle.layouts.proofs.Versions.{number-known, number-place, count-place, common-known, common-small, run-known, run_small}
use Rattle.reading.proofs.Said.{field_room, field-said, number-elsewhere, this-version}
use Rattle.reading.proofs.header.numbers_check.Goals as goal

pub field_of-requires-clause-inside : goal.field_of-requires-clause-inside
field_of-requires-clause-inside c =
    let v = c.args.version in
    field_room c.args.text.now 0 (header_frame (meant_by v)) Number _ (number-place (layouts_number_of v)) c.requires

pub returns-then-field_of-layouts : goal.returns-then-field_of-layouts
returns-then-field_of-layouts c =
    let v = c.args.version in
    let said = field-said c.args.text.now 0 (header_frame (meant_by v)) Number _ (number-place (layouts_number_of v)) c.requires in
    let number = number-known v c.layouts-layouts.result c.layouts-layouts.ensures.exact in
    record {
      exact =
          sym (number-elsewhere (meant_by v) _
          (λ same. c.if-field_of-layouts.true (c.field_of.ensures.exact ∙ said ∙ same ∙ sym number)));
    }

pub field_of-n-requires-clause-inside : goal.field_of-n-requires-clause-inside
field_of-n-requires-clause-inside c =
    let v = c.args.version in
    field_room c.args.text.now 0 (header_frame (meant_by v)) Count _ (count-place (layouts_number_of v)) c.requires

pub field_of-requires-2-clause-inside : goal.field_of-requires-2-clause-inside
field_of-requires-2-clause-inside c =
    let v = c.args.version in
    let run = run-known v c.layouts-layouts.result c.layouts-layouts.ensures.exact in
    field_room c.args.text.now 0 (header_frame (meant_by v)) Run _ run c.requires

pub field_of-requires-2-clause-short : goal.field_of-requires-2-clause-short
field_of-requires-2-clause-short c = run_small c.args.version c.layouts-layouts.result c.layouts-layouts.ensures.exact

pub field_of-requires-3-clause-inside : goal.field_of-requires-3-clause-inside
field_of-requires-3-clause-inside c =
    let v = c.args.version in
    let common = common-known v c.layouts-layouts.result c.layouts-layouts.ensures.exact in
    field_room c.args.text.now 0 (header_frame (meant_by v)) Common _ common c.requires

pub field_of-requires-3-clause-short : goal.field_of-requires-3-clause-short
field_of-requires-3-clause-short c = common-small c.args.version c.layouts-layouts.result c.layouts-layouts.ensures.exact

pub returns-in_err-head_check : goal.returns-in_err-head_check
returns-in_err-head_check c =
    let v = c.args.version in
    let l = header_frame (meant_by v) in
    let text = c.args.text.now in
    let known = c.layouts-layouts.ensures.exact in
    let number = c.field_of.ensures.exact ∙ field-said text 0 l Number _ (number-place (layouts_number_of v)) c.requires in
    let n = c.field_of-n.ensures.exact ∙ field-said text 0 l Count _ (count-place (layouts_number_of v)) c.requires in
    let run = c.field_of-2.ensures.exact ∙ field-said text 0 l Run _ (run-known v _ known) c.requires in
    let same = c.if-field_of-layouts.false ∙ number-known v _ known in
    let numbers = this-version (meant_by v) _ _ _ _ number same n run in
    let p = err_from_is_err_and c.from_residual.result c.from_residual.ensures.1 in
    record {
      exact =
          rw (p.1, p.2)
          (sym (numbers ∙ ap (λ a. then a (cost_check 1 (a_in (meant_by v) (line_at text 0)))) (sym c.in_err-head_check.ensures.exact)));
    }

pub returns : goal.returns
unfolding a_in
returns c =
    let v = c.args.version in
    let l = header_frame (meant_by v) in
    let text = c.args.text.now in
    let known = c.layouts-layouts.ensures.exact in
    let number = c.field_of.ensures.exact ∙ field-said text 0 l Number _ (number-place (layouts_number_of v)) c.requires in
    let n = c.field_of-n.ensures.exact ∙ field-said text 0 l Count _ (count-place (layouts_number_of v)) c.requires in
    let run = c.field_of-2.ensures.exact ∙ field-said text 0 l Run _ (run-known v _ known) c.requires in
    let a = c.field_of-3.ensures.exact ∙ field-said text 0 l Common _ (common-known v _ known) c.requires in
    let same = c.if-field_of-layouts.false ∙ number-known v _ known in
    let numbers = this-version (meant_by v) _ _ _ _ number same n run in
    record {
      exact =
          c.cost_check.ensures.exact ∙ ap (cost_check 1) a
          ∙ sym (numbers ∙ ap (λ a. then a (cost_check 1 (a_in (meant_by v) (line_at text 0)))) (sym c.in_ok-head_check.ensures.exact));
    }
