-- Each field stands where the definition has it.
use Rattle.std.proofs.Common.{◌∙◌}
use Rattle.rules.specs.Layout.{T, C, D, X, Late, string_frame}
use Rattle.layouts.specs.inner.Versions.{meant_by, layouts_number_of}
use Rattle.layouts.proofs.Versions.{t-place, c-place, d-place, x-place, late-known, late-small}
use Rattle.reading.proofs.Said.{field_room, field-said, string-said}
use Rattle.reading.proofs.strings.string_of.Goals as goal

pub field_of-requires-clause-inside : goal.field_of-requires-clause-inside
field_of-requires-clause-inside c =
    let v = c.args.version in
    field_room c.args.frame.now 0 (string_frame (meant_by v)) T _ (t-place (layouts_number_of v)) c.requires.frame

pub field_of-requires-2-clause-inside : goal.field_of-requires-2-clause-inside
field_of-requires-2-clause-inside c =
    let v = c.args.version in
    field_room c.args.frame.now 0 (string_frame (meant_by v)) C _ (c-place (layouts_number_of v)) c.requires.frame

pub field_of-requires-3-clause-inside : goal.field_of-requires-3-clause-inside
field_of-requires-3-clause-inside c =
    let v = c.args.version in
    field_room c.args.frame.now 0 (string_frame (meant_by v)) D _ (d-place (layouts_number_of v)) c.requires.frame

pub field_of-requires-4-clause-inside : goal.field_of-requires-4-clause-inside
field_of-requires-4-clause-inside c =
    let v = c.args.version in
    field_room c.args.frame.now 0 (string_frame (meant_by v)) X _ (x-place (layouts_number_of v)) c.requires.frame

pub field_of-requires-5-clause-inside : goal.field_of-requires-5-clause-inside
field_of-requires-5-clause-inside c =
    let v = c.args.version in
    field_room c.args.frame.now 0 (string_frame (meant_by v)) Late _ (late-known v _ c.layouts.ensures.exact) c.requires.frame

pub field_of-requires-5-clause-short : goal.field_of-requires-5-clause-short
field_of-requires-5-clause-short c = late-small c.args.version _ c.layouts.ensures.exact

pub returns : goal.returns
returns c =
    let v = c.args.version in
    let l = string_frame (meant_by v) in
    let frame = c.args.frame.now in
    record {
      exact =
          string-said (meant_by v) _ _ _ _ _ _ _ _
          (c.field_of.ensures.exact ∙ field-said frame 0 l T _ (t-place (layouts_number_of v)) c.requires.frame)
          (c.field_of-2.ensures.exact ∙ field-said frame 0 l C _ (c-place (layouts_number_of v)) c.requires.frame)
          (c.field_of-3.ensures.exact ∙ field-said frame 0 l D _ (d-place (layouts_number_of v)) c.requires.frame)
          (c.field_of-4.ensures.exact ∙ field-said frame 0 l X _ (x-place (layouts_number_of v)) c.requires.frame)
          c.cost_of.ensures.exact
          (c.field_of-5.ensures.exact ∙ field-said frame 0 l Late _ (late-known v _ c.layouts.ensures.exact) c.requires.frame);
    }
