-- Each field stands where the definition has it.
use Rattle.std.proofs.Common.{◌∙◌}
use Rattle.rules.specs.{Layout.{Place, Day, Need, release_frame}}
use Rattle.layouts.specs.inner.Versions.{meant_by, layouts_number_of}
use Rattle.layouts.proofs.Versions.{place-place, day-place, need-place}
use Rattle.reading.proofs.Said.{field_room, field-said, reading-release-said}
use Rattle.reading.proofs.releases.release_of.Goals as goal

pub field_of-requires-clause-inside : goal.field_of-requires-clause-inside
field_of-requires-clause-inside c =
    let v = c.args.version in
    field_room c.args.frame.now 0 (release_frame (meant_by v)) Day _ (day-place (layouts_number_of v)) c.requires

pub field_of-requires-2-clause-inside : goal.field_of-requires-2-clause-inside
field_of-requires-2-clause-inside c =
    let v = c.args.version in
    field_room c.args.frame.now 0 (release_frame (meant_by v)) Place _ (place-place (layouts_number_of v)) c.requires

pub field_of-requires-3-clause-inside : goal.field_of-requires-3-clause-inside
field_of-requires-3-clause-inside c =
    let v = c.args.version in
    field_room c.args.frame.now 0 (release_frame (meant_by v)) Need _ (need-place (layouts_number_of v)) c.requires

pub returns : goal.returns
returns c =
    let v = c.args.version in
    let l = release_frame (meant_by v) in
    let frame = c.args.frame.now in
    record {
      exact =
          reading-release-said (meant_by v) _ _ _ _ _
          (c.field_of.ensures.exact ∙ field-said frame 0 l Day _ (day-place (layouts_number_of v)) c.requires)
          (c.field_of-2.ensures.exact ∙ field-said frame 0 l Place _ (place-place (layouts_number_of v)) c.requires)
          (c.field_of-3.ensures.exact ∙ field-said frame 0 l Need _ (need-place (layouts_number_of v)) c.requires)
          c.due_of.ensures.exact;
    }
