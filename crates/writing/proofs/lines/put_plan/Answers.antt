-- The header's line stands first, then the strings' lines in the next part, then the releases' lines in the part after that.
use Rattle.base.proofs.Prelude.{arith}
use Rattle.writing.proofs.WholeText.{writing_short, header-room, header-stands, writing-header-inside, writing-strings-fit, writing-strings-stand, strings-inside, releases-fit, releases-stand}
use Rattle.writing.proofs.lines.put_plan.Goals as goal

pub overflow_add-releases : goal.overflow_add-releases
overflow_add-releases c =
    omega (arith, writing_short c.args.version _ c.layouts-layouts.ensures.exact c.args.p c.args.rs c.args.part.now c.requires)

pub put_frame-requires : goal.put_frame-requires
put_frame-requires c =
    header-room c.args.version _ c.layouts-layouts.ensures.exact c.args.p c.args.rs c.args.part.now c.requires _
    c.header_cells.ensures.exact

pub slice_bounds-put_strings-count : goal.slice_bounds-put_strings-count
slice_bounds-put_strings-count c =
    let headed = header-stands c.args.version _ c.layouts-layouts.ensures.exact c.args.p c.args.rs c.args.part.now c.requires _
    c.header_cells.ensures.exact _ c.put_frame.ensures.exact in
    writing-header-inside c.args.version _ c.layouts-layouts.ensures.exact c.args.p c.args.rs c.args.part.now c.requires _ headed

pub slice_bounds-put_strings-start : goal.slice_bounds-put_strings-start
slice_bounds-put_strings-start c =
    let headed = header-stands c.args.version _ c.layouts-layouts.ensures.exact c.args.p c.args.rs c.args.part.now c.requires _
    c.header_cells.ensures.exact _ c.put_frame.ensures.exact in
    writing-header-inside c.args.version _ c.layouts-layouts.ensures.exact c.args.p c.args.rs c.args.part.now c.requires _ headed

pub put_strings-requires : goal.put_strings-requires
put_strings-requires c =
    let headed = header-stands c.args.version _ c.layouts-layouts.ensures.exact c.args.p c.args.rs c.args.part.now c.requires _
    c.header_cells.ensures.exact _ c.put_frame.ensures.exact in
    writing-strings-fit c.args.version _ c.layouts-layouts.ensures.exact c.args.p c.args.rs c.args.part.now c.requires _ headed

pub slice_bounds-put_releases-count : goal.slice_bounds-put_releases-count
slice_bounds-put_releases-count c =
    let headed = header-stands c.args.version _ c.layouts-layouts.ensures.exact c.args.p c.args.rs c.args.part.now c.requires _
    c.header_cells.ensures.exact _ c.put_frame.ensures.exact in
    let stringed = writing-strings-stand c.args.version _ c.layouts-layouts.ensures.exact c.args.p c.args.rs c.args.part.now c.requires _
    headed _
    c.put_strings.ensures.exact in
    strings-inside c.args.version _ c.layouts-layouts.ensures.exact c.args.p c.args.rs c.args.part.now c.requires _ stringed

pub slice_bounds-put_releases-start : goal.slice_bounds-put_releases-start
slice_bounds-put_releases-start c =
    let headed = header-stands c.args.version _ c.layouts-layouts.ensures.exact c.args.p c.args.rs c.args.part.now c.requires _
    c.header_cells.ensures.exact _ c.put_frame.ensures.exact in
    let stringed = writing-strings-stand c.args.version _ c.layouts-layouts.ensures.exact c.args.p c.args.rs c.args.part.now c.requires _
    headed _
    c.put_strings.ensures.exact in
    strings-inside c.args.version _ c.layouts-layouts.ensures.exact c.args.p c.args.rs c.args.part.now c.requires _ stringed

pub put_releases-requires : goal.put_releases-requires
put_releases-requires c =
    let headed = header-stands c.args.version _ c.layouts-layouts.ensures.exact c.args.p c.args.rs c.args.part.now c.requires _
    c.header_cells.ensures.exact _ c.put_frame.ensures.exact in
    let stringed = writing-strings-stand c.args.version _ c.layouts-layouts.ensures.exact c.args.p c.args.rs c.args.part.now c.requires _
    headed _
    c.put_strings.ensures.exact in
    releases-fit c.args.version _ c.layouts-layouts.ensures.exact c.args.p c.args.rs c.args.part.now c.requires _ stringed

pub returns : goal.returns
returns c =
    let headed = header-stands c.args.version _ c.layouts-layouts.ensures.exact c.args.p c.args.rs c.args.part.now c.requires _
    c.header_cells.ensures.exact _ c.put_frame.ensures.exact in
    let stringed = writing-strings-stand c.args.version _ c.layouts-layouts.ensures.exact c.args.p c.args.rs c.args.part.now c.requires _
    headed _
    c.put_strings.ensures.exact in
    record {
      exact =
          releases-stand c.args.version _ c.layouts-layouts.ensures.exact c.args.p c.args.rs c.args.part.now c.requires _ stringed _
          c.put_releases.ensures.exact;
    }
