-- One string more is stored; in the end there are n.
use Rattle.std.proofs.Common.{◌≡◌, ◌+◌, ◌*◌, ℕ, ap, ◌∙◌, arith, map}
use Rattle.base.specs.Count.{filled}
use Rattle.rules.specs.{Plan.no_string, Layout.{Run, header_frame}, Text.{run_in, string_of}}
use Rattle.layouts.specs.inner.Versions.{meant_by}
use Rattle.layouts.proofs.Versions.{run-known, run_small, string-line}
use Rattle.reading.specs.inner.Positions.{line_at, lines_at}
use Rattle.reading.proofs.{Lines.{tail-line, tail-frame}, Said.{field_room, field-said}, Standing.{stored-none, stored_more, frame-here}, Whole.plan-said}
use Rattle.reading.proofs.strings.plan_in.Goals as goal

pub loop-i-init : goal.loop-i-init
loop-i-init c =
    stored-none no_string (string_of (meant_by c.args.version) _) 10 c.args.text.now c.args.start c.layouts-layouts.result.string.line

pub string_of-requires-clause-frame : goal.string_of-requires-clause-frame
string_of-requires-clause-frame c =
    let long = string-line c.args.version _ c.layouts-layouts.ensures.exact in
    tail-frame _ _ _ (frame-here long c.requires.stand c.loop-i.i (omega arith))

pub loop-i-preserved : goal.loop-i-preserved
loop-i-preserved c =
    let v = meant_by c.args.version in
    let text = c.args.text.now in
    let step = c.layouts-layouts.result.string.line in
    let line = tail-line text (c.args.start + c.loop-i.i * step) in
    stored_more no_string (string_of v _) 10 _ _ step c.loop-i.i _ _ (omega arith)
    c.loop-i.invariant (c.string_of.ensures.exact ∙ ap (string_of v (line_at text 0)) line)

pub field_of-requires-clause-inside : goal.field_of-requires-clause-inside
field_of-requires-clause-inside c =
    let v = c.args.version in
    field_room c.args.text.now 0 (header_frame (meant_by v)) Run _ (run-known v _ c.layouts-layouts.ensures.exact) c.requires.header

pub field_of-requires-clause-short : goal.field_of-requires-clause-short
field_of-requires-clause-short c = run_small c.args.version _ c.layouts-layouts.ensures.exact

pub returns : goal.returns
unfolding run_in
returns c =
    let v = meant_by c.args.version in
    let known = c.layouts-layouts.ensures.exact in
    let text = c.args.text.now in
    let stored = λ (step i : ℕ). filled 10 no_string (map (string_of v (line_at text 0)) (lines_at text c.args.start step i)) in
    let all : c.loop-i.i ≡ c.args.n = omega arith in
    let run = c.field_of.ensures.exact ∙ field-said text 0 (header_frame v) Run _ (run-known c.args.version _ known) c.requires.header in
    let strings =
    c.loop-i.invariant ∙ ap (stored c.layouts-layouts.result.string.line) all
    ∙ ap (λ step. stored step c.args.n) (string-line c.args.version _ known) in
    record {
      exact =
          plan-said v text c.args.start c.args.n c.requires.header c.requires.first c.requires.count.0 c.requires.stand _ _ run strings;
    }
