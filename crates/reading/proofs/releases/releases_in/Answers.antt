-- One release more is stored; in the end there are `count`.
use Rattle.std.proofs.Common.{◌≡◌, ◌+◌, ◌*◌, ℕ, ap, ◌∙◌, arith, map}
use Rattle.base.specs.Count.{filled}
use Rattle.rules.specs.{Release.no_release, Text.release_of}
use Rattle.layouts.specs.inner.Versions.{meant_by}
use Rattle.layouts.proofs.Versions.{release-line}
use Rattle.reading.specs.inner.Positions.{lines_at, release_list}
use Rattle.reading.proofs.{Lines.{tail-line, tail-frame}, Standing.{stored-none, stored_more, frame-here}}
use Rattle.reading.proofs.releases.releases_in.Goals as goal

pub loop-i-init : goal.loop-i-init
loop-i-init c = stored-none no_release (release_of (meant_by c.args.version)) 1000 c.args.text.now c.args.start
    c.layouts-line.result.release.line

pub release_of-requires : goal.release_of-requires
release_of-requires c =
    let long = release-line c.args.version _ c.layouts-line.ensures.exact in
    tail-frame _ _ _ (frame-here long c.requires.stand c.loop-i.i (omega arith))

pub loop-i-preserved : goal.loop-i-preserved
loop-i-preserved c =
    let v = meant_by c.args.version in
    let step = c.layouts-line.result.release.line in
    let line = tail-line c.args.text.now (c.args.start + c.loop-i.i * step) in
    stored_more no_release (release_of v) 1000 _ _ step c.loop-i.i _ _ (omega arith)
    c.loop-i.invariant (c.release_of.ensures.exact ∙ ap (release_of v) line)

pub returns : goal.returns
unfolding release_list
returns c =
    let v = meant_by c.args.version in
    let stored = λ (step i : ℕ). filled 1000 no_release (map (release_of v) (lines_at c.args.text.now c.args.start step i)) in
    let all : c.loop-i.i ≡ c.args.count = omega arith in
    let list =
    c.loop-i.invariant ∙ ap (stored c.layouts-line.result.release.line) all
    ∙ ap (λ step. stored step c.args.count) (release-line c.args.version _ c.layouts-line.ensures.exact) in
    record { exact = ap (λ releases. record { count = c.args.count; list = releases }) list }
