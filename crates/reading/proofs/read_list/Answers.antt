-- Frames first, then the first unlawful release, then what ended the frames.
use Rattle.std.proofs.Common.{◌≡◌, ℕ, List, ◌+◌, ◌*◌, ◌≤◌, sym, ap, ◌∙◌, arith}
use Rattle.std.proofs.lemmas.Result.{err_from_is_err_and}
use Rattle.rules.specs.{declared.Plan.Plan, declared.Releases.Releases, Release.{releases_of, first_unlawful}, Layout.{frame_size, release_frame}}
use Rattle.layouts.specs.{declared.Version.Version, declared.Layouts.Layouts, inner.Versions.{layouts_for, meant_by}}
use Rattle.layouts.proofs.Versions.{header-line, header-line-short, string-line, string-line-short, ten-short}
use Rattle.reading.specs.{declared.Framed.Framed, inner.Positions.{lines_from, Stand, StringsRead, frames_in, releases_at, release_list}}
use Rattle.reading.proofs.Whole.{framed, unlawful, strings-few, start-inside, framed-few, framed-stand, unlawful-few, list-unlawful, list-refused, releases-lawful}
use Rattle.reading.proofs.read_list.Goals as goal

module _ (version : Version) (text : List ℕ) (p : Plan) (s : StringsRead (meant_by version) text p) (said : Layouts)
    (known : said ≡ layouts_for (meant_by version))
  where
    few : p.n ≤ 10
    few = strings-few (meant_by version) text p s

    near : p.n * said.string.line ≤ 600
    near = ten-short p.n said.string.line few (string-line-short version said known)

    -- where the release lines start
    abbrev start_of : ℕ
    start_of = said.header.line + p.n * said.string.line

    start-is : start_of ≡ releases_at (meant_by version) p.n
    start-is =
        let strings = ap (λ step. p.n * step) (string-line version said known) in
        omega (arith, header-line version said known)

    start-low : start_of ≤ 1000
    start-low = omega (arith, near, header-line-short version said known)

    abbrev frames : Framed
    frames = framed (meant_by version) text p s

    -- the frames stand where the code looks for them
    stand : Stand text start_of (frame_size (release_frame (meant_by version))) frames.count
    stand = rw start-is (framed-stand (meant_by version) text p s)

    module _ (found : Framed) (e : found ≡ frames_in (release_frame (meant_by version)) (p.n + 2) 1000 (lines_from text start_of)) where
      frames-are : found ≡ frames
      frames-are = e ∙ ap (λ at. frames_in (release_frame (meant_by version)) (p.n + 2) 1000 (lines_from text at)) start-is

      count-is : found.count ≡ frames.count
      count-is = ap (λ (r : Framed). r.count) frames-are

      module _ (rs : Releases) (g : rs ≡ release_list (meant_by version) text start_of found.count) where
        list-is : rs ≡ release_list (meant_by version) text (releases_at (meant_by version) p.n) frames.count
        list-is =
            g ∙ ap (release_list (meant_by version) text start_of) count-is
            ∙ ap (λ at. release_list (meant_by version) text at frames.count) start-is

        unlawful-is : (u : ℕ) → u ≡ first_unlawful p (releases_of rs) → u ≡ unlawful (meant_by version) text p s
        unlawful-is u h = h ∙ ap (λ list. first_unlawful p (releases_of list)) list-is

pub overflow_mul-start : goal.overflow_mul-start
overflow_mul-start c = omega (arith, near c.args.version _ c.args.p c.requires _ c.layouts-layouts.ensures.exact)

pub overflow_add-start : goal.overflow_add-start
overflow_add-start c = omega (arith, start-low c.args.version _ c.args.p c.requires _ c.layouts-layouts.ensures.exact)

pub overflow_add-p : goal.overflow_add-p
overflow_add-p c = omega (arith, few c.args.version _ c.args.p c.requires _ c.layouts-layouts.ensures.exact)

pub release_frames-framed-requires : goal.release_frames-framed-requires
release_frames-framed-requires c =
    let known = c.layouts-layouts.ensures.exact in
    let low = start-low c.args.version _ c.args.p c.requires _ known in
    let ten = few c.args.version _ c.args.p c.requires _ known in
    let inside = start-inside (meant_by c.args.version) _ c.args.p c.requires in
    let start = start-is c.args.version _ c.args.p c.requires _ known in
    record { inside = (omega (arith, start, inside), low, omega (arith, ten)) }

pub releases_in-releases-requires-clause-bound : goal.releases_in-releases-requires-clause-bound
releases_in-releases-requires-clause-bound c =
    let known = c.layouts-layouts.ensures.exact in
    let low = start-low c.args.version _ c.args.p c.requires _ known in
    let count = count-is c.args.version _ c.args.p c.requires _ known _ c.release_frames-framed.ensures.exact in
    (low, rw count (framed-few (meant_by c.args.version) _ _ c.requires))

pub releases_in-releases-requires-clause-stand : goal.releases_in-releases-requires-clause-stand
releases_in-releases-requires-clause-stand c =
    let known = c.layouts-layouts.ensures.exact in
    let count = count-is c.args.version _ c.args.p c.requires _ known _ c.release_frames-framed.ensures.exact in
    rw count (stand c.args.version _ c.args.p c.requires _ known)

pub overflow_add-result : goal.overflow_add-result
overflow_add-result c = omega (arith, few c.args.version _ c.args.p c.requires _ c.layouts-layouts.ensures.exact)

pub overflow_add-result-in-Some : goal.overflow_add-result-in-Some
overflow_add-result-in-Some c =
    let known = c.layouts-layouts.ensures.exact in
    let ten = few c.args.version _ c.args.p c.requires _ known in
    let place =
    unlawful-is c.args.version _ c.args.p c.requires _ known _ c.release_frames-framed.ensures.exact _
    c.releases_in-releases.ensures.exact c.in-Some.place c.in-Some.ensures.exact in
    omega (arith, ten, place, unlawful-few (meant_by c.args.version) _ _ c.requires)

pub returns-in-Some : goal.returns-in-Some
returns-in-Some c =
    let known = c.layouts-layouts.ensures.exact in
    let place =
    unlawful-is c.args.version _ c.args.p c.requires _ known _ c.release_frames-framed.ensures.exact _
    c.releases_in-releases.ensures.exact c.in-Some.place c.in-Some.ensures.exact in
    record { exact = sym (list-unlawful (meant_by c.args.version) _ _ c.requires _ place c.in-Some.ensures.place) }

pub returns-in_err-framed : goal.returns-in_err-framed
returns-in_err-framed c =
    let known = c.layouts-layouts.ensures.exact in
    let none =
    unlawful-is c.args.version _ c.args.p c.requires _ known _ c.release_frames-framed.ensures.exact _
    c.releases_in-releases.ensures.exact 0 c.in_default.ensures.exact in
    let ended = ap (λ (r : Framed). r.checked)
    (frames-are c.args.version _ c.args.p c.requires _ known _ c.release_frames-framed.ensures.exact) in
    let p = err_from_is_err_and c.from_residual.result c.from_residual.ensures.1 in
    record {
      exact = rw (p.1, p.2) (sym (list-refused (meant_by c.args.version) _ _ c.requires none _ (sym ended ∙ c.in_err-framed.was)));
    }

pub returns : goal.returns
returns c =
    let known = c.layouts-layouts.ensures.exact in
    let none =
    unlawful-is c.args.version _ c.args.p c.requires _ known _ c.release_frames-framed.ensures.exact _
    c.releases_in-releases.ensures.exact 0 c.in_default.ensures.exact in
    let ended = ap (λ (r : Framed). r.checked)
    (frames-are c.args.version _ c.args.p c.requires _ known _ c.release_frames-framed.ensures.exact) in
    let list =
    list-is c.args.version _ c.args.p c.requires _ known _ c.release_frames-framed.ensures.exact _ c.releases_in-releases.ensures.exact in
    record {
      exact = rw list (sym (releases-lawful (meant_by c.args.version) _ _ c.requires none (sym ended ∙ c.in_ok-framed.was)));
    }
