-- A plan's text goes into a part of a page in three steps: the header's line, then the strings' lines in the next part, then the releases'
-- lines in the part after that. How long each is, as the code counts, and what stands after each.
use Rattle.base.proofs.Prelude.{ℕ, ◌+◌, ◌-◌, ◌*◌, ◌≤◌, ◌≡◌, sym, ap, ◌∙◌, List, [], ◌∷◌, ◌++◌, flat_map, arith, length, take, drop, length-append, length-drop, length-take-le, put_mid}
use Rattle.rules.specs.{declared.Plan.Plan, declared.Releases.Releases, Plan.strings_of, Release.releases_of, Layout.{Version, line_size, header_frame, string_frame, release_frame}}
use Rattle.layouts.specs.{declared.Layouts.Layouts, inner.Versions.{layouts_for, meant_by}}
use Rattle.layouts.proofs.Versions.{header-line, header-line-short, string-line, string-line-short, ten-short, release-line}
use Rattle.writing.specs.{declared.cells.Cell.Cell, Written.{header_text, header_says, string_text, release_text, plan_text}, inner.Cells.{cells_size, cells_text, Room, SaysFrame, StringsFit, ReleasesFit, PlanFits}}
use Rattle.writing.proofs.{Texts.{lent-part, flat_map-length, TextStands, stands-first, stands-next}, Rows.{header_text-length, string_text-length, release_text-length, line-put, line-room, strings-long, text-long}}
use Rattle.layouts.specs.declared.Version as code

module _ (version : code.Version) (w : Layouts) (known : w ≡ layouts_for (meant_by version)) (p : Plan) (rs : Releases) (before : List ℕ)
    (fits : PlanFits (meant_by version) p rs (length before))
  where
    abbrev v : Version
    v = meant_by version

    abbrev header : ℕ
    header = w.header.line

    abbrev strings : ℕ
    strings = p.n * w.string.line

    strings-many : length (strings_of p) ≡ p.n
    strings-many = length-take-le p.n p.strings (omega (arith, fits.strings.few, fits.strings.ten))

    releases-many : length (releases_of rs) ≡ rs.count
    releases-many = length-take-le rs.count rs.list (omega (arith, fits.releases.few, fits.releases.thousand))

    strings-are : strings ≡ p.n * line_size (string_frame v)
    strings-are = ap (λ k. p.n * k) (string-line version w known)

    releases_are : rs.count * w.release.line ≡ rs.count * line_size (release_frame v)
    releases_are = ap (λ k. rs.count * k) (release-line version w known)

    room : header + strings + rs.count * w.release.line ≤ length before
    room =
        omega (
          arith,
          fits.bytes,
          text-long v p rs strings-many releases-many,
          header-line version w known,
          strings-are,
          releases_are,
        )

    pub writing_short : header + strings ≤ 1000
    writing_short =
        let few = ten-short p.n w.string.line fits.strings.few (string-line-short version w known) in
        omega (arith, header-line-short version w known)

    -- ---- The header

    module _ (cells : List Cell) (says : SaysFrame cells (header_frame v) (header_says v.number p)) where
      pub header-room : Room cells (length before)
      header-room =
          line-room cells (header_frame v) (header_says v.number p) (length before) says (omega (arith, room, header-line version w known))

      pub header-stands : (part : List ℕ) → part ≡ (cells_text cells ++ (0x0a ∷ [])) ++ drop (cells_size cells * 2 + 1) before
          → TextStands before (header_text v p) part
      unfolding header_text
      header-stands part got =
          stands-first before (header_text v p) part (line_size (header_frame v)) (header_text-length v p)
          (omega (arith, room, header-line version w known))
          (line-put cells (header_frame v) (header_says v.number p) before part says got)

    -- ---- The strings

    module _ (part : List ℕ) (stands : TextStands before (header_text v p) part) where
      pub writing-header-inside : header ≤ length part
      writing-header-inside = omega (arith, stands.size, room)

      pub writing-strings-fit : StringsFit v p (length (take (length part - header) (drop header part)))
      writing-strings-fit =
          rw (lent-part header part)
          (record {
            some = fits.strings.some;
            few = fits.strings.few;
            ten = fits.strings.ten;
            bytes = omega (arith, stands.size, room, length-drop header part, strings-are);
          })

      pub writing-strings-stand : (next : List ℕ)
          → next ≡ flat_map (string_text v) (strings_of p)
          ++ drop (length (strings_of p) * line_size (string_frame v)) (take (length part - header) (drop header part))
          → TextStands before (header_text v p ++ flat_map (string_text v) (strings_of p)) (put_mid header (length part - header) part next)
      writing-strings-stand next got =
          let many = ap (λ n. n * line_size (string_frame v)) strings-many in
          stands-next before (header_text v p) (flat_map (string_text v) (strings_of p)) part next header
          (length (strings_of p) * line_size (string_frame v)) stands
          (header_text-length v p ∙ sym (header-line version w known))
          (flat_map-length (string_text v) (line_size (string_frame v)) (string_text-length v) (strings_of p))
          (omega (arith, room, stands.size, strings-are)) got

    -- ---- The releases

    module _ (part : List ℕ) (stands : TextStands before (header_text v p ++ flat_map (string_text v) (strings_of p)) part) where
      pub strings-inside : header + strings ≤ length part
      strings-inside = omega (arith, stands.size, room)

      pub releases-fit : ReleasesFit v rs (length (take (length part - (header + strings)) (drop (header + strings) part)))
      releases-fit =
          rw (lent-part (header + strings) part)
          (record {
            few = fits.releases.few;
            thousand = fits.releases.thousand;
            places = fits.releases.places;
            bytes = omega (arith, stands.size, room, length-drop (header + strings) part, releases_are);
          })

      pub releases-stand : (next : List ℕ)
          → next ≡ flat_map (release_text v) (releases_of rs)
          ++ drop (length (releases_of rs) * line_size (release_frame v))
          (take (length part - (header + strings)) (drop (header + strings) part))
          → put_mid (header + strings) (length part - (header + strings)) part next
          ≡ plan_text v p (releases_of rs) ++ drop (length (plan_text v p (releases_of rs))) before
      unfolding plan_text
      releases-stand next got =
          let head = header_text v p in
          let lines = flat_map (string_text v) (strings_of p) in
          let many = ap (λ n. n * line_size (release_frame v)) releases-many in
          (stands-next before (head ++ lines) (flat_map (release_text v) (releases_of rs)) part next (header + strings)
          (length (releases_of rs) * line_size (release_frame v)) stands
          (length-append head lines
          ∙ omega (
            arith,
            header_text-length v p,
            header-line version w known,
            strings-long v p rs strings-many releases-many,
            strings-are,
          ))
          (flat_map-length (release_text v) (line_size (release_frame v)) (release_text-length v) (releases_of rs))
          (omega (arith, room, stands.size, releases_are)) got).is
