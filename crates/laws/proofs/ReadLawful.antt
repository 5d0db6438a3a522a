-- A text that is read is lawful by numbers too: its plan and its releases pass the checks of the entries that take numbers.
-- So the entries refuse none of it. The checks are the same, reported at lines there and at places here.
use Rattle.base.proofs.Prelude.{ℕ, zero, suc, ◌+◌, ◌≤◌, ◌≡◌, refl, ap, ◌∙◌, true, not, List, [], ◌∷◌, map, arith, ltb-false, not-false, ltb, length, take, drop, length-map, take_at}
use Rattle.faults.specs.Checks.{Lawful, Checked}
use Rattle.rules.specs.{declared.Plan.Plan, declared.Release.Release, Plan.string_lawful, Release.{release_lawful, unlawful_from, first_unlawful}, Refusal.{head_check, cost_check, string_check, strings_check, multiple_check, many_check, plan_check, run_check}, Layout.{Version, header_frame, string_frame, release_frame}, Text.{Line, lines_of, n_in, run_in, a_in, string_of, release_of, plan_in, list_in, version_check, header_check, layout_check, string_line_check, string_lines_check, release_line_check, release_lines_check, body_check, lines_check, text_check, lawful_reading, reading_in, version_of, reading_of}}
use Rattle.faults.specs.declared.Fault.TheVariants.{FrameWrong, OutOfBounds, ReleaseTooMany, ReleaseUnlawful}
use Rattle.faults.specs.Checks.{then, refuse_if}
use Rattle.faults.proofs.Checks.{refused-not-lawful, then-first, then-second, then-lawful, refuse_if-not, refuse_if-anywhere}
use Rattle.laws.proofs.{Lawful.{head_check-lawful, head_check-good, multiple_check-small, multiple_check-good}, Versions.{strings-lawful, strings-are, reading-checked, lines-checked}, Releases.releases_check-good}

module _ (v : Version) where
  -- ---- The string lines

  module _ (header : Line) where
    string-good : (k j : ℕ) (line : Line) → string_line_check v header k line ≡ Lawful → string_check j (string_of v header line) ≡ Lawful
    unfolding string_line_check
    string-good k j line h =
        refuse_if-anywhere (not (string_lawful (string_of v header line))) OutOfBounds k j
        (then-second (layout_check k (string_frame v) line) (string_check k (string_of v header line)) h)

    strings-good : (k j m : ℕ) (lines : List Line) → string_lines_check v header k m lines ≡ Lawful
        → strings_check j (map (string_of v header) (take m lines)) ≡ Lawful
    unfolding string_lines_check strings_check
    strings-good k j zero lines h = refl
    strings-good k j (suc m) [] h = refl
    strings-good k j (suc m) (line ∷ lines) h =
        let later = string_lines_check v header (suc k) m lines in
        let first = string_line_check v header k line in
        then-lawful (string_check j (string_of v header line)) _ (string-good k j line (then-first first later h))
        ∙ strings-good (suc k) (suc j) m lines (then-second first later h)

  -- ---- The release lines

  module _ (p : Plan) where
    release-good : (k j : ℕ) (seen : List Release) (line : Line) → release_line_check v p k j seen line ≡ Lawful
        → (j ≤ 1000) × (release_lawful p seen (release_of v line) ≡ true)
    unfolding release_line_check
    release-good k j seen line h =
        let lawful = release_lawful p seen (release_of v line) in
        let bad = refuse_if (not lawful) ReleaseUnlawful k in
        let rest = then-second (layout_check k (release_frame v) line) (then (many_check k j) bad) h in (
          ltb-false 1000 j (refuse_if-not (ltb 1000 j) ReleaseTooMany k (then-first (many_check k j) bad rest)),
          not-false lawful (refuse_if-not (not lawful) ReleaseUnlawful k (then-second (many_check k j) bad rest)),
        )

    releases-good : (k j i : ℕ) (seen : List Release) (lines : List Line) → release_lines_check v p k (suc j) seen lines ≡ Lawful → j ≤ 1000
        → (j + length lines ≤ 1000) × (unlawful_from p seen i (map (release_of v) lines) ≡ 0)
    unfolding release_lines_check unlawful_from
    releases-good k j i seen [] h low = (omega arith, refl)
    releases-good k j i seen (line ∷ lines) h low =
        let later = release_lines_check v p (suc k) (suc (suc j)) (release_of v line ∷ seen) lines in
        let first = release_line_check v p k (suc j) seen line in
        let here = release-good k (suc j) seen line (then-first first later h) in
        let rest = releases-good (suc k) (suc j) (suc i) (release_of v line ∷ seen) lines (then-second first later h) here.0 in
        (omega (arith, rest.0), rw here.1 rest.1)

  -- ---- The whole

  module _ (header : Line) (lines : List Line) (h : lines_check v (header ∷ lines) ≡ Lawful) where
    abbrev pub plan_read : Plan
    plan_read = plan_in v (header ∷ lines)

    abbrev strings : Checked
    strings = string_lines_check v header 2 plan_read.n lines

    abbrev multiple : Checked
    multiple = multiple_check (plan_read.n + 1) plan_read

    abbrev releases : Checked
    releases = release_lines_check v plan_read (plan_read.n + 2) 1 [] (drop plan_read.n lines)

    body : then strings (then multiple releases) ≡ Lawful
    unfolding lines_check body_check
    body = then-second (header_check v header) (body_check v header plan_read lines) h

    rest : then multiple releases ≡ Lawful
    rest = then-second strings (then multiple releases) body

    head : head_check 0 plan_read.n plan_read.run.0 ≡ Lawful
    unfolding lines_check header_check plan_in
    head =
        let numbers = head_check 1 (n_in v header) (run_in v header) in
        let cost = cost_check 1 (a_in v header) in
        let frame = layout_check 1 (header_frame v) header in
        let version = version_check v header in
        let rest = then version (then numbers cost) in
        let lawful = then-first (then frame rest) (body_check v header plan_read lines) h in
        head_check-good 0 _ _
        (head_check-lawful 1 _ _ (then-first numbers cost (then-second version (then numbers cost) (then-second frame rest lawful))))

    plan-lawful : plan_check plan_read ≡ Lawful
    unfolding plan_check plan_in
    plan-lawful =
        then-lawful _ _ head
        ∙ then-lawful _ _
        (ap (strings_check 1) (strings-are v header lines h) ∙ strings-good header 2 1 plan_read.n lines (strings-lawful v header lines h))
        ∙ multiple_check-good 0 plan_read (multiple_check-small (plan_read.n + 1) plan_read (then-first multiple releases rest))

    lines-lawful : run_check plan_read (list_in v (header ∷ lines)) ≡ Lawful
    unfolding run_check list_in first_unlawful plan_in
    lines-lawful =
        let after = drop (n_in v header) lines in
        let said = map (release_of v) after in
        let good = releases-good plan_read (plan_read.n + 2) 0 1 [] after (then-second multiple releases rest) (omega arith) in
        then-lawful _ _ plan-lawful
        ∙ releases_check-good plan_read (list_in v (header ∷ lines)) (omega (arith, good.0, length-map after (release_of v)))
        (ap (unlawful_from plan_read [] 1) (take_at said _ (length said) refl) ∙ good.1)

  lines-read : (lines : List Line) → lines_check v lines ≡ Lawful → run_check (plan_in v lines) (list_in v lines) ≡ Lawful
  unfolding lines_check
  lines-read [] h = absurd (refused-not-lawful FrameWrong 1 h)
  lines-read (header ∷ lines) h = lines-lawful header lines h

  pub text-read : (text : List ℕ) → (reading_in v text).checked ≡ Lawful
      → run_check (reading_in v text).plan (reading_in v text).releases ≡ Lawful
  unfolding reading_in lawful_reading
  text-read text h = rw (reading-checked v (text_check v text) (lines_of text) h) (lines-read (lines_of text) (lines-checked v text h))

-- a text that is read: its plan and its releases are lawful by numbers too
pub read-lawful : (text : List ℕ) → (reading_of text).checked ≡ Lawful → run_check (reading_of text).plan (reading_of text).releases
    ≡ Lawful
unfolding reading_of
read-lawful text h = text-read (version_of (lines_of text)) text h
