-- Writing what was read: a text that is read is written again byte for byte in its version. So a plan has one text there.
use Rattle.base.proofs.Prelude.{ℕ, zero, suc, ◌+◌, ◌≤◌, ◌<◌, ◌≡◌, refl, sym, ap, ◌∙◌, subst, not, List, [], ◌∷◌, ◌++◌, map, append_assoc, arith, eqb-true, not-false, eqb, length, take, drop, length-map, take-append-drop, take_at}
use Rattle.faults.specs.Checks.{Lawful, Checked}
use mathlib.Core.List.{flat_map}
use Rattle.days.specs.{declared.Length.Length, Days.days}
use Rattle.base.specs.Count.{All}
use Rattle.base.proofs.{Lists.{all-at, all_map}, Order.all_append}
use Rattle.faults.specs.declared.Fault.TheVariants.{FrameWrong}
use Rattle.faults.specs.Checks.{then}
use Rattle.faults.proofs.Checks.{refused-not-lawful, then-first, then-second, refuse_if-not}
use Rattle.rules.specs.{declared.Plan.Plan, declared.Release.Release, Plan.{strings_of, string_at, no_string}, Release.releases_of, Refusal.{head_check, cost_check, string_check, multiple_check}, Layout.{Layout, Version, field_in, field_among, held_to, header_frame, string_frame, release_frame}, Text.{Line, lines_of, field_of, n_in, a_in, run_in, string_of, release_of, plan_in, list_in, layout_check, version_check, header_check, string_line_check, string_lines_check, release_line_check, release_lines_check, body_check, lines_check, text_check, lawful_reading, reading_in}}
use Rattle.laws.proofs.{Lawful.head_check-lawful, Versions.{strings-many, strings-lawful, strings-are, one-cost, reading-checked, lines-checked}}
use Rattle.layouts.proofs.Versions.{cost-sizes, cost-own, due-said}
use Rattle.writing.specs.{Written.{header_says, string_says, release_says, header_text, string_text, release_text, plan_text}, Saved.saved_text}
use Rattle.writing.proofs.Texts.{flat_map-append}
use Rattle.laws.proofs.LineTexts.{line_bytes, text_of_lines, EndedLine, lines-written}
use Rattle.roundtrip.proofs.{Framed.{FramedAs, layout-framed, framed-written}}
use Rattle.rules.specs.Layout as layout

-- ---- One line

module _ (k : ℕ) where
  -- the version
  abbrev v : Version
  v = held_to k

  -- a string line that says a moving cost says the string's
  string-back : (header line : Line) → FramedAs (string_frame v) line → string_text v (string_of v header line) ≡ line_bytes line
  unfolding string_text string_of field_of field_in field_among
  string-back header line f =
      let own : 1 ≤ v.string layout.Own → v.header layout.Common ≤ 0 = λ some. omega (arith, cost-sizes k) in
      framed-written (string_frame v) (string_says (string_of v header line)) line f
      (λ some. refl, (λ some. refl, (λ some. refl, (λ some. refl, (λ some. sym (cost-own v header line (own some)), (λ some. refl, tt))))))

  release-back : (line : Line) → FramedAs (release_frame v) line → release_text v (release_of v line) ≡ line_bytes line
  unfolding release_text release_of field_of field_in field_among
  release-back line f =
      framed-written (release_frame v) (release_says (release_of v line)) line f
      (λ some. refl, (λ some. refl, (λ some. refl, (λ some. sym (due-said v line some), tt))))

-- the header, whose version its check has found; in version 01 the first string has the moving cost that it says
module _ (header : Line) (lines : List Line) where
  found : (v : Version) → header_check v header ≡ Lawful
      → FramedAs (header_frame v) header × (field_of (header_frame v) layout.Number header ≡ v.number)
  unfolding header_check version_check
  found v h =
      let frame = layout_check 1 (header_frame v) header in
      let rest = then (version_check v header) (then (head_check 1 (n_in v header) (run_in v header)) (cost_check 1 (a_in v header))) in
      let version = field_of (header_frame v) layout.Number header in
      let first = then-first (version_check v header) _ (then-second frame rest h) in (
        layout-framed (header_frame v) header 1 (then-first frame rest h),
        eqb-true version v.number
            (not-false (eqb version v.number) (refuse_if-not (not (eqb version v.number)) FrameWrong 1 first)),
      )

  -- what the header says of the moving cost of all strings
  Said : Version → Type 0
  Said v = 1 ≤ v.header layout.Common → a_in v header ≡ (string_at (plan_in v (header ∷ lines)) 1).a.0

  module _ (v : Version) where
    header-back : header_check v header ≡ Lawful → Said v → header_text v (plan_in v (header ∷ lines)) ≡ line_bytes header
    unfolding Said header_text plan_in n_in a_in run_in field_of field_in field_among
    header-back h said =
        let is = found v h in
        framed-written (header_frame v) (header_says v.number (plan_in v (header ∷ lines))) header is.0
        (λ some. is.1, (λ some. refl, (said, (λ some. refl, tt))))

    module _ (h : lines_check v (header ∷ lines) ≡ Lawful) where
      -- a lawful text has a string
      first-there : 0 < length (strings_of (plan_in v (header ∷ lines)))
      unfolding lines_check header_check
      first-there =
          let numbers = head_check 1 (n_in v header) (run_in v header) in
          let cost = cost_check 1 (a_in v header) in
          let frame = layout_check 1 (header_frame v) header in
          let version = version_check v header in
          let rest = then version (then numbers cost) in
          let checked = then-second frame rest (then-first (then frame rest) _ h) in
          let lawful = then-first numbers cost (then-second version (then numbers cost) checked) in
          let many = strings-many v header 2 (n_in v header) lines (strings-lawful v header lines h) in
          let long = ap length (strings-are v header lines h) ∙ length-map (take (n_in v header) lines) (string_of v header) in
          omega (arith, (head_check-lawful 1 (n_in v header) (run_in v header) lawful).n_pos)

      header-said : Said v
      unfolding Said
      header-said some =
          let p = plan_in v (header ∷ lines) in
          let same = all-at (λ s. s.a ≡ days (a_in v header)) (strings_of p) no_string (one-cost v header lines some h) 0 first-there in
          sym (ap (λ (a : Length). a.0) same)

-- ---- Lines that pass the checks write frames

module _ (v : Version) where
  strings-framed : (header : Line) (k m : ℕ) (lines : List Line) → string_lines_check v header k m lines ≡ Lawful
      → All (FramedAs (string_frame v)) (take m lines)
  unfolding string_lines_check string_line_check
  strings-framed header k zero lines h = tt
  strings-framed header k (suc m) [] h = tt
  strings-framed header k (suc m) (line ∷ lines) h =
      let later = string_lines_check v header (suc k) m lines in
      let frame = layout_check k (string_frame v) line in
      let here = then-first (string_line_check v header k line) later h in (
        layout-framed (string_frame v) line k (then-first frame (string_check k (string_of v header line)) here),
        strings-framed header (suc k) m lines (then-second (string_line_check v header k line) later h),
      )

  releases-framed : (p : Plan) (k j : ℕ) (seen : List Release) (lines : List Line) → release_lines_check v p k j seen lines ≡ Lawful
      → All (FramedAs (release_frame v)) lines
  unfolding release_lines_check release_line_check
  releases-framed p k j seen [] h = tt
  releases-framed p k j seen (line ∷ lines) h =
      let later = release_lines_check v p (suc k) (suc j) (release_of v line ∷ seen) lines in
      let frame = layout_check k (release_frame v) line in
      let here = then-first (release_line_check v p k j seen line) later h in (
        layout-framed (release_frame v) line k (then-first frame _ here),
        releases-framed p (suc k) (suc j) (release_of v line ∷ seen) lines (then-second (release_line_check v p k j seen line) later h),
      )

module _ {ℓ} {A : Type ℓ} {F : Type 0} (l : Layout F) (said : Line → A) (text : A → List ℕ) where
  texts-back : ((line : Line) → FramedAs l line → text (said line) ≡ line_bytes line) → (lines : List Line) → All (FramedAs l) lines
      → flat_map text (map said lines) ≡ text_of_lines lines
  unfolding flat_map
  texts-back each [] h = refl
  texts-back each (line ∷ lines) h = rw (each line h.0, texts-back each lines h.1)

all-ended : {F : Type 0} (l : Layout F) (lines : List Line) → All (FramedAs l) lines → All EndedLine lines
all-ended l lines h = all_map (FramedAs l) EndedLine (λ line f. f.ended) lines h

-- ---- The whole

module _ (k : ℕ) (header : Line) (lines : List Line) (h : lines_check (held_to k) (header ∷ lines) ≡ Lawful) where
  abbrev w : Version
  w = held_to k

  abbrev plan : Plan
  plan = plan_in w (header ∷ lines)

  abbrev strings : Checked
  strings = string_lines_check w header 2 plan.n lines

  abbrev multiple : Checked
  multiple = multiple_check (plan.n + 1) plan

  abbrev releases : Checked
  releases = release_lines_check w plan (plan.n + 2) 1 [] (drop plan.n lines)

  head : header_check w header ≡ Lawful
  unfolding lines_check
  head = then-first (header_check w header) (body_check w header plan lines) h

  body : then strings (then multiple releases) ≡ Lawful
  unfolding lines_check body_check
  body = then-second (header_check w header) (body_check w header plan lines) h

  strings-good : strings ≡ Lawful
  strings-good = then-first strings (then multiple releases) body

  releases-good : releases ≡ Lawful
  releases-good = then-second multiple releases (then-second strings (then multiple releases) body)

  string-lines : All (FramedAs (string_frame w)) (take plan.n lines)
  string-lines = strings-framed w header 2 plan.n lines strings-good

  release-lines : All (FramedAs (release_frame w)) (drop plan.n lines)
  release-lines = releases-framed w plan (plan.n + 2) 1 [] (drop plan.n lines) releases-good

  lines-ended : All EndedLine (header ∷ lines)
  lines-ended = (
    (found header lines w head).0.ended,
    subst (All EndedLine) (take-append-drop plan.n lines)
        (all_append EndedLine (take plan.n lines) (drop plan.n lines)
        (all-ended (string_frame w) (take plan.n lines) string-lines)
        (all-ended (release_frame w) (drop plan.n lines) release-lines)),
  )

  releases_are : releases_of (list_in w (header ∷ lines)) ≡ map (release_of w) (drop plan.n lines)
  unfolding list_in plan_in
  releases_are = take_at (map (release_of w) (drop plan.n lines)) _ _ refl

  lines-back : saved_text w plan (list_in w (header ∷ lines)) ≡ text_of_lines (header ∷ lines)
  unfolding saved_text plan_text flat_map plan_in
  lines-back =
      let first = header-back header lines w head (header-said header lines w h) in
      let front = take plan.n lines in
      let back = drop plan.n lines in
      let second = texts-back (string_frame w) (string_of w header) (string_text w) (string-back k header) front string-lines in
      let third = texts-back (release_frame w) (release_of w) (release_text w) (release-back k) back release-lines in
      let whole = flat_map-append line_bytes front back in
      rw (strings-are w header lines h, releases_are, first, second, third)
      (append_assoc (line_bytes header) (text_of_lines front) (text_of_lines back)
      ∙ ap (λ rest. line_bytes header ++ rest) (sym whole ∙ ap text_of_lines (take-append-drop plan.n lines)))

module _ (k : ℕ) where
  read_back : (lines : List Line) → lines_check (held_to k) lines ≡ Lawful
      → All EndedLine lines × (saved_text (held_to k) (plan_in (held_to k) lines) (list_in (held_to k) lines) ≡ text_of_lines lines)
  unfolding lines_check
  read_back [] h = absurd (refused-not-lawful FrameWrong 1 h)
  read_back (header ∷ lines) h = (lines-ended k header lines h, lines-back k header lines h)

  pub writing-what-was-read : (text : List ℕ) → (reading_in (held_to k) text).checked ≡ Lawful
      → saved_text (held_to k) (reading_in (held_to k) text).plan (reading_in (held_to k) text).releases ≡ text
  unfolding reading_in lawful_reading
  writing-what-was-read text h =
      let lawful = reading-checked (held_to k) (text_check (held_to k) text) (lines_of text) h in
      let back = read_back (lines_of text) (lines-checked (held_to k) text h) in
      rw lawful (back.1 ∙ lines-written text back.0)

  -- two texts of a version that read to the same plan and the same releases are one
  pub one-text : (text other : List ℕ) → (reading_in (held_to k) text).checked ≡ Lawful → (reading_in (held_to k) other).checked ≡ Lawful
      → (reading_in (held_to k) text).plan ≡ (reading_in (held_to k) other).plan
      → (reading_in (held_to k) text).releases ≡ (reading_in (held_to k) other).releases → text ≡ other
  one-text text other h g plans lists =
      sym (writing-what-was-read text h) ∙ ap (λ p. saved_text (held_to k) p (reading_in (held_to k) text).releases) plans
      ∙ ap (saved_text (held_to k) (reading_in (held_to k) other).plan) lists ∙ writing-what-was-read other g
