-- Reading what was written, in every version: the text of a lawful plan reads back to the plan and its releases, where the version can say
-- them: 01 has one moving cost for all strings, 01 and 02 have no late days and no due days.
use Rattle.base.proofs.Prelude.{ℕ, ◌+◌, ◌-◌, ◌≤◌, ◌<◌, ◌≡◌, refl, sym, ap, ◌∙◌, List, [], ◌∷◌, ◌++◌, map, append_assoc, arith, dec_le, le-ltb, length, take, drop, get_or, length-map, take_at, drop_at, length-take-le, false, eqb}
use Rattle.faults.specs.Checks.{Lawful}
use mathlib.Core.List.{flat_map}
use Rattle.base.specs.Count.{All}
use Rattle.base.proofs.{Lists.{all-by, all_map, all_get_d, true-not-false}, Order.{all_append, all_both, all_of}}
use Rattle.rules.specs.{declared.BatteryString.BatteryString, declared.Plan.Plan, declared.Release.Release, declared.Releases.Releases, Plan.{strings_of, string_at, no_string}, Release.{releases_of, no_release, unlawful_from, first_unlawful}, Refusal.run_check, Layout.{HeaderField, StringField, ReleaseField, Layout, Version, line_size, has_field, version02, version03, held_to, Due, header_frame, string_frame, release_frame}, Text.{Line, lines_of, string_of, release_of, plan_in, list_in, lawful_reading, reading_in, version_of, reading_of, string_lines_check, release_lines_check, body_check, lines_check, text_check}}
use Rattle.laws.specs.Lawful.{LawfulString, LawfulRun, OnTime}
use Rattle.laws.proofs.{Lawful.multiple_check-good, Releases.run_check-lawful, ReleaseList.release-lawful}
use Rattle.layouts.proofs.Versions.{number-again, header-short, string-short, release-short, ten-short, thousand-short}
use Rattle.writing.specs.{Written.{header_says, string_says, release_says, frame_bytes, header_text, string_text, release_text, plan_text}, Saved.saved_text}
use Rattle.writing.proofs.{Texts.flat_map-append, Saving.saved-long}
use Rattle.roundtrip.specs.OneText.{trimmed_plan, trimmed_releases, read_again, CanSay}
use Rattle.laws.proofs.LineTexts.{line_bytes, text_of_lines, EndedLine, NoEnd, lines-said}
use Rattle.roundtrip.proofs.{HexBytes.{Digit, digit-no-end, frame-digits}, Framed.{line_text-is, line_written, bytes_small}, PlanLines.{header_line, line_of_string, line_of_release, Told, Brief, Stated, strings-told, named, n-said, run-said, string-read-back, release-said}, Passed.{header-passes, strings-pass, releases-pass, trimmed-multiple, trimmed-lawful}}

-- ---- Lines made of what they say

module _ {ℓ} {A : Type ℓ} (line : A → Line) where
  texts-are : (text : A → List ℕ) → ((x : A) → text x ≡ line_bytes (line x)) → (xs : List A) → flat_map text xs
      ≡ text_of_lines (map line xs)
  unfolding flat_map
  texts-are text each [] = refl
  texts-are text each (x ∷ xs) = rw (each x, texts-are text each xs)

  all_lines : (P : Line → Type 0) → ((x : A) → P (line x)) → (xs : List A) → All P (map line xs)
  all_lines P each [] = tt
  all_lines P each (x ∷ xs) = (each x, all_lines P each xs)

  said-back : (P : A → Type 0) (said : Line → A) → ((x : A) → P x → said (line x) ≡ x) → (xs : List A) → All P xs
      → map said (map line xs) ≡ xs
  said-back P said each [] h = refl
  said-back P said each (x ∷ xs) h = rw (each x h.0, said-back P said each xs h.1)

written-within : (F : Type 0) (l : Layout F) (says : F → ℕ) → l.kind < 256 → NoEnd (line_written l says)
written-within F l says low =
    all_map Digit (λ b. eqb b 0x0a ≡ false) digit-no-end (line_written l says).bytes
    (frame-digits (frame_bytes l says) (bytes_small l says low))

-- ---- The lines of the text

module _ (k : ℕ) where
  -- the version that is written
  abbrev v : Version
  v = held_to k

  abbrev saved_lines : Plan → Releases → List Line
  saved_lines p rs = header_line v p ∷ (map (line_of_string v) (strings_of p) ++ map (line_of_release v) (releases_of rs))

  string-text : (s : BatteryString) → string_text v s ≡ line_bytes (line_of_string v s)
  unfolding string_text
  string-text s = line_text-is (frame_bytes (string_frame v) (string_says s))

  release-text : (r : Release) → release_text v r ≡ line_bytes (line_of_release v r)
  unfolding release_text
  release-text r = line_text-is (frame_bytes (release_frame v) (release_says r))

  module _ (p : Plan) (rs : Releases) where
    all_saved : (P : Line → Type 0) → ((F : Type 0) (l : Layout F) (says : F → ℕ) → l.kind < 256 → P (line_written l says))
        → All P (saved_lines p rs)
    all_saved P each =
        let header = each HeaderField (header_frame v) (header_says v.number p) (omega arith) in
        let strings = all_lines (line_of_string v) P (λ s. each StringField (string_frame v) (string_says s) (omega arith)) in
        let releases = all_lines (line_of_release v) P (λ r. each ReleaseField (release_frame v) (release_says r) (omega arith)) in
        let lines = all_append P (map (line_of_string v) (strings_of p)) (map (line_of_release v) (releases_of rs)) in
        (header, lines (strings (strings_of p)) (releases (releases_of rs)))

    saved-is : saved_text v p rs ≡ text_of_lines (saved_lines p rs)
    unfolding saved_text plan_text header_text flat_map
    saved-is =
        let strings = texts-are (line_of_string v) (string_text v) string-text (strings_of p) in
        let releases = texts-are (line_of_release v) (release_text v) release-text (releases_of rs) in
        append_assoc (header_text v p) _ _
        ∙ rw (line_text-is (frame_bytes (header_frame v) (header_says v.number p)), strings, releases)
        (ap (λ rest. line_bytes (header_line v p) ++ rest)
        (sym (flat_map-append line_bytes (map (line_of_string v) (strings_of p)) (map (line_of_release v) (releases_of rs)))))

    lines-saved : lines_of (saved_text v p rs) ≡ saved_lines p rs
    lines-saved =
        ap lines_of saved-is
        ∙ lines-said (saved_lines p rs) (all_saved EndedLine (λ F l says low. refl)) (all_saved NoEnd written-within)

-- ---- What they say

-- lawful, in arrays of the code's lengths
abbrev Savable : Plan → Releases → Type 0
Savable p rs = (length p.strings ≡ 10) × (length rs.list ≡ 1000) × (run_check p rs ≡ Lawful)

module _ (k : ℕ) (p : Plan) (rs : Releases) (h : Savable p rs) where
  run_is : LawfulRun p rs
  run_is = run_check-lawful p rs h.2

  strings-many : length (strings_of p) ≡ p.n
  strings-many = length-take-le p.n p.strings (omega (arith, h.0, run_is.plan.n_max))

  releases-many : length (releases_of rs) ≡ rs.count
  releases-many = length-take-le rs.count rs.list (omega (arith, h.1, run_is.few))

  brief : All Brief (releases_of rs)
  brief = all-by Brief (releases_of rs) no_release each
    where
      working : (i : ℕ) → (string_at p i).c.0 ≤ 1000
      working i =
          all_get_d (λ s. s.c.0 ≤ 1000) (strings_of p) (i - 1) no_string
          (all_map LawfulString (λ s. s.c.0 ≤ 1000) (λ s ok. omega (arith, ok.t_max, ok.d_max, ok.c_max)) (strings_of p)
          run_is.plan.each)
          (omega arith)

      each : (i : ℕ) → i < length (releases_of rs) → Brief (get_or (releases_of rs) i no_release)
      each i low =
          let ok = release-lawful p (releases_of rs) run_is.none_bad i low in
          record {
            place = omega (arith, ok.place_max, run_is.plan.n_max);
            day = omega (arith, ok.early, run_is.plan.run_max);
            need = omega (arith, ok.need_max, working (get_or (releases_of rs) i no_release).place);
            due = omega (arith, ok.not_before, ok.early, run_is.plan.run_max);
          }

  abbrev header : Line
  header = header_line (v k) p

  abbrev strings : List Line
  strings = map (line_of_string (v k)) (strings_of p)

  abbrev releases : List Line
  releases = map (line_of_release (v k)) (releases_of rs)

  strings-first : take p.n (strings ++ releases) ≡ strings
  strings-first = take_at strings releases p.n (length-map (strings_of p) (line_of_string (v k)) ∙ strings-many)

  releases-then : drop p.n (strings ++ releases) ≡ releases
  releases-then = drop_at strings releases p.n (length-map (strings_of p) (line_of_string (v k)) ∙ strings-many)

  -- the text names its version
  pub written-names : version_of (lines_of (saved_text (v k) p rs)) ≡ v k
  unfolding version_of
  written-names = ap version_of (lines-saved k p rs) ∙ ap held_to (named p run_is.plan k) ∙ number-again k

  module _ (sayable : CanSay (v k) p rs) where
    told : All (Told (v k) header) (strings_of p)
    told = strings-told p rs run_is.plan k sayable

    -- each release is due on its day, where its line does not say when
    on-day : All (λ r. (v k).release Due ≡ 0 → r.due.0 ≡ r.day.0) (releases_of rs)
    unfolding has_field
    on-day =
        elim (dec_le 1 ((v k).release Due)) [
          | yes some ↦ all_of (λ r. (v k).release Due ≡ 0 → r.due.0 ≡ r.day.0) (λ r none. absurd (omega arith)) (releases_of rs)
          | no none ↦
              all_map (λ r. r.due.0 ≡ r.day.0) (λ r. (v k).release Due ≡ 0 → r.due.0 ≡ r.day.0) (λ r due said. due)
              (releases_of rs)
              (sayable.due (le-ltb 0 ((v k).release Due) (omega arith)))
        ]

    stated : All (Stated (v k)) (releases_of rs)
    stated =
        all_both Brief (λ r. (v k).release Due ≡ 0 → r.due.0 ≡ r.day.0) (Stated (v k)) (λ r small due. (small, due)) (releases_of rs)
        brief on-day

    releases-said : list_in (v k) (saved_lines k p rs) ≡ trimmed_releases rs
    unfolding list_in
    releases-said =
        rw (
          n-said p run_is.plan k,
          releases-then,
          said-back (line_of_release (v k)) (Stated (v k)) (release_of (v k)) (λ r ok. release-said r k ok) (releases_of rs) stated,
          releases-many,
        )

    plan-said : plan_in (v k) (saved_lines k p rs) ≡ trimmed_plan p
    unfolding plan_in
    plan-said =
        rw (
          n-said p run_is.plan k,
          run-said p run_is.plan k,
          strings-first,
          said-back (line_of_string (v k)) (Told (v k) header) (string_of (v k) header) (λ s ok.
              string-read-back s ok.0 k header ok.1 ok.2)
              (strings_of p) told,
        )

    -- ---- No check finds a fault

    none-unlawful : unlawful_from p [] 1 (releases_of rs) ≡ 0
    unfolding first_unlawful
    none-unlawful = run_is.none_bad

    strings-all : string_lines_check (v k) header 2 p.n (strings ++ releases) ≡ Lawful
    strings-all =
        ap (λ n. string_lines_check (v k) header 2 n (strings ++ releases)) (sym strings-many)
        ∙ strings-pass k header 2 (strings_of p) told releases

    releases-all : release_lines_check (v k) (trimmed_plan p) (p.n + 2) 1 [] releases ≡ Lawful
    releases-all =
        let few = run_is.few in
        releases-pass k p (trimmed_plan p) (trimmed-lawful p strings-many) (p.n + 2) 1 1 [] (releases_of rs) stated
        (omega (arith, releases-many)) (omega arith) none-unlawful

    body-lawful : body_check (v k) header (trimmed_plan p) (strings ++ releases) ≡ Lawful
    unfolding body_check
    body-lawful =
        let multiple = multiple_check-good (p.n + 1) (trimmed_plan p) (rw (trimmed-multiple p strings-many) run_is.plan.h_max) in
        rw (strings-all, multiple, releases-then) releases-all

    lines-lawful : lines_check (v k) (saved_lines k p rs) ≡ Lawful
    unfolding lines_check
    lines-lawful = rw (header-passes k p run_is.plan, plan-said) body-lawful

    short : length (saved_text (v k) p rs) ≤ 65536
    short =
        let long = saved-long (v k) p rs h.2 h.0 h.1 in
        let strings = ten-short p.n (line_size (string_frame (v k))) run_is.plan.n_max (string-short k) in
        let releases = thousand-short rs.count (line_size (release_frame (v k))) run_is.few (release-short k) in
        omega (arith, header-short k)

    -- places after the n-th and releases after the count come back blank
    pub reading-what-was-written : reading_in (v k) (saved_text (v k) p rs) ≡ read_again p rs
    unfolding reading_in text_check lawful_reading
    reading-what-was-written =
        rw (le-ltb 65536 (length (saved_text (v k) p rs)) short, lines-saved k p rs, lines-lawful, plan-said, releases-said)

-- version 03 can say every plan, version 02 one without late days
pub sayable-03 : (p : Plan) (rs : Releases) → CanSay version03 p rs
unfolding has_field
sayable-03 p rs =
    record {
      costs = λ h. absurd (true-not-false (sym h));
      late = λ h. absurd (true-not-false h);
      due = λ h. absurd (true-not-false h);
    }

pub sayable-02 : (p : Plan) (rs : Releases) → OnTime p → All (λ r. r.due.0 ≡ r.day.0) (releases_of rs) → CanSay version02 p rs
unfolding has_field
sayable-02 p rs on-time due = record { costs = λ h. absurd (true-not-false (sym h)); late = λ h. on-time; due = λ h. due }

-- what is written in version 03 reads back, and its header says so
pub reading-03 : (p : Plan) (rs : Releases) → length p.strings ≡ 10 → length rs.list ≡ 1000 → run_check p rs ≡ Lawful
    → reading_of (saved_text version03 p rs) ≡ read_again p rs
unfolding reading_of held_to
reading-03 p rs ten thousand lawful =
    let h : Savable p rs = (ten, thousand, lawful) in
    ap (λ w. reading_in w (saved_text version03 p rs)) (written-names 3 p rs h) ∙ reading-what-was-written 3 p rs h (sayable-03 p rs)

-- and in version 02, where nothing is late
pub reading-02 : (p : Plan) (rs : Releases) → length p.strings ≡ 10 → length rs.list ≡ 1000 → run_check p rs ≡ Lawful
    → OnTime p → All (λ r. r.due.0 ≡ r.day.0) (releases_of rs) → reading_of (saved_text version02 p rs) ≡ read_again p rs
unfolding reading_of held_to
reading-02 p rs ten thousand lawful on-time due =
    let h : Savable p rs = (ten, thousand, lawful) in
    ap (λ w. reading_in w (saved_text version02 p rs)) (written-names 2 p rs h)
    ∙ reading-what-was-written 2 p rs h (sayable-02 p rs on-time due)
