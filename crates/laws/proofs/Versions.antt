-- The versions of the plan file (document 02, W-207 and W-213): which are read, which moving costs they give, and that nothing is late in
-- those before 03. The strings of a lawful text are those that its string lines write, in every version.
use Rattle.base.proofs.Prelude.{ℕ, zero, suc, ◌-◌, ◌≤◌, ◌≡◌, refl, ap, ◌∙◌, true, ◌&&◌, List, [], ◌∷◌, map, arith, eq-eqb, ne_eqb, lt-ltb, le-ltb, ltb, eqb, length, take, drop, replicate, length-map, take_at}
use Rattle.faults.specs.Checks.{Refused, Lawful, Checked}
use Rattle.std.specs.Prelude.{Ok, Err}
use Rattle.days.specs.Days.{days}
use Rattle.faults.specs.declared.Fault.TheVariants.{TextTooLong, FrameWrong}
use Rattle.faults.specs.Checks.{refuse_if}
use Rattle.faults.proofs.Checks.{refused-not-lawful, then-first, then-second}
use Rattle.laws.specs.Lawful.{OnTime}
use Rattle.base.specs.{Count.All, Digits.number_on}
use Rattle.base.proofs.{Lists.by_bool, Order.{all_of, all-mapped}}
use Rattle.rules.specs.{declared.BatteryString.BatteryString, Plan.strings_of, Release.{releases_of, no_release}, Layout.{Version, kind_in, version_in, has_field, field_among, field_in, version01, version02, held_to, string_frame, Common, Own, Late, Due}, Text.{Line, lines_of, well_formed, frame_of, field_of, n_in, a_in, cost_of, string_of, due_in, release_of, plan_in, list_in, frame_check, version_check, header_check, string_line_check, string_lines_check, body_check, lines_check, text_check, lawful_reading, reading_in, version_of, reading_of}}

-- ---- The strings of a lawful text

module _ (v : Version) (header : Line) where
  pub strings-many : (k m : ℕ) (lines : List Line) → string_lines_check v header k m lines ≡ Lawful → length (take m lines) ≡ m
  unfolding string_lines_check
  strings-many k zero lines h = refl
  strings-many k (suc m) [] h = absurd (refused-not-lawful FrameWrong k h)
  strings-many k (suc m) (line ∷ lines) h = ap suc (strings-many (suc k) m lines (then-second (string_line_check v header k line) _ h))

  module _ (lines : List Line) (h : lines_check v (header ∷ lines) ≡ Lawful) where
    pub strings-lawful : string_lines_check v header 2 (n_in v header) lines ≡ Lawful
    unfolding lines_check body_check plan_in
    strings-lawful =
        let body = then-second (header_check v header) (body_check v header (plan_in v (header ∷ lines)) lines) h in
        then-first (string_lines_check v header 2 (n_in v header) lines) _ body

    pub strings-are : strings_of (plan_in v (header ∷ lines)) ≡ map (string_of v header) (take (n_in v header) lines)
    unfolding plan_in
    strings-are =
        let n = n_in v header in
        take_at (map (string_of v header) (take n lines)) _ n
        (length-map (take n lines) (string_of v header) ∙ strings-many 2 n lines strings-lawful)

-- ---- Moving costs

module _ (v : Version) (header : Line) where
  -- where the header says a cost, it goes to every string, as in version 01
  cost-for-all : (line : Line) → 1 ≤ v.header Common → (string_of v header line).a ≡ days (a_in v header)
  unfolding string_of cost_of has_field
  cost-for-all line some = rw (lt-ltb 0 (v.header Common) some)

  -- else the string line says it, as in version 02
  cost-of-its-own : (line : Line) → v.header Common ≤ 0 → (string_of v header line).a ≡ days (field_of (string_frame v) Own line)
  unfolding string_of cost_of has_field
  cost-of-its-own line none = rw (le-ltb 0 (v.header Common) none)

  -- a lawful text whose header says a cost reads as a plan in which every string has it
  pub one-cost : (lines : List Line) → 1 ≤ v.header Common → lines_check v (header ∷ lines) ≡ Lawful
      → All (λ s. s.a ≡ days (a_in v header)) (strings_of (plan_in v (header ∷ lines)))
  one-cost lines some h =
      let Same : BatteryString → Type 0 = λ s. s.a ≡ days (a_in v header) in
      let written = take (n_in v header) lines in
      let said = string_of v header in
      rw (strings-are v header lines h)
      (all-mapped Same said written (all_of (λ line. Same (said line)) (λ line. cost-for-all line some) written))

-- ---- Late days and due days

module _ (v : Version) where
  -- where a string line does not say them, there are none
  no-late-days : (header line : Line) → v.string Late ≡ 0 → (string_of v header line).j.0 ≡ 0
  unfolding string_of field_of field_in field_among number_on
  no-late-days header line none = rw none

  -- and where a release line does not say a due day, it is the release day
  on-due-day : (line : Line) → v.release Due ≡ 0 → (release_of v line).due.0 ≡ (release_of v line).day.0
  unfolding release_of due_in has_field
  on-due-day line none = rw (le-ltb 0 (v.release Due) (omega arith))

  module _ (header : Line) (lines : List Line) where
    lines-on-time : v.string Late ≡ 0 → lines_check v (header ∷ lines) ≡ Lawful → OnTime (plan_in v (header ∷ lines))
    lines-on-time none h =
        let written = take (n_in v header) lines in
        let said = string_of v header in
        rw (strings-are v header lines h)
        (all-mapped (λ s. s.j.0 ≡ 0) said written
        (all_of (λ line. (said line).j.0 ≡ 0) (λ line. no-late-days header line none) written))

    lines-due : v.release Due ≡ 0 → All (λ r. r.due.0 ≡ r.day.0) (releases_of (list_in v (header ∷ lines)))
    unfolding list_in
    lines-due none =
        let written = drop (n_in v header) lines in
        let read = map (release_of v) written in
        rw (take_at read (replicate (1000 - length read) no_release) (length read) refl)
        (all-mapped (λ r. r.due.0 ≡ r.day.0) (release_of v) written
        (all_of (λ line. (release_of v line).due.0 ≡ (release_of v line).day.0) (λ line. on-due-day line none) written))

-- only version 03 says either
before-03 : (number : ℕ) → (number ≡ 3 → ⊥) → ((held_to number).string Late ≡ 0) × ((held_to number).release Due ≡ 0)
unfolding held_to
before-03 number other =
    let not-3 = ne_eqb number 3 other in
    by_bool (eqb number 2) (λ t. rw t (refl, refl)) (λ e. rw (e, not-3) (refl, refl))

-- ---- Which version a text is held to

module _ (header : Line) (lines : List Line) where
  held-to-02 : version_in (frame_of header) ≡ 2 → version_of (header ∷ lines) ≡ version02
  unfolding version_of held_to
  held-to-02 h = rw (eq-eqb (version_in (frame_of header)) 2 h)

  held-to-01 : (version_in (frame_of header) ≡ 2 → ⊥) → (version_in (frame_of header) ≡ 3 → ⊥) → version_of (header ∷ lines) ≡ version01
  unfolding version_of held_to
  held-to-01 two three = rw (ne_eqb (version_in (frame_of header)) 2 two, ne_eqb (version_in (frame_of header)) 3 three)

-- a reading that is lawful was found so
pub reading-checked : (v : Version) (c : Checked) (lines : List Line) → (lawful_reading v c lines).checked ≡ Lawful → c ≡ Lawful
unfolding lawful_reading
reading-checked v (Ok _) lines h = refl
reading-checked v (Err e) lines h = h

pub lines-checked : (v : Version) (text : List ℕ) → (reading_in v text).checked ≡ Lawful → lines_check v (lines_of text) ≡ Lawful
unfolding reading_in text_check
lines-checked v text h =
    then-second (refuse_if (ltb 65536 (length text)) TextTooLong 0) (lines_check v (lines_of text))
    (reading-checked v (text_check v text) (lines_of text) h)

pub reading-plan : (v : Version) (text : List ℕ) → (reading_in v text).checked ≡ Lawful → (reading_in v text).plan
    ≡ plan_in v (lines_of text)
unfolding reading_in lawful_reading
reading-plan v text h = rw (reading-checked v (text_check v text) (lines_of text) h)

pub reading-releases : (v : Version) (text : List ℕ) → (reading_in v text).checked ≡ Lawful
    → (reading_in v text).releases ≡ list_in v (lines_of text)
unfolding reading_in lawful_reading
reading-releases v text h = rw (reading-checked v (text_check v text) (lines_of text) h)

-- a lawful text of a version that says neither late days nor due days reads as a plan without late days, each release on its due day
pub reading-on-time : (v : Version) (text : List ℕ) → v.string Late ≡ 0 → v.release Due ≡ 0 → (reading_in v text).checked ≡ Lawful
    → OnTime (reading_in v text).plan × All (λ r. r.due.0 ≡ r.day.0) (releases_of (reading_in v text).releases)
reading-on-time v text late due h =
    let read = go (lines_of text) (lines-checked v text h) in
    (rw (reading-plan v text h) read.0, rw (reading-releases v text h) read.1)
  where
    go : (lines : List Line) → lines_check v lines ≡ Lawful
        → OnTime (plan_in v lines) × All (λ r. r.due.0 ≡ r.day.0) (releases_of (list_in v lines))
    go [] h' = absurd (refused-not-lawful FrameWrong 1 (unfold lines_check in h'))
    go (header ∷ lines) h' = (lines-on-time v header lines late h', lines-due v header lines due)

module _ (text : List ℕ) (header : Line) (lines : List Line) (said : lines_of text ≡ header ∷ lines) where
  -- a lawful text of a version before 03 reads as a plan without late days, each release on its due day
  pub older-on-time : (version_in (frame_of header) ≡ 3 → ⊥) → (reading_of text).checked ≡ Lawful
      → OnTime (reading_of text).plan × All (λ r. r.due.0 ≡ r.day.0) (releases_of (reading_of text).releases)
  unfolding reading_of version_of
  older-on-time older h =
      let v = held_to (version_in (frame_of header)) in
      let none = before-03 (version_in (frame_of header)) older in
      let held : version_of (lines_of text) ≡ v = ap version_of said in
      let lawful : (reading_in v text).checked ≡ Lawful = rw held at h in
      rw held (reading-on-time v text none.0 none.1 lawful)

  -- a lawful text whose header names version 01: each string of its plan has the cost that the header says
  pub version01-one-cost : version_in (frame_of header) ≡ 1 → (reading_of text).checked ≡ Lawful
      → All (λ s. s.a ≡ days (a_in version01 header)) (strings_of (reading_of text).plan)
  unfolding reading_of
  version01-one-cost one h =
      let held : version_of (lines_of text) ≡ version01 =
      ap version_of said ∙ held-to-01 header lines (λ two. omega arith) (λ three. omega arith) in
      let lawful : (reading_in version01 text).checked ≡ Lawful = rw held at h in
      let found : lines_check version01 (header ∷ lines) ≡ Lawful = rw said at (lines-checked version01 text lawful) in
      rw (held, reading-plan version01 text lawful, said) (one-cost version01 header lines (omega arith) found)

  -- any version but 01, 02 and 03 is 3 at line 1, whatever the length of its header
  pub other-version : length text ≤ 65536 → well_formed header ≡ true → (version_in (frame_of header) ≡ 1 → ⊥)
      → (version_in (frame_of header) ≡ 2 → ⊥) → (version_in (frame_of header) ≡ 3 → ⊥) → (reading_of text).checked ≡ Refused FrameWrong 1
  unfolding
      reading_of reading_in text_check lines_check header_check frame_check version_check lawful_reading field_of field_in field_among
  other-version short good not-1 not-2 not-3 =
      let frame = frame_of header in
      let held : version_of (lines_of text) ≡ version01 = ap version_of said ∙ held-to-01 header lines not-2 not-3 in
      by_bool (eqb (length frame) 9 && eqb (kind_in frame) 1)
      (λ t. rw (held, said, le-ltb 65536 (length text) short, good, t, ne_eqb (version_in frame) 1 not-1))
      (λ e. rw (held, said, le-ltb 65536 (length text) short, good, e))
