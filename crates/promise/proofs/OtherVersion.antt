-- A reader of one version gives 3 at line 1 exactly for a text whose first line is no header of that version, and so for the lawful
-- files of every other version.
use Rattle.base.proofs.Prelude.{ℕ, ◌≤◌, ◌≡◌, refl, sym, ap, ◌∙◌, ◌↔◌, Bool, true, false, not, ◌&&◌, List, [], ◌∷◌, arith, ltb-false, le-ltb, eqb-true, ne_eqb, ltb, eqb, length}
use Rattle.faults.specs.Checks.{Lawful, Checked}
use Rattle.std.specs.Prelude.{Ok, Err}
use Rattle.base.proofs.Lists.{true-not-false}
use Rattle.faults.specs.declared.Fault.TheVariants.{TextTooLong, LineMalformed, FrameWrong}
use Rattle.faults.specs.Checks.{fault_number, then, refuse_if}
use Rattle.faults.proofs.{Checks.{refused-not-lawful, then-first, then-second, refuse_if-not}, Refusing.{Refusals, refusals-then, refusals-if}}
use Rattle.rules.specs.{Layout.{Version, frame_size, kind_in, version_in, field_among, field_in, header_frame, version01, version02, version03, Number}, Refusal.{head_check, cost_check}, Text.{Line, lines_of, well_formed, frame_of, field_of, n_in, run_in, a_in, plan_in, frame_check, layout_check, version_check, header_check, body_check, lines_check, text_check, reading_in}, Said.{refused, checked_says}}
use Rattle.laws.proofs.{Versions.lines-checked, RefusedBy.{Never, Behind, lawful-no-refusal, second-says, body-behind, numbers-behind, reading-is-checked}}
use Rattle.promise.specs.OtherVersion.{headed, NoHeader}

not_three : (c : Checked) → Refusals Behind c → checked_says c ≡ refused 3 1 → ⊥
not_three (Ok _) h says = lawful-no-refusal 3 1 says
not_three (Err e) h says =
    let number : fault_number e.fault ≡ 3 = cc in
    let place : e.at ≡ 1 = cc in
    let behind = h.1 number in
    omega arith

-- the tests of a header in their order: is the line a frame, is it one of the version's length and kind, does it name the version
abbrev tested : Bool → Bool → Bool → Checked → Checked
tested good sized named numbers =
    then (then (refuse_if (not good) LineMalformed 1) (refuse_if (not sized) FrameWrong 1))
    (then (refuse_if (not named) FrameWrong 1) numbers)

two-not-three : refused 2 1 ≡ refused 3 1 → ⊥
two-not-three h =
    let same : ◌≡◌ {A = ℕ} 2 3 = cc in
    omega arith

by_tests : (good sized named : Bool) (numbers body : Checked) → Refusals Behind numbers → Refusals Behind body
    → (checked_says (then (tested good sized named numbers) body) ≡ refused 3 1) ↔ ((good ≡ true) × (sized && named ≡ false))
by_tests false sized named numbers body h k = (λ says. absurd (two-not-three says), λ is. absurd (true-not-false (sym is.0)))
by_tests true false named numbers body h k = (λ says. (refl, refl), λ is. refl)
by_tests true true false numbers body h k = (λ says. (refl, refl), λ is. refl)
by_tests true true true numbers body h k = (
  λ says. absurd (not_three (then numbers body) (refusals-then Behind numbers body h k) says),
  λ is. absurd (true-not-false is.1),
)

module _ (v : Version) where
  lines-three : (lines : List Line) → (checked_says (lines_check v lines) ≡ refused 3 1) ↔ NoHeader v lines
  unfolding lines_check header_check frame_check version_check headed
  lines-three [] = (λ h. tt, λ h. refl)
  lines-three (header ∷ lines) =
      by_tests (well_formed header)
      (eqb (length (frame_of header)) (frame_size (header_frame v)) && eqb (kind_in (frame_of header)) (header_frame v).kind)
      (eqb (field_of (header_frame v) Number header) v.number)
      (then (head_check 1 (n_in v header) (run_in v header)) (cost_check 1 (a_in v header)))
      (body_check v header (plan_in v (header ∷ lines)) lines)
      (numbers-behind v header) (body-behind v header (plan_in v (header ∷ lines)) lines)

  pub three-exactly : (text : List ℕ) → (checked_says (reading_in v text).checked ≡ refused 3 1)
      ↔ ((length text ≤ 65536) × NoHeader v (lines_of text))
  unfolding text_check
  three-exactly text = (only, back)
    where
      long : Checked
      long = refuse_if (ltb 65536 (length text)) TextTooLong 0

      parts : (checked_says (then long (lines_check v (lines_of text))) ≡ refused 3 1)
          ↔ ((long ≡ Lawful) × (checked_says (lines_check v (lines_of text)) ≡ refused 3 1))
      parts =
          second-says 3 1 long (lines_check v (lines_of text))
          (refusals-if (Never 3) (ltb 65536 (length text)) TextTooLong 0 (λ h. omega arith))

      only : checked_says (reading_in v text).checked ≡ refused 3 1 → (length text ≤ 65536) × NoHeader v (lines_of text)
      only h =
          let both = parts.0 (sym (ap checked_says (reading-is-checked v text)) ∙ h) in
          (ltb-false 65536 (length text) (refuse_if-not _ TextTooLong 0 both.0), (lines-three (lines_of text)).0 both.1)

      back : (length text ≤ 65536) × NoHeader v (lines_of text) → checked_says (reading_in v text).checked ≡ refused 3 1
      back h =
          let short : long ≡ Lawful = ap (λ bad. refuse_if bad TextTooLong 0) (le-ltb 65536 (length text) h.0) in
          ap checked_says (reading-is-checked v text) ∙ parts.1 (short, (lines-three (lines_of text)).1 h.1)

-- ---- The lawful files of another version

-- a lawful text is no longer than a text may be, and its first line writes a header that names its version
module _ (v : Version) (text : List ℕ) (h : (reading_in v text).checked ≡ Lawful) where
  lawful-short : length text ≤ 65536
  unfolding text_check
  lawful-short =
      ltb-false 65536 (length text)
      (refuse_if-not _ TextTooLong 0
      (then-first (refuse_if (ltb 65536 (length text)) TextTooLong 0) (lines_check v (lines_of text)) (sym (reading-is-checked v text)
      ∙ h)))

abbrev Named : Version → List Line → Type 0
Named v [] = ⊥
Named v (line ∷ lines) = (well_formed line ≡ true) × (field_of (header_frame v) Number line ≡ v.number)

lawful-named : (v : Version) (lines : List Line) → lines_check v lines ≡ Lawful → Named v lines
unfolding lines_check header_check frame_check version_check
lawful-named v [] h = refused-not-lawful FrameWrong 1 h
lawful-named v (header ∷ lines) h =
    let good = not (well_formed header) in
    let head = then-first (header_check v header) _ h in
    let layout = then-first (layout_check 1 (header_frame v) header) _ head in
    let rest = then-second (layout_check 1 (header_frame v) header) _ head in (
      not-bad (well_formed header) (refuse_if-not _ LineMalformed 1 (then-first (refuse_if good LineMalformed 1) _ layout)),
      eqb-true _ _ (not-bad _ (refuse_if-not _ FrameWrong 1 (then-first (version_check v header) _ rest))),
    )
  where
    not-bad : (b : Bool) → not b ≡ false → b ≡ true
    not-bad true e = refl
    not-bad false e = absurd (true-not-false e)

module _ (v w : Version) (same : (line : Line) → field_of (header_frame w) Number line ≡ field_of (header_frame v) Number line)
    (other : v.number ≡ w.number → ⊥) where
  named-elsewhere : (lines : List Line) → Named v lines → NoHeader w lines
  unfolding headed
  named-elsewhere [] h = absurd h
  named-elsewhere (line ∷ lines) h = (
    h.0,
    no-and (eqb (length (frame_of line)) (frame_size (header_frame w)) && eqb (kind_in (frame_of line)) (header_frame w).kind)
        (eqb (field_of (header_frame w) Number line) w.number)
        (ne_eqb (field_of (header_frame w) Number line) w.number (λ is. other (sym h.1 ∙ sym (same line) ∙ is))),
  )
    where
      no-and : (a b : Bool) → b ≡ false → a && b ≡ false
      no-and true b e = e
      no-and false b e = refl

  other-three : (text : List ℕ) → (reading_in v text).checked ≡ Lawful → checked_says (reading_in w text).checked ≡ refused 3 1
  other-three text h =
      (three-exactly w text).1
      (lawful-short v text h, named-elsewhere (lines_of text) (lawful-named v (lines_of text) (lines-checked v text h)))

-- every version has its number in the second byte
abbrev SecondByte : Version → Type 0
SecondByte v = (line : Line) → field_of (header_frame v) Number line ≡ version_in (frame_of line)

second-01 : SecondByte version01
unfolding field_of field_in field_among
second-01 line = refl

second-02 : SecondByte version02
unfolding field_of field_in field_among
second-02 line = refl

second-03 : SecondByte version03
unfolding field_of field_in field_among
second-03 line = refl

three-of : (v w : Version) → SecondByte v → SecondByte w → (v.number ≡ w.number → ⊥) → (text : List ℕ)
    → (reading_in v text).checked ≡ Lawful → checked_says (reading_in w text).checked ≡ refused 3 1
three-of v w in-v in-w = other-three v w (λ line. in-w line ∙ sym (in-v line))

pub three-of-02 : (text : List ℕ) → (reading_in version02 text).checked ≡ Lawful
    → checked_says (reading_in version01 text).checked ≡ refused 3 1
three-of-02 = three-of version02 version01 second-02 second-01 (λ h. omega arith)

pub three-of-01 : (text : List ℕ) → (reading_in version01 text).checked ≡ Lawful
    → checked_says (reading_in version02 text).checked ≡ refused 3 1
three-of-01 = three-of version01 version02 second-01 second-02 (λ h. omega arith)

-- a lawful file of version 03 is one of neither of the two that are turned (document 02, W-213)
pub three-of-03 : (text : List ℕ) → (reading_in version03 text).checked ≡ Lawful
    → (checked_says (reading_in version01 text).checked ≡ refused 3 1) × (checked_says (reading_in version02 text).checked ≡ refused 3 1)
three-of-03 text h = (
  three-of version03 version01 second-03 second-01 (λ h. omega arith) text h,
  three-of version03 version02 second-03 second-02 (λ h. omega arith) text h,
)
