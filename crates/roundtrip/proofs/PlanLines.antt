-- The lines of a lawful plan, and what they say to the reader, in every version: the header, a string, a release.
use Rattle.base.proofs.Prelude.{ℕ, ◌≤◌, ◌≡◌, sym, ap, ◌∙◌, true, arith, dec_le, lt-ltb, le-ltb, take, drop}
use Rattle.days.specs.declared.Length.{Length}
use Rattle.base.specs.{Count.All, Digits.number_on}
use Rattle.base.proofs.{Lists.{all_map, all_get_d}, Order.{all_both, all_of}}
use Rattle.rules.specs.{declared.BatteryString.BatteryString, declared.Plan.Plan, declared.Release.Release, declared.Releases.Releases, Plan.{strings_of, string_at, no_string}, Layout.{Version, number_of, version_in, field_among, field_in, has_field, held_to, header_frame, string_frame, release_frame}, Text.{Line, frame_of, field_of, n_in, a_in, run_in, cost_of, string_of, due_in, release_of}}
use Rattle.laws.specs.Lawful.{LawfulString, LawfulPlan}
use Rattle.layouts.proofs.Versions.{number_small, number_size, count-size, run-size, x-size, t-size, c-size, d-size, place-size, day-size, need-size, cost-sizes, late-sizes, due-sizes, cost-common, cost-own, due-said, due-unsaid}
use Rattle.writing.specs.Written.{header_says, string_says, release_says}
use Rattle.roundtrip.specs.OneText.{CanSay}
use Rattle.roundtrip.proofs.{Numbers.{Says, Fits}, Framed.{line_written, written-says}}
use Rattle.rules.specs.Layout as layout

abbrev pub header_line : Version → Plan → Line
header_line v p = line_written (header_frame v) (header_says v.number p)

abbrev pub line_of_string : Version → BatteryString → Line
line_of_string v s = line_written (string_frame v) (string_says s)

abbrev pub line_of_release : Version → Release → Line
line_of_release v r = line_written (release_frame v) (release_says r)

-- ---- The header

module _ (p : Plan) (ok : LawfulPlan p) where
  -- the moving cost of the first string
  first_small : (string_at p 1).a.0 ≤ 1000
  first_small =
      all_get_d (λ s. s.a.0 ≤ 1000) (strings_of p) 0 no_string
      (all_map LawfulString (λ s. s.a.0 ≤ 1000) (λ s good. good.a_max) (strings_of p) ok.each)
      (omega arith)

  module _ (k : ℕ) where
    abbrev header : Line
    header = header_line (held_to k) p

    header-fits : Fits (header_frame (held_to k)) (header_says (held_to k).number p)
    header-fits layout.Number some = rw (number_size k) (omega (arith, number_small k))
    header-fits layout.Count some = rw (count-size k) (omega (arith, ok.n_max))
    header-fits layout.Common some =
        let two : (held_to k).header layout.Common ≡ 2 = omega (arith, cost-sizes k) in
        rw two (omega (arith, first_small))
    header-fits layout.Run some = rw (run-size k) (omega (arith, ok.run_max))

    header-says : Says (header_frame (held_to k)) (header_says (held_to k).number p) (header_frame (held_to k)).fields
        (drop 1 (frame_of header))
    header-says = written-says (header_frame (held_to k)) (header_says (held_to k).number p) (omega arith) header-fits

    pub version-said : field_of (header_frame (held_to k)) layout.Number header ≡ (held_to k).number
    unfolding field_of field_in field_among
    version-said = header-says.0 (omega (arith, number_size k))

    pub named : version_in (frame_of header) ≡ (held_to k).number
    named =
        ap (λ n. number_of (take n (drop 1 (frame_of header)))) (sym (number_size k)) ∙ header-says.0 (omega (arith, number_size k))

    pub n-said : n_in (held_to k) header ≡ p.n
    unfolding n_in field_of field_in field_among
    n-said = header-says.1.0 (omega (arith, count-size k))

    a-said : 1 ≤ (held_to k).header layout.Common → a_in (held_to k) header ≡ (string_at p 1).a.0
    unfolding a_in field_of field_in field_among
    a-said some = header-says.1.1.0 some

    pub run-said : run_in (held_to k) header ≡ p.run.0
    unfolding run_in field_of field_in field_among
    run-said = header-says.1.1.1.0 (omega (arith, run-size k))

    -- a header that says no moving cost says 0
    a-none : (held_to k).header layout.Common ≡ 0 → a_in (held_to k) header ≤ 1000
    unfolding a_in field_of field_in field_among number_on
    a-none none = rw none (omega arith)

    pub a_small : a_in (held_to k) header ≤ 1000
    a_small =
        elim (dec_le 1 ((held_to k).header layout.Common)) [
          | yes some ↦ omega (arith, a-said some, first_small)
          | no none ↦ a-none (omega arith)
        ]

-- ---- A string

module _ (s : BatteryString) (ok : LawfulString s) (k : ℕ) where
  abbrev line : Line
  line = line_of_string (held_to k) s

  string-fits : Fits (string_frame (held_to k)) (string_says s)
  string-fits layout.X some = rw (x-size k) (omega (arith, ok.x_max))
  string-fits layout.T some = rw (t-size k) (omega (arith, ok.t_max))
  string-fits layout.C some = rw (c-size k) (omega (arith, ok.t_max, ok.d_max, ok.c_max))
  string-fits layout.D some = rw (d-size k) (omega (arith, ok.t_max, ok.d_max))
  string-fits layout.Own some =
      let two : (held_to k).string layout.Own ≡ 2 = omega (arith, cost-sizes k) in
      rw two (omega (arith, ok.a_max))
  string-fits layout.Late some =
      let two : (held_to k).string layout.Late ≡ 2 = omega (arith, late-sizes k) in
      rw two (omega (arith, ok.t_max, ok.d_max, ok.j_max))

  string-says : Says (string_frame (held_to k)) (string_says s) (string_frame (held_to k)).fields (drop 1 (frame_of line))
  string-says = written-says (string_frame (held_to k)) (string_says s) (omega arith) string-fits

  own-said : 1 ≤ (held_to k).string layout.Own → field_of (string_frame (held_to k)) layout.Own line ≡ s.a.0
  unfolding field_of field_in field_among
  own-said some = string-says.1.1.1.1.0 some

  -- a string line that does not say late days says 0
  late-none : (held_to k).string layout.Late ≡ 0 → field_of (string_frame (held_to k)) layout.Late line ≡ 0
  unfolding field_of field_in field_among number_on
  late-none none = rw none

  late-some : 1 ≤ (held_to k).string layout.Late → field_of (string_frame (held_to k)) layout.Late line ≡ s.j.0
  unfolding field_of field_in field_among
  late-some some = string-says.1.1.1.1.1.0 some

  late-said : ((held_to k).string layout.Late ≡ 0 → s.j.0 ≡ 0) → field_of (string_frame (held_to k)) layout.Late line ≡ s.j.0
  late-said on-time =
      elim (dec_le 1 ((held_to k).string layout.Late)) [
        | yes some ↦ late-some some
        | no none ↦
            let nothing : (held_to k).string layout.Late ≡ 0 = omega arith in
            late-none nothing ∙ sym (on-time nothing)
      ]

  pub string-read-back : (header : Line) → cost_of (held_to k) header line ≡ s.a.0
      → field_of (string_frame (held_to k)) layout.Late line ≡ s.j.0 → string_of (held_to k) header line ≡ s
  unfolding string_of field_of field_in field_among
  string-read-back header cost late =
      rw (
        string-says.0 (omega (arith, x-size k)),
        string-says.1.0 (omega (arith, t-size k)),
        string-says.1.1.0 (omega (arith, c-size k)),
        string-says.1.1.1.0 (omega (arith, d-size k)),
        cost,
        late,
      )

-- lawful, and under the header of its plan its line says its own moving cost and late days
abbrev pub Told : Version → Line → BatteryString → Type 0
Told v header s =
    LawfulString s × (cost_of v header (line_of_string v s) ≡ s.a.0)
    × (field_of (string_frame v) layout.Late (line_of_string v s) ≡ s.j.0)

module _ (p : Plan) (rs : Releases) (ok : LawfulPlan p) (k : ℕ) (sayable : CanSay (held_to k) p rs) where
  has-common : 1 ≤ (held_to k).header layout.Common → has_field (header_frame (held_to k)) layout.Common ≡ true
  unfolding has_field
  has-common some = lt-ltb 0 ((held_to k).header layout.Common) some

  -- each string has no late days, where its line says none
  unlate : All (λ s. (held_to k).string layout.Late ≡ 0 → s.j.0 ≡ 0) (strings_of p)
  unfolding has_field
  unlate =
      elim (dec_le 1 ((held_to k).string layout.Late)) [
        | yes some ↦ all_of (λ s. (held_to k).string layout.Late ≡ 0 → s.j.0 ≡ 0) (λ s none. absurd (omega arith)) (strings_of p)
        | no none ↦
            all_map (λ s. s.j.0 ≡ 0) (λ s. (held_to k).string layout.Late ≡ 0 → s.j.0 ≡ 0) (λ s on-time said. on-time) (strings_of p)
            (sayable.late (le-ltb 0 ((held_to k).string layout.Late) (omega arith)))
      ]

  good-strings : All (λ s. LawfulString s × ((held_to k).string layout.Late ≡ 0 → s.j.0 ≡ 0)) (strings_of p)
  good-strings =
      all_both LawfulString (λ s. (held_to k).string layout.Late ≡ 0 → s.j.0 ≡ 0)
      (λ s. LawfulString s × ((held_to k).string layout.Late ≡ 0 → s.j.0 ≡ 0)) (λ s good on-time. (good, on-time)) (strings_of p)
      ok.each unlate

  pub strings-told : All (Told (held_to k) (header_line (held_to k) p)) (strings_of p)
  strings-told =
      let v = held_to k in
      let head = header_line v p in
      elim (dec_le 1 (v.header layout.Common)) [
        | yes some ↦
            all_both (λ s. LawfulString s × (v.string layout.Late ≡ 0 → s.j.0 ≡ 0)) (λ s. s.a ≡ (string_at p 1).a) (Told v head)
            (λ s good same. (
              good.0,
              cost-common v head (line_of_string v s) some ∙ a-said p ok k some ∙ sym (ap (λ (a : Length). a.0) same),
              late-said s good.0 k good.1,
            ))
            (strings_of p) good-strings (sayable.costs (has-common some))
        | no none ↦
            all_map (λ s. LawfulString s × (v.string layout.Late ≡ 0 → s.j.0 ≡ 0)) (Told v head)
            (λ s good. (
              good.0,
              cost-own v head (line_of_string v s) (omega arith) ∙ own-said s good.0 k (omega (arith, cost-sizes k)),
              late-said s good.0 k good.1,
            ))
            (strings_of p) good-strings
      ]

-- ---- A release

-- what a lawful release's numbers stay within
pub record Brief (r : Release) : Type 0 where
  pub place : r.place ≤ 10
  pub day : r.day.0 ≤ 1000000
  pub need : r.need.0 ≤ 1000
  pub due : r.due.0 ≤ 1000000

-- and where the version does not say a due day, it is the release day
abbrev pub Stated : Version → Release → Type 0
Stated v r = Brief r × (v.release layout.Due ≡ 0 → r.due.0 ≡ r.day.0)

module _ (r : Release) (k : ℕ) (stated : Stated (held_to k) r) where
  abbrev ok : Brief r
  ok = stated.0

  abbrev said : Line
  said = line_of_release (held_to k) r

  release-fits : Fits (release_frame (held_to k)) (release_says r)
  release-fits layout.Place some = rw (place-size k) (omega (arith, ok.place))
  release-fits layout.Day some = rw (day-size k) (omega (arith, ok.day))
  release-fits layout.Need some = rw (need-size k) (omega (arith, ok.need))
  release-fits layout.Due some =
      let four : (held_to k).release layout.Due ≡ 4 = omega (arith, due-sizes k) in
      rw four (omega (arith, ok.due))

  release-says : Says (release_frame (held_to k)) (release_says r) (release_frame (held_to k)).fields (drop 1 (frame_of said))
  release-says = written-says (release_frame (held_to k)) (release_says r) (omega arith) release-fits

  day-said : field_of (release_frame (held_to k)) layout.Day said ≡ r.day.0
  unfolding field_of field_in field_among
  day-said = release-says.1.0 (omega (arith, day-size k))

  due-there : 1 ≤ (held_to k).release layout.Due → field_of (release_frame (held_to k)) layout.Due said ≡ r.due.0
  unfolding field_of field_in field_among
  due-there some = release-says.1.1.1.0 some

  due_is : due_in (held_to k) said ≡ r.due.0
  due_is =
      elim (dec_le 1 ((held_to k).release layout.Due)) [
        | yes some ↦ due-said (held_to k) said some ∙ due-there some
        | no none ↦ due-unsaid (held_to k) said (omega arith) ∙ day-said ∙ sym (stated.1 (omega arith))
      ]

  pub release-said : release_of (held_to k) said ≡ r
  unfolding release_of field_of field_in field_among
  release-said =
      rw (
        release-says.0 (omega (arith, place-size k)),
        release-says.1.0 (omega (arith, day-size k)),
        release-says.1.1.0 (omega (arith, need-size k)),
        due_is,
      )
