-- Files of version 01 to 02 and back (document 02, W-208): what is turned and turned back has the bytes that it had; a file of version 02
-- goes into version 01 exactly when its moving costs are one; and a file says the same before and after.
use Rattle.base.proofs.Prelude.{ℕ, ◌+◌, ◌-◌, ◌≤◌, ◌<◌, ◌≡◌, refl, sym, ap, ◌∙◌, subst, ◌↔◌, true, false, not, List, [], ◌∷◌, arith, eq-eqb, eqb-true, not-false, lt-leb, leb, length, get_or, length-take-le}
use Rattle.faults.specs.Checks.{Refused, Lawful}
use Rattle.std.specs.Prelude.{Ok}
use borrow.Author.Tests.{leb-false}
use Rattle.days.specs.{declared.Length.Length, Days.days}
use Rattle.base.specs.Count.{All}
use Rattle.base.proofs.{Lists.{all-at, all-by, all_map, by_bool}, Least.{least_from-none, least_from-before}}
use Rattle.faults.specs.declared.Fault.{Fault}
use Rattle.faults.specs.declared.Fault.TheVariants.{FrameWrong, CostsDiffer}
use Rattle.faults.proofs.Checks.{refused-not-lawful, refuse_if-not}
use Rattle.rules.specs.{declared.BatteryString.BatteryString, declared.Plan.Plan, Plan.{strings_of, string_at, no_string}, Refusal.run_check, Layout.{Version, has_field, version01, version02, held_to}, Text.{Line, lines_of, version_of, a_in, plan_in, lines_check, reading_in, reading_of}, Answer.{answered, answer_of}}
use Rattle.laws.proofs.{Versions.{one-cost, lines-checked, reading-plan, reading-on-time}, ReadLawful.text-read}
use Rattle.writing.specs.Saved.{no_room, cost_differs, first_other, alike_check, saved_text}
use Rattle.roundtrip.proofs.{ReadBack.{reading-what-was-written, written-names, sayable-02}, WriteBack.writing-what-was-read, As02.{read-trimmed, run_is, ten-places, thousand}}
use Rattle.roundtrip.specs.OneText.{OneCost}
use Rattle.turning.specs.Turned.{line_of, turned_text, turn_check, turned_answer}

refused-not-text : (f : Fault) (at len : ℕ) → Refused f at ≡ Ok len → ⊥
refused-not-text f at len h =
    let z : ◌≡◌ {A = ℕ} 0 1 = cc in
    omega arith

-- ---- One moving cost

module _ (p : Plan) (many : length (strings_of p) ≡ p.n) where
  none-of-one_cost : OneCost p → p.n < first_other p
  unfolding first_other
  none-of-one_cost same = omega (arith, least_from-none (cost_differs p) 1 p.n each)
    where
      each : (i : ℕ) → 1 ≤ i → i < 1 + p.n → cost_differs p i ≡ false
      each i low high =
          ap not
          (eq-eqb _ _
          (ap (λ (a : Length). a.0) (all-at (λ s. s.a ≡ (string_at p 1).a) (strings_of p) no_string same (i - 1) (omega arith))))

  one_cost-of-none : p.n < first_other p → OneCost p
  unfolding first_other
  one_cost-of-none high = all-by (λ s. s.a ≡ (string_at p 1).a) (strings_of p) no_string each
    where
      each : (i : ℕ) → i < length (strings_of p) → (get_or (strings_of p) i no_string).a ≡ (string_at p 1).a
      each i low =
          let here = least_from-before (cost_differs p) 1 p.n (i + 1) (omega arith) (omega arith) in
          let back : (i + 1) - 1 ≡ i = omega arith in
          ap (λ k. (get_or (strings_of p) k no_string).a) (sym back) ∙ ap days (eqb-true _ _ (not-false _ here))

-- ---- A lawful text

module _ (v : Version) (text : List ℕ) (h : (reading_in v text).checked ≡ Lawful) where
  abbrev said : Plan
  said = (reading_in v text).plan

  many : length (strings_of said) ≡ said.n
  many = length-take-le said.n said.strings (omega (arith, ten-places v text h, (run_is v text h).plan.n_max))

  savable : (length said.strings ≡ 10) × (length (reading_in v text).releases.list ≡ 1000)
      × (run_check said (reading_in v text).releases ≡ Lawful)
  savable = (ten-places v text h, thousand v text h, text-read v text h)

-- a text that is lawful in a version names it
names : (k : ℕ) (text : List ℕ) → (reading_in (held_to k) text).checked ≡ Lawful → reading_of text ≡ reading_in (held_to k) text
unfolding reading_of
names k text h =
    let v = held_to k in
    let written = ap (λ t. version_of (lines_of t)) (sym (writing-what-was-read k text h)) in
    let named = written ∙ written-names k (reading_in v text).plan (reading_in v text).releases (savable v text h) in
    ap (λ w. reading_in w text) named

same_answer : (text other : List ℕ) → reading_of text ≡ reading_of other → answer_of text ≡ answer_of other
unfolding answer_of
same_answer text other same = ap (λ r. answered r.checked r) same

-- the strings of a version 01 file have the cost that its header says
lines-one : (lines : List Line) → lines_check version01 lines ≡ Lawful → 0 < length (strings_of (plan_in version01 lines))
    → OneCost (plan_in version01 lines)
unfolding lines_check
lines-one [] h some = absurd (refused-not-lawful FrameWrong 1 h)
lines-one (header ∷ lines) h some =
    let p = plan_in version01 (header ∷ lines) in
    let Cost : BatteryString → Type 0 = λ s. s.a ≡ days (a_in version01 header) in
    let all : All Cost (strings_of p) = one-cost version01 header lines (omega arith) h in
    let first = all-at Cost (strings_of p) no_string all 0 some in
    all_map Cost (λ s. s.a ≡ (string_at p 1).a) (λ s is. is ∙ sym first) (strings_of p) all

-- ---- From 01 to 02

module _ (text : List ℕ) (h : (reading_in version01 text).checked ≡ Lawful) where
  abbrev in-02 : List ℕ
  in-02 = turned_text version01 version02 text

  pub reads-02 : reading_in version02 in-02 ≡ reading_in version01 text
  unfolding turned_text held_to
  reads-02 =
      let on-time = reading-on-time version01 text refl refl h in
      reading-what-was-written 2 (said version01 text h) (reading_in version01 text).releases (savable version01 text h)
      (sayable-02 (said version01 text h) (reading_in version01 text).releases on-time.0 on-time.1)
      ∙ read-trimmed version01 text h

  lawful-02 : (reading_in version02 in-02).checked ≡ Lawful
  lawful-02 = ap (λ r. r.checked) reads-02 ∙ h

  -- the version 01 bytes come back
  pub back-to-01 : turned_text version02 version01 in-02 ≡ text
  unfolding turned_text held_to
  back-to-01 = ap (λ r. saved_text version01 r.plan r.releases) reads-02 ∙ writing-what-was-read 1 text h

  -- and nothing stands in their way: the moving costs are one
  pub one-cost-01 : OneCost (reading_in version02 in-02).plan
  one-cost-01 =
      let plan = reading-plan version01 text h in
      let some : 0 < length (strings_of (said version01 text h)) =
      omega (arith, many version01 text h, (run_is version01 text h).plan.n_pos) in
      let lines = lines-one (lines_of text) (lines-checked version01 text h) (subst (λ p. 0 < length (strings_of p)) plan some) in
      subst OneCost (sym (ap (λ r. r.plan) reads-02 ∙ plan)) lines

  -- verdict, search and run are the same before and after
  pub same-turned-02 : answer_of in-02 ≡ answer_of text
  unfolding held_to
  same-turned-02 = same_answer in-02 text (names 2 in-02 lawful-02 ∙ reads-02 ∙ sym (names 1 text h))

-- ---- From 02 to 01

module _ (text : List ℕ) (h : (reading_in version02 text).checked ≡ Lawful) where
  abbrev in-01 : List ℕ
  in-01 = turned_text version02 version01 text

  abbrev plan : Plan
  plan = (reading_in version02 text).plan

  differs : (page : List ℕ) (at : ℕ) → leb (first_other plan) plan.n ≡ true
      → turned_answer version02 version01 text page at ≡ Refused CostsDiffer (line_of (first_other plan))
  unfolding turned_answer turn_check alike_check has_field
  differs page at other = rw (h, other)

  alike : (page : List ℕ) (at : ℕ) → leb (first_other plan) plan.n ≡ false → no_room page at in-01 ≡ false
      → turned_answer version02 version01 text page at ≡ Ok (length in-01)
  unfolding turned_answer turn_check alike_check has_field
  alike page at none fits = rw (h, none, fits)

  pub alike-one : (line : ℕ) → alike_check version01 line plan ≡ Lawful → OneCost plan
  unfolding alike_check has_field
  alike-one line fine =
      let none = refuse_if-not (leb (first_other plan) plan.n) CostsDiffer line fine in
      one_cost-of-none plan (many version02 text h) (leb-false (first_other plan) plan.n none)

  -- where there is room it works exactly when the moving costs are one
  pub to-01-exactly : (page : List ℕ) (at : ℕ) → no_room page at in-01 ≡ false
      → (turned_answer version02 version01 text page at ≡ Ok (length in-01)) ↔ OneCost plan
  to-01-exactly page at fits = (
    λ works.
        by_bool (leb (first_other plan) plan.n)
        (λ other. absurd (refused-not-text CostsDiffer (line_of (first_other plan)) (length in-01) (sym (differs page at other) ∙ works)))
        (λ none. one_cost-of-none plan (many version02 text h) (leb-false (first_other plan) plan.n none)),
    λ one. alike page at (lt-leb (first_other plan) plan.n (none-of-one_cost plan (many version02 text h) one)) fits,
  )

  -- and else it is 12, whatever the room, with the line of the first string that differs
  pub to-01-differs : (page : List ℕ) (at : ℕ) → (OneCost plan → ⊥)
      → turned_answer version02 version01 text page at ≡ Refused CostsDiffer (line_of (first_other plan))
  to-01-differs page at not-one =
      by_bool (leb (first_other plan) plan.n)
      (λ other. differs page at other)
      (λ none. absurd (not-one (one_cost-of-none plan (many version02 text h) (leb-false (first_other plan) plan.n none))))

  module _ (one : OneCost plan) where
    reads-01 : reading_in version01 in-01 ≡ reading_in version02 text
    unfolding turned_text held_to
    reads-01 =
        let on-time = reading-on-time version02 text refl refl h in
        reading-what-was-written 1 plan (reading_in version02 text).releases (savable version02 text h)
        (record { costs = λ moving. one; late = λ unsaid. on-time.0; due = λ unsaid. on-time.1 })
        ∙ read-trimmed version02 text h

    -- the version 02 bytes come back
    pub back-to-02 : turned_text version01 version02 in-01 ≡ text
    unfolding turned_text held_to
    back-to-02 = ap (λ r. saved_text version02 r.plan r.releases) reads-01 ∙ writing-what-was-read 2 text h

    -- verdict, search and run are the same before and after
    pub same-turned-01 : answer_of in-01 ≡ answer_of text
    unfolding held_to
    same-turned-01 =
        let lawful : (reading_in version01 in-01).checked ≡ Lawful = ap (λ r. r.checked) reads-01 ∙ h in
        same_answer in-01 text (names 1 in-01 lawful ∙ reads-01 ∙ sym (names 2 text h))
