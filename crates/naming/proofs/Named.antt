-- Laws of the definitions that put the reasons together.
use Rattle.base.proofs.Prelude.{ℕ, ◌-◌, ◌≤◌, ◌<◌, ◌≡◌, sym, ap, ◌∙◌, List, [], arith, le-leb, lt-leb, eq-eqb, ne_eqb}
use Rattle.faults.specs.Checks.{Refused, Lawful}
use Rattle.faults.specs.declared.Fault.{Fault}
use Rattle.faults.specs.Checks.{fault_number}
use Rattle.rules.specs.{declared.BatteryString.BatteryString, Layout.Version, Text.{lines_of, version_of, n_in, a_in, run_in, string_of, reading_of}}
use Rattle.lines.specs.declared.reasons.Reason.{Reason}
use Rattle.lines.specs.declared.reasons.Reason.TheVariants.{TooLong, StringsOut, OverThousand}
use Rattle.lines.specs.{declared.Page.Page, Pages.page_of, Reasons.reason_line}
use Rattle.naming.specs.{Lines.line_no, Malformed.malformed_reason, Frames.frame_reason, Outside.{head_reason, string_reason}, Periods.{plan_named, multiple_reason}, Released.release_reason, Named.{bounds_reason, framed_reason, reason_for, refusal_for, refusal_text}}

module _ (text : List ℕ) (k : ℕ) (v : Version) (e : v ≡ version_of (lines_of text)) where
  pub bounds-head : (a run : ℕ) → k ≤ 1 → a ≡ a_in v (line_no (lines_of text) 1) → run ≡ run_in v (line_no (lines_of text) 1)
      → head_reason a run ≡ bounds_reason text k
  unfolding bounds_reason
  bounds-head a run h ea er = rw (le-leb k 1 h, ← e, ← ea, ← er)

  pub bounds-string : (s : BatteryString) → 1 < k → s ≡ string_of v (line_no (lines_of text) 1) (line_no (lines_of text) k)
      → string_reason (k - 1) s ≡ bounds_reason text k
  unfolding bounds_reason
  bounds-string s h es = rw (lt-leb k 1 h, ← e, ← es)

  module _ (m : ℕ) where
    pub framed-3 : (n : ℕ) → n ≡ n_in v (line_no (lines_of text) 1) → m ≡ 3
        → frame_reason v n k (line_no (lines_of text) k).bytes ≡ framed_reason text m k
    unfolding framed_reason
    framed-3 n en h = rw (eq-eqb m 3 h, ← e, ← en)

    pub framed-4 : (n : ℕ) → n ≡ n_in v (line_no (lines_of text) 1) → m ≡ 4 → StringsOut n ≡ framed_reason text m k
    unfolding framed_reason
    framed-4 n en h =
        let three : m ≡ 3 → ⊥ = λ z. omega arith in
        rw (ne_eqb m 3 three, eq-eqb m 4 h, ← e, ← en)

    pub framed-5 : m ≡ 5 → bounds_reason text k ≡ framed_reason text m k
    unfolding framed_reason
    framed-5 h =
        let three : m ≡ 3 → ⊥ = λ z. omega arith in
        let four : m ≡ 4 → ⊥ = λ z. omega arith in
        rw (ne_eqb m 3 three, ne_eqb m 4 four, eq-eqb m 5 h)

    pub framed-6 : m ≡ 6 → multiple_reason (plan_named v (lines_of text)) ≡ framed_reason text m k
    unfolding framed_reason
    framed-6 h =
        let three : m ≡ 3 → ⊥ = λ z. omega arith in
        let four : m ≡ 4 → ⊥ = λ z. omega arith in
        let five : m ≡ 5 → ⊥ = λ z. omega arith in
        rw (ne_eqb m 3 three, ne_eqb m 4 four, ne_eqb m 5 five, eq-eqb m 6 h, ← e)

    pub framed-8 : (m ≡ 3 → ⊥) → (m ≡ 4 → ⊥) → (m ≡ 5 → ⊥) → (m ≡ 6 → ⊥) → release_reason v (lines_of text) k ≡ framed_reason text m k
    unfolding framed_reason
    framed-8 three four five six = rw (ne_eqb m 3 three, ne_eqb m 4 four, ne_eqb m 5 five, ne_eqb m 6 six, ← e)

module _ (text : List ℕ) (f : Fault) (k : ℕ) where
  pub for-1 : fault_number f ≡ 1 → TooLong ≡ reason_for text f k
  unfolding reason_for
  for-1 h = rw (eq-eqb (fault_number f) 1 h)

  pub for-2 : fault_number f ≡ 2 → malformed_reason (line_no (lines_of text) k).bytes ≡ reason_for text f k
  unfolding reason_for
  for-2 h =
      let one : fault_number f ≡ 1 → ⊥ = λ z. omega arith in
      rw (ne_eqb (fault_number f) 1 one, eq-eqb (fault_number f) 2 h)

  pub for-7 : fault_number f ≡ 7 → OverThousand ≡ reason_for text f k
  unfolding reason_for
  for-7 h =
      let one : fault_number f ≡ 1 → ⊥ = λ z. omega arith in
      let two : fault_number f ≡ 2 → ⊥ = λ z. omega arith in
      rw (ne_eqb (fault_number f) 1 one, ne_eqb (fault_number f) 2 two, eq-eqb (fault_number f) 7 h)

  pub for-others : (fault_number f ≡ 1 → ⊥) → (fault_number f ≡ 2 → ⊥) → (fault_number f ≡ 7 → ⊥)
      → framed_reason text (fault_number f) k ≡ reason_for text f k
  unfolding reason_for
  for-others one two seven = rw (ne_eqb (fault_number f) 1 one, ne_eqb (fault_number f) 2 two, ne_eqb (fault_number f) 7 seven)

-- ---- A text

module _ (text : List ℕ) where
  pub text-lawful : (reading_of text).checked ≡ Lawful → refusal_text text ≡ []
  unfolding refusal_text refusal_for
  text-lawful e = rw e

  named-refused : (f : Fault) (k : ℕ) → (reading_of text).checked ≡ Refused f k → refusal_text text ≡ reason_line f k (reason_for text f k)
  unfolding refusal_text refusal_for
  named-refused f k e = rw e

  pub refusal-named : (f : Fault) (k : ℕ) (page : Page) (r : Reason) → page ≡ page_of (reason_line f k r) → r ≡ reason_for text f k
      → (reading_of text).checked ≡ Refused f k → page ≡ page_of (refusal_text text)
  refusal-named f k page r e is refused = e ∙ ap (λ x. page_of (reason_line f k x)) is ∙ ap page_of (sym (named-refused f k refused))
