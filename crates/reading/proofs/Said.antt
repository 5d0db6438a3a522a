-- What a line says, by positions of the text: the number that stands where the code's field is, is what the definition's field says.
use Rattle.base.proofs.Prelude.{ℕ, ◌+◌, ◌*◌, ◌≤◌, ◌≡◌, sym, ◌∙◌, List, arith, eq-eqb, ne_eqb, drop}
use Rattle.faults.specs.Checks.{Refused, Lawful}
use Rattle.faults.specs.declared.Refusal.{Refusal}
use Rattle.std.specs.Prelude.{Err}
use Rattle.days.specs.{declared.Day.Day, declared.Length.Length, Days.{day, days}}
use Rattle.faults.specs.declared.Fault.TheVariants.{FrameWrong}
use Rattle.faults.specs.Checks.{then}
use Rattle.rules.specs.{Refusal.{head_check, cost_check}, Layout.{Version, frame_size, Number, Count, Run, X, T, C, D, Late, Place, Need, header_frame, string_frame, release_frame}, Text.{Line, field_of, n_in, a_in, run_in, cost_of, string_of, due_in, release_of, version_check, header_check, layout_check}}
use Rattle.layouts.specs.{declared.Field.Field, inner.Versions.field_for}
use Rattle.reading.specs.inner.Positions.{digits_ahead, line_at, Frame, number_in, header_numbers}
use Rattle.reading.proofs.Fields.{field_fits, field_is}
use Rattle.rules.specs.Layout as rule

-- ---- A field of a frame

module _ {F : Type 0} (text : List ℕ) (at : ℕ) (l : rule.Layout F) (f : F) (field : Field) (e : field ≡ field_for l f)
    (frame : Frame text at (frame_size l))
  where
    pub field_room : (field.at + field.size) * 2 ≤ digits_ahead (drop at text)
    field_room = rw (e, frame.digits) (omega (arith, field_fits l f))

    pub field-said : number_in text at field.at field.size ≡ field_of l f (line_at text at)
    field-said = rw e (sym (field_is l f text at frame))

-- ---- The header

module _ (v : Version) (line : Line) where
  pub number-elsewhere : (field_of (header_frame v) Number line ≡ v.number → ⊥) → header_numbers v line ≡ Refused FrameWrong 1
  unfolding version_check
  number-elsewhere other = rw (ne_eqb _ v.number other)

  -- where the number is the version's
  pub this-version : (number n run : ℕ) → number ≡ field_of (header_frame v) Number line → number ≡ v.number
      → n ≡ field_of (header_frame v) Count line → run ≡ field_of (header_frame v) Run line
      → header_numbers v line ≡ then (head_check 1 n run) (cost_check 1 (a_in v line))
  unfolding version_check n_in run_in
  this-version number n run e same en er = rw (en, er, eq-eqb _ v.number (sym e ∙ same))

  pub header-refused : (e : Refusal) → layout_check 1 (header_frame v) line ≡ Err e → header_check v line ≡ Err e
  unfolding header_check
  header-refused e h = rw h

  pub header-framed : layout_check 1 (header_frame v) line ≡ Lawful → header_check v line ≡ header_numbers v line
  unfolding header_check
  header-framed h = rw h

-- ---- A string

pub string-said : (v : Version) (header line : Line) (t c d x : ℕ) (a : Length) (j : ℕ) → t ≡ field_of (string_frame v) T line
    → c ≡ field_of (string_frame v) C line → d ≡ field_of (string_frame v) D line → x ≡ field_of (string_frame v) X line
    → a ≡ days (cost_of v header line) → j ≡ field_of (string_frame v) Late line
    → record { t = days t; c = days c; d = days d; x = x; a = a; j = days j } ≡ string_of v header line
unfolding string_of
string-said v header line t c d x a j et ec ed ex ea ej = rw (et, ec, ed, ex, ea, ej)

-- ---- A release

pub reading-release-said : (v : Version) (line : Line) (day_said place need : ℕ) (due : Day) → day_said
    ≡ field_of (release_frame v) rule.Day line
    → place ≡ field_of (release_frame v) Place line → need ≡ field_of (release_frame v) Need line → due ≡ day (due_in v line)
    → record { day = day day_said; place = place; need = days need; due = due } ≡ release_of v line
unfolding release_of
reading-release-said v line day_said place need due ed ep en eu = rw (ed, ep, en, eu)
