-- What is written for a check: a text where it finds nothing, else the refusal's line; and the row of a string, by what the sheet says.
use Rattle.base.proofs.Prelude.{ℕ, ◌≤◌, ◌≡◌, sym, ap, ◌∙◌, List, [], map, arith, length, length-take, length-take-le}
use Rattle.std.specs.Prelude.{Err}
use Rattle.faults.specs.Checks.{Lawful, Checked}
use Rattle.faults.specs.declared.Refusal.{Refusal}
use Rattle.rules.specs.{declared.Plan.Plan, declared.Release.Release, Run.history, Stints.days_run, Plan.{strings_of, no_string}, Lines.refused_line}
use Rattle.showing.specs.Shown.{in_place, on_text}
use Rattle.showing.proofs.InPlace.{in_place-there, in_place-none}
use Rattle.lines.specs.Bars.{bar_row}
use Rattle.bars.specs.{declared.Column.Column, declared.sheet.Sheet.Sheet, Bars.{bar_in, bar_at, drawn, row_words}, inner.Drawing.{uses_told, cols_of, SheetOf}}

pub told-lawful : (a : Checked) (text : List ℕ) → a ≡ Lawful → text ≡ on_text a text
told-lawful a text is = rw is

pub told-refused : (a : Checked) (text : List ℕ) (e : Refusal) → a ≡ Err e → refused_line e.fault e.at ≡ on_text a text
told-refused a text e is = rw is

-- the bars by the stints of the list are those of the run
pub row_told : (p : Plan) (rs : List Release) (s : Sheet) (list : List ℕ) → SheetOf p rs s list → (i : ℕ)
    → map (λ (c : Column). bar_in p rs (uses_told list s.stints) s.days i c.first) (cols_of s.drawn)
    ≡ map (λ (c : Column). bar_at p rs i c.first) (drawn p rs)
row_told p rs s list is i =
    ap (λ us. map (λ (c : Column). bar_in p rs us s.days i c.first) (cols_of s.drawn)) is.uses
    ∙ ap (λ n. map (λ (c : Column). bar_in p rs (history p rs (days_run p rs)) n i c.first) (cols_of s.drawn)) is.days
    ∙ ap (map (λ (c : Column). bar_at p rs i c.first)) is.are

module _ (p : Plan) (rs : List Release) (i : ℕ) where
  pub row-outside : (1 ≤ i → i ≤ p.n → ⊥) → in_place (row_words p rs) no_string (strings_of p) i ≡ []
  row-outside out =
      in_place-none (row_words p rs) no_string (strings_of p) i (λ low high. out low (omega (arith, length-take p.n p.strings)))

  pub row-there : p.n ≤ length p.strings → 1 ≤ i → i ≤ p.n
      → bar_row i (map (λ (c : Column). bar_at p rs i c.first) (drawn p rs)) ≡ in_place (row_words p rs) no_string (strings_of p) i
  unfolding row_words
  row-there room low high =
      sym (in_place-there (row_words p rs) no_string (strings_of p) i low (omega (arith, length-take-le p.n p.strings room)))
