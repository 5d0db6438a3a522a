-- Each test says whether a part of a well-formed line is there.
use Rattle.std.proofs.Common.{◌≡◌, sym, ◌∙◌, true, false, not, length}
use Rattle.base.proofs.Prelude.{ltb, eqb, get_or, lt-ltb, le-ltb}
use Rattle.base.proofs.Lists.{true-not-false}
use Rattle.reading.proofs.Lines.{asked-first}
use Rattle.reading.proofs.frames.well_formed.Goals as goal
use Rattle.reading.proofs.frames.well_formed.Goals.{then-line-digits-eq10, else-line-digits-eq10, then-digits-line, else-digits-line}

pub returns-then-digits-ne0 : goal.returns-then-digits-ne0
returns-then-digits-ne0 c =
    let g = c.args in
    let asked = asked-first g.line.now g.digits c.requires in
    elim c.if-line-digits-eq10.branch [
      | then-line-digits-eq10 w ↦
          elim c.if-digits-line.branch [
            | then-digits-line u ↦
                let inside : ltb g.digits (length g.line.now) ≡ true = lt-ltb _ _ u.if-digits-line.true in
                let newline : eqb (get_or g.line.now g.digits 0) 10 ≡ true = sym u.value-is ∙ w.if-line-digits-eq10.true in
                let some : not (eqb g.digits 0) ≡ true = sym w.value-is ∙ c.if-digits-ne0.true in
                record { exact = sym (asked ∙ rw (inside, newline, some)) }
            | else-digits-line u ↦ absurd (true-not-false (sym w.if-line-digits-eq10.true ∙ u.value-is ∙ le-ltb _ _ u.if-digits-line.false))
          ]
      | else-line-digits-eq10 w ↦
          absurd (true-not-false (sym c.if-digits-ne0.true ∙ w.value-is ∙ w.if-line-digits-eq10.false))
    ]

pub returns-else-digits-ne0 : goal.returns-else-digits-ne0
returns-else-digits-ne0 c =
    let g = c.args in
    let asked = asked-first g.line.now g.digits c.requires in
    elim c.if-digits-line.branch [
      | then-digits-line u ↦
          let inside : ltb g.digits (length g.line.now) ≡ true = lt-ltb _ _ u.if-digits-line.true in
          elim c.if-line-digits-eq10.branch [
            | then-line-digits-eq10 w ↦
                let newline : eqb (get_or g.line.now g.digits 0) 10 ≡ true = sym u.value-is ∙ w.if-line-digits-eq10.true in
                let none : not (eqb g.digits 0) ≡ false = sym w.value-is ∙ c.if-digits-ne0.false in
                record { exact = c.if-digits-ne0.false ∙ sym (asked ∙ rw (inside, newline, none)) }
            | else-line-digits-eq10 w ↦
                let other : eqb (get_or g.line.now g.digits 0) 10 ≡ false = sym u.value-is ∙ w.if-line-digits-eq10.false in
                record { exact = c.if-digits-ne0.false ∙ sym (asked ∙ rw (inside, other)) }
          ]
      | else-digits-line u ↦
          let outside : ltb g.digits (length g.line.now) ≡ false = le-ltb _ _ u.if-digits-line.false in
          record { exact = c.if-digits-ne0.false ∙ sym (asked ∙ rw outside) }
    ]
