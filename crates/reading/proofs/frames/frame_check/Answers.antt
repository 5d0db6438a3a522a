-- Its form decides first, then its size, then its kind.
use Rattle.std.proofs.Common.{◌≡◌, ◌/◌, ℕ, sym, ap, ◌∙◌, arith}
use Rattle.reading.proofs.{Lines.{formed-is}, Framing.{check-malformed, check-size, check-kind, check-good}}
use Rattle.reading.proofs.frames.frame_check.Goals as goal
use Rattle.reading.proofs.frames.frame_check.Goals.{then-digits-layout-via-then-digits-layout, then-digits-layout-via-else-digits-layout+then-field_of-layout}

half : (digits n : ℕ) → digits ≡ n → n / 2 ≡ digits / 2
half digits n e = ap (λ k. k / 2) (sym e)

pub returns-then-not-well_formed : goal.returns-then-not-well_formed
returns-then-not-well_formed c = record { exact = sym (check-malformed _ _ _ _ _ (sym c.if-not-well_formed.ensures.exact)) }

pub field_of-requires-clause-inside : goal.field_of-requires-clause-inside
field_of-requires-clause-inside c =
    let f = formed-is c.args.line.now 0 (sym c.if-not-well_formed.ensures.exact) in
    omega (arith, f.some, f.even)

pub returns-then-digits-layout : goal.returns-then-digits-layout
returns-then-digits-layout c =
    let f = formed-is c.args.line.now 0 (sym c.if-not-well_formed.ensures.exact) in
    let counted = half _ _ c.digits_ahead-digits.ensures.exact in
    elim c.then-digits-layout.branch [
      | then-digits-layout-via-then-digits-layout w ↦
          record { exact = sym (check-size _ _ _ _ _ _ f counted w.if-digits-layout.true) }
      | then-digits-layout-via-else-digits-layout+then-field_of-layout w ↦
          record {
            exact =
                sym (check-kind _ _ _ _ _ _ f counted w.if-digits-layout.false
                (λ same. w.if-field_of-layout.true (w.field_of.ensures.exact ∙ same)));
          }
    ]

pub returns : goal.returns
returns c =
    let f = formed-is c.args.line.now 0 (sym c.if-not-well_formed.ensures.exact) in
    let counted = half _ _ c.digits_ahead-digits.ensures.exact in
    record {
      exact =
          sym (check-good _ _ _ _ _ _ f counted c.if-digits-layout.false
          (sym c.field_of.ensures.exact ∙ c.if-field_of-layout.false));
    }
