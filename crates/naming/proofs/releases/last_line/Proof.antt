-- `naming::releases::last_line` meets its contract: no line that is byte-passed has the place.
use Rattle.base.proofs.Prelude.{◌-◌, ◌≤◌, ◌≡◌, refl, sym, ◌∙◌, arith, rules}
use Rattle.base.specs.Divisors.{greatest_to}
use Rattle.rules.specs.Text.{lines_of}
use Rattle.naming.specs.{Lines.line_no, inner.Bytes.{number_at, same_at, last_in}}
use Rattle.naming.proofs.Released.{same_here, same-lower, same_none}
use Rattle.naming.proofs.releases.last_line.Statement.{statement}
use Rattle.naming.proofs.releases.last_line.Tie as tie

abbrev invariant-loop : tie.invariant-loop-j
invariant-loop text n k place j₀ j = (j ≤ k) × (greatest_to (same_at (lines_of text) n place) (j - 1) ≡ last_in (lines_of text) n k place)

abbrev decreases-loop : tie.decreases-loop-j
decreases-loop text n k place j₀ j = j

loop-holds : tie.Need-loop-j-init invariant-loop decreases-loop
unfolding last_in
loop-holds c = (omega arith, refl)

returns : tie.Need-returns-then-field_of-place invariant-loop decreases-loop
returns c =
    let o = c.before.before.before in
    let g = o.args in
    let is : number_at (line_no (lines_of g.text.now) (o.loop-j.j - 1)).bytes 1 1 ≡ g.place = sym c.field_of.ensures.0
    ∙ c.if-field_of-place.true in
    sym (same_here (lines_of g.text.now) g.n g.place (o.loop-j.j - 1) (omega arith) is) ∙ o.loop-j.invariant.1

loop-again : tie.Need-loop-j-preserved invariant-loop decreases-loop
loop-again c =
    let o = c.before.before.before in
    let g = o.args in (
      omega arith,
      sym (same-lower (lines_of g.text.now) g.n g.place (o.loop-j.j - 1) (omega arith)
          (λ e. c.if-field_of-place.false (c.field_of.ensures.0 ∙ e))) ∙ o.loop-j.invariant.1,
    )

returns-2 : tie.Need-returns invariant-loop decreases-loop
returns-2 c =
    let o = c.before in
    let g = o.args in
    sym (same_none (lines_of g.text.now) g.n g.place o.loop-j.j (omega arith)) ∙ o.loop-j.invariant.1

pub last_line_spec : {M : Type 1} → statement M
last_line_spec =
    tie.close (tie.spec
    invariant-loop decreases-loop loop-holds (λ c. omega arith) (λ c. omega arith) (λ c κs. search rules) returns
    (λ c. omega arith) loop-again returns-2)
