-- `naming::said::line_start` meets its contract: the line that is left to be found from here is the one asked for.
use Rattle.base.proofs.Prelude.{ℕ, ◌-◌, ◌≤◌, ◌≡◌, refl, sym, ◌∙◌, List, arith, rules, length, get_or, drop}
use Rattle.rules.specs.Text.{lines_of}
use Rattle.naming.specs.Lines.{line_no}
use Rattle.naming.proofs.LineBytes.{past-none, past-byte, first-line, ends-most}
use Rattle.naming.proofs.said.line_start.Statement.{statement}
use Rattle.naming.proofs.said.line_start.Tie as tie

abbrev invariant-loop : tie.invariant-loop-left
invariant-loop text k at₀ left₀ at left = (at ≤ length text) × (line_no (lines_of (drop at text)) left ≡ line_no (lines_of text) k)

abbrev decreases-loop : tie.decreases-loop-left
decreases-loop text k at₀ left₀ at left = length text - at

abbrev text_of : tie.At-loop-left invariant-loop decreases-loop → List ℕ
text_of o = o.args.text.now

returns : tie.Need-returns-then-text-at invariant-loop decreases-loop
returns c =
    let o = c.before.before in
    let none = past-none (text_of o) o.loop-left.at in
    (none 1 (omega arith) ∙ sym (none o.loop-left.left (omega arith)) ∙ o.loop-left.invariant.1, omega arith)

loop-again : tie.Need-loop-left-preserved invariant-loop decreases-loop
loop-again c =
    let o = c.before.before.before.before in
    let next = past-byte (text_of o) o.loop-left.at o.loop-left.left (omega arith) (omega arith) in
    (omega arith, rw c.ends-left.ensures (sym next ∙ o.loop-left.invariant.1))

returns-2 : tie.Need-returns invariant-loop decreases-loop
returns-2 c =
    let o = c.before in
    (sym (first-line (lines_of (drop o.loop-left.at (text_of o))) o.loop-left.left (omega arith)) ∙ o.loop-left.invariant.1, omega arith)

pub line_start_spec : {M : Type 1} → statement M
line_start_spec =
    tie.close (tie.spec
    invariant-loop decreases-loop (λ c. (omega arith, refl)) returns (λ c. omega arith) (λ c κs. search rules)
    (λ c.
    let o = c.before.before.before.before in
    omega (arith, c.ends-left.ensures, ends-most (get_or (text_of o) o.loop-left.at 0))) (λ c. omega arith)
    (λ c. omega arith) loop-again returns-2)
