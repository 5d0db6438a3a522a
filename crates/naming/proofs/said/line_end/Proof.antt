-- `naming::said::line_end` meets its contract: the bytes byte-passed and those ahead are the line.
use Rattle.base.proofs.Prelude.{ℕ, ◌+◌, ◌-◌, ◌≤◌, ◌≡◌, refl, List, arith, length, drop}
use Rattle.naming.specs.inner.Bytes.{head_bytes}
use Rattle.naming.proofs.LineBytes.{here-ends, here-more, here-none}
use Rattle.naming.proofs.said.line_end.Statement.{statement}
use Rattle.naming.proofs.said.line_end.Tie as tie

abbrev invariant-loop : tie.invariant-loop-end
invariant-loop text at end₀ end =
    (end ≤ length text) × (end + length (head_bytes (drop end text)) ≡ at + length (head_bytes (drop at text)))

abbrev decreases-loop : tie.decreases-loop-end
decreases-loop text at end₀ end = length text - end

abbrev text_of : tie.At-loop-end invariant-loop decreases-loop → List ℕ
text_of o = o.args.text.now

returns : tie.Need-returns-then-b-eq10 invariant-loop decreases-loop
returns c =
    let o = c.before.before.before in
    (omega (arith, o.loop-end.invariant.1, here-ends (text_of o) o.loop-end.end (omega arith) c.if-b-eq10.true), omega arith)

loop-again : tie.Need-loop-end-preserved invariant-loop decreases-loop
loop-again c =
    let o = c.before.before.before in
    (omega arith, omega (arith, o.loop-end.invariant.1, here-more (text_of o) o.loop-end.end (omega arith) c.if-b-eq10.false))

returns-2 : tie.Need-returns invariant-loop decreases-loop
returns-2 c =
    let o = c.before in
    (omega (arith, o.loop-end.invariant.1, here-none (text_of o) o.loop-end.end (omega arith)), omega arith)

pub line_end_spec : {M : Type 1} → statement M
line_end_spec =
    tie.close (tie.spec
    invariant-loop decreases-loop (λ c. (omega arith, refl)) (λ c. omega arith) returns (λ c. omega arith)
    (λ c. omega arith) loop-again returns-2)
