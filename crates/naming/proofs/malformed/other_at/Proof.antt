-- `naming::malformed::other_at` meets its contract: all that are byte-passed are digits.
use Rattle.base.proofs.Prelude.{ℕ, ◌-◌, ◌≤◌, ◌≡◌, sym, ◌∙◌, List, arith, rules, length}
use Rattle.naming.specs.Malformed.{other_at}
use Rattle.naming.proofs.Searches.{other_from, no-digit-here, other-next, other-end, other-whole}
use Rattle.naming.proofs.malformed.other_at.Statement.{statement}
use Rattle.naming.proofs.malformed.other_at.Tie as tie

abbrev invariant-loop : tie.invariant-loop-i
invariant-loop line i₀ i = (i ≤ length line) × (other_from line i ≡ other_at line)

abbrev decreases-loop : tie.decreases-loop-i
decreases-loop line i₀ i = length line - i

abbrev line_of : tie.At-loop-i invariant-loop decreases-loop → List ℕ
line_of o = o.args.line.now

returns : tie.Need-returns-then-digit-ge16 invariant-loop decreases-loop
returns c =
    let o = c.before.before.before.before in
    sym (no-digit-here (line_of o) o.loop-i.i (omega arith) (omega (arith, c.digit.ensures))) ∙ o.loop-i.invariant.1

loop-again : tie.Need-loop-i-preserved invariant-loop decreases-loop
loop-again c =
    let o = c.before.before.before.before in
    (omega arith, sym (other-next (line_of o) o.loop-i.i (omega arith) (omega (arith, c.digit.ensures))) ∙ o.loop-i.invariant.1)

returns-2 : tie.Need-returns invariant-loop decreases-loop
returns-2 c =
    let o = c.before in
    sym (other-end (line_of o) o.loop-i.i (omega arith)) ∙ o.loop-i.invariant.1

pub other_at_spec : {M : Type 1} → statement M
other_at_spec =
    tie.close (tie.spec
    invariant-loop decreases-loop (λ c. (omega arith, other-whole _)) (λ c. omega arith) (λ c κs. search rules) returns
    (λ c. omega arith) (λ c. omega arith) loop-again returns-2)
