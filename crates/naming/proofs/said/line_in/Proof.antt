-- `naming::said::line_in` meets its contract: from the line's start to its end.
use Rattle.base.proofs.Prelude.{◌-◌, ◌≡◌, ap, ◌∙◌, arith, rules, length, drop}
use Rattle.rules.specs.Text.{Line}
use Rattle.naming.specs.inner.Bytes.{head_bytes}
use Rattle.naming.proofs.LineBytes.{line-whole}
use Rattle.naming.proofs.said.line_in.Statement.{statement}
use Rattle.naming.proofs.said.line_in.Tie as tie

returns : tie.Need-returns
unfolding head_bytes
returns c =
    let end = c.before in
    let from = end.before in
    let text = from.args.text.now in
    let at = from.line_start-start.result in
    let long : end.line_end-end.result - at ≡ length (head_bytes (drop at text)) = omega (arith, end.line_end-end.ensures.0) in
    rw long (line-whole text at) ∙ ap (λ (l : Line). l.bytes) from.line_start-start.ensures.0

pub line_in_spec : {M : Type 1} → statement M
line_in_spec =
    tie.close (tie.spec
    (λ c κs. search rules) (λ c κs. c.line_start-start.ensures.1) (λ c. omega (arith, c.line_end-end.ensures.0))
    (λ c. search rules) (λ c. c.line_end-end.ensures.1) returns)
