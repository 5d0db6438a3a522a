use Rattle.std.proofs.Common.{◌≡◌, ◌∙◌, ap, ◌++◌, take, replicate, arith}
use Rattle.lines.specs.{Pages.text_of, Why.padded}
use Rattle.lines.proofs.{Columns.replicate-cut, Growing.text-length}
use Rattle.lines.proofs.Page.pad.Goals as goal

pub returns-clause-exact : goal.returns-clause-exact
unfolding padded
returns-clause-exact c =
    let missing = c.saturating_sub-missing.result in
    let e : text_of c.append.result ≡ text_of c.args.self ++ take missing (replicate 41 32) = c.append.ensures.exact in
    e ∙ ap (λ spaces. text_of c.args.self ++ spaces) (replicate-cut c.saturating_sub-missing.result 41 32 (omega arith)
    ∙ ap (λ k. replicate k 32) (rw text-length c.saturating_sub-missing.ensures))
