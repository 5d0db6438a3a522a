-- The string and its limits stand at one place.
use Rattle.base.proofs.Prelude.{◌≤◌, sym, ap, ◌∙◌, arith, length}
use Rattle.std.proofs.lemmas.Grind.{common_steps}
use Rattle.lines.specs.Pages.{page_of}
use Rattle.slack.proofs.InItsPlace.{words-none, words-there}
use Rattle.slack.proofs.shown.shown_in.Goals as goal

pub returns-then-not-contains : goal.returns-then-not-contains
returns-then-not-contains c = record {
  exact = c.blank.ensures.exact
      ∙ ap page_of (sym (words-none c.args.p c.args.place (λ low high room. let out : ⊥ = grind (arith, common_steps) in out)));
}

pub returns : goal.returns
returns c =
    let p = c.args.p in
    let place = c.args.place in
    let low : 1 ≤ place = grind (arith, common_steps) in
    let high : place ≤ p.n = grind (arith, common_steps) in
    let room : place ≤ length p.strings = grind (arith, common_steps) in
    record { exact = c.limits_line.ensures.exact ∙ ap page_of (words-there p place low high room _ c.limits_of.ensures) }
