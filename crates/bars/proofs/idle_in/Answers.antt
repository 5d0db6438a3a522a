-- The column at its place, if it has several days.
use Rattle.base.proofs.Prelude.{◌-◌, ◌≤◌, sym, ap, ◌∙◌, arith}
use Rattle.std.proofs.lemmas.Grind.{common_steps}
use Rattle.lines.specs.Pages.{page_of}
use Rattle.bars.proofs.Shortened.{idle-outside, idle-several, idle-one}
use Rattle.bars.proofs.idle_in.Goals as goal

pub returns-then-not-contains : goal.returns-then-not-contains
returns-then-not-contains c =
    record {
      exact = c.blank.ensures.exact
          ∙ ap page_of (sym (idle-outside c.args.drawn c.requires c.args.k (λ low high. let out : ⊥ = grind (arith, common_steps) in out)));
    }

pub returns-then-c-le1 : goal.returns-then-c-le1
returns-then-c-le1 c =
    let low : 1 ≤ c.args.k = grind (arith, common_steps) in
    let high : c.args.k ≤ c.args.drawn.count = grind (arith, common_steps) in
    record {
      exact = c.blank-then-c-le1.ensures.exact
          ∙ ap page_of (sym (idle-one c.args.drawn c.requires c.args.k low high c.if-c-le1.true));
    }

pub last_day-requires : goal.last_day-requires
last_day-requires c =
    let low : 1 ≤ c.args.k = grind (arith, common_steps) in
    let high : c.args.k ≤ c.args.drawn.count = grind (arith, common_steps) in
    c.requires.brief (c.args.k - 1) (omega arith)

pub returns : goal.returns
returns c =
    let low : 1 ≤ c.args.k = grind (arith, common_steps) in
    let high : c.args.k ≤ c.args.drawn.count = grind (arith, common_steps) in
    record {
      exact = rw c.last_day.ensures.exact at c.idle_line.ensures.exact
          ∙ ap page_of (idle-several c.args.drawn c.requires c.args.k low high (omega arith));
    }
