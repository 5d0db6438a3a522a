-- The string and its E stand at one place.
use Rattle.base.proofs.Prelude.{◌-◌, ◌≤◌, ◌≡◌, sym, ap, ◌∙◌, arith, length, get_or}
use Rattle.std.proofs.lemmas.Grind.{common_steps}
use Rattle.rules.specs.Plan.{no_string}
use Rattle.lines.specs.{Pages.page_of, Shown.string_line}
use Rattle.showing.proofs.InPlace.{string-none, string-there}
use Rattle.showing.proofs.string_in.Goals as goal

pub returns-then-not-contains : goal.returns-then-not-contains
returns-then-not-contains c =
    let ten : length c.args.p.strings ≡ 10 = c.well_formed.0.1.1.1.1.0.1.0.1 in
    record {
      exact = c.blank.ensures.exact
          ∙ ap page_of (sym (string-none c.args.p c.args.place
          (λ low high room. let out : ⊥ = grind (arith, common_steps) in out)));
    }

pub returns : goal.returns
returns c =
    let p = c.args.p in
    let place = c.args.place in
    let ten : length p.strings ≡ 10 = c.well_formed.0.1.1.1.1.0.1.0.1 in
    let low : 1 ≤ place = grind (arith, common_steps) in
    let high : place ≤ p.n = grind (arith, common_steps) in
    let room : place ≤ length p.strings = grind (arith, common_steps) in
    record {
      exact = c.string_line.ensures.exact
          ∙ ap page_of
          (ap (λ holds. string_line place (get_or p.strings (place - 1) no_string) (get_or holds (place - 1) 0)) c.requires
          ∙ string-there p place low high room);
    }
