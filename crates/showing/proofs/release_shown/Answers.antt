-- The release stands below the count and in the list.
use Rattle.base.proofs.Prelude.{◌≤◌, ◌≡◌, sym, ap, ◌∙◌, arith, length}
use Rattle.std.proofs.lemmas.Grind.{common_steps}
use Rattle.lines.specs.Pages.{page_of}
use Rattle.showing.proofs.InPlace.{release-none, release-there}
use Rattle.showing.proofs.release_shown.Goals as goal

pub returns-then-not-contains : goal.returns-then-not-contains
returns-then-not-contains c =
    let thousand : length c.args.rs.list ≡ 1000 = c.well_formed.0.1.1.1.0.1.0.1 in
    record {
      exact = c.blank.ensures.exact
          ∙ ap page_of (sym (release-none c.args.rs c.args.k (λ low high room. let out : ⊥ = grind (arith, common_steps) in out)));
    }

pub returns : goal.returns
returns c =
    let rs = c.args.rs in
    let k = c.args.k in
    let thousand : length rs.list ≡ 1000 = c.well_formed.0.1.1.1.0.1.0.1 in
    let low : 1 ≤ k = grind (arith, common_steps) in
    let high : k ≤ rs.count = grind (arith, common_steps) in
    let room : k ≤ length rs.list = grind (arith, common_steps) in
    record { exact = c.release_line.ensures.exact ∙ ap page_of (release-there rs k low high room) }
