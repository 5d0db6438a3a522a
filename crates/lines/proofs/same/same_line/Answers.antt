use Rattle.std.proofs.Common.{◌≡◌, ◌∙◌, ap, take, length, rules}
use Rattle.rules.specs.Lines.{bytes_of}
use Rattle.lines.specs.Same.{same_line}
use Rattle.lines.proofs.{Growing.page_is, PlacesText.lines_take_min}
use Rattle.lines.proofs.same.same_line.Goals as goal

pub returns : goal.returns
unfolding bytes_of same_line
returns c =
    let ten : length c.args.places ≡ 10 = search rules in
    let few : take c.min.result c.args.places ≡ take c.args.count c.args.places =
    ap (λ k. take k c.args.places) c.min.ensures ∙ lines_take_min c.args.count 10 c.args.places ten in
    record {
      exact = page_is _ _
          (rw (c.append_places.ensures.exact, c.append.ensures.exact, c.blank.ensures.empty, few) at c.append-2.ensures.exact);
    }
