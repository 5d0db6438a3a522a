use Rattle.std.proofs.Common.{◌∙◌, get_or, arith, rules}
use Rattle.lines.specs.Pages.{text_of}
use Rattle.lines.proofs.{Digits.decimal-64, PlacesText.{places-none, placed}}
use Rattle.lines.proofs.Page.append_places.Goals as goal

pub loop-place-init : goal.loop-place-init
loop-place-init c = record { short = omega arith; so_far = places-none (text_of c.args.self) }

pub append_place-page-requires : goal.append_place-page-requires
append_place-page-requires c = omega (arith, decimal-64 (get_or c.args.places.now c.loop-place.place-index 0) (search rules))

pub loop-place-preserved : goal.loop-place-preserved
loop-place-preserved c =
    let i = c.loop-place.place-index in
    let places = c.args.places.now in
    record {
      short = omega (arith, decimal-64 (get_or places i 0) (search rules));
      so_far = rw c.loop-place.invariant.so_far at c.append_place-page.ensures.exact
          ∙ placed (text_of c.args.self) places i c.loop-place-test.true;
    }
