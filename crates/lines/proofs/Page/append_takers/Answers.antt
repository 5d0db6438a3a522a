use Rattle.std.proofs.Common.{ℕ, ◌≡◌, ◌∙◌, sym, ap, ◌-◌, arith}
use Rattle.base.specs.Count.{keep, up_from}
use Rattle.lines.specs.{Pages.text_of, Sets.{takers_of}, declared.Page.Page}
use Rattle.lines.proofs.{Digits.decimal-short, PlacesText.places-none, TakersText.{taker-in, taker-out}}
use Rattle.lines.proofs.Page.append_takers.Goals as goal
use Rattle.lines.proofs.Page.append_takers.Goals.{then-in_set, else-in_set}

pub loop-place-init : goal.loop-place-init
unfolding up_from keep
loop-place-init c = record { short = omega arith; so_far = places-none (text_of c.args.self) }

pub append_place-page-requires : goal.append_place-page-requires
append_place-page-requires c = omega (arith, decimal-short 1 c.loop-place.place (omega arith))

pub loop-place-preserved : goal.loop-place-preserved
loop-place-preserved c =
    let i = c.loop-place.place in
    let text = text_of c.args.self in
    let some = c.loop-place.auto.place in
    let len_of : Page → ℕ = λ page. page.len in
    elim c.if-in_set.branch [
      | then-in_set w ↦ record {
        short = omega (arith, ap len_of w.page-is, decimal-short 1 i (omega arith));
        so_far = rw w.page-is (rw c.loop-place.invariant.so_far at w.append_place-page.ensures.exact
            ∙ taker-in c.args.set i some text (sym c.in_set.ensures.exact ∙ w.if-in_set.true));
      }
      | else-in_set w ↦ record {
        short = omega (arith, ap len_of w.page-is);
        so_far = rw w.page-is (c.loop-place.invariant.so_far
            ∙ taker-out c.args.set i some text (sym c.in_set.ensures.exact ∙ w.if-in_set.false));
      }
    ]

pub returns-clause-exact : goal.returns-clause-exact
unfolding takers_of
returns-clause-exact c =
    let all : c.loop-place.place - 1 ≡ 10 = omega arith in
    rw all at c.loop-place.invariant.so_far
