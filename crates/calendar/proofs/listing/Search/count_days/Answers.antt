-- The days of all years are those of the years from the first day's to the last day's.
use Rattle.base.proofs.Prelude.{◌+◌, ◌-◌, refl, sym, ap, ◌∙◌, rules, length}
use Rattle.std.proofs.lemmas.Iterator.{YieldsList-from_range}
use Rattle.std.proofs.lemmas.Iterator.Consumers.{YieldsList-from_filter_map, count_from_yields_List}
use Rattle.calendar.specs.inner.Places.{fall_of}
use Rattle.calendar.proofs.YearByYear.{all-falls}
use Rattle.calendar.proofs.listing.Search.count_days.Goals as goal

pub returns : goal.returns
returns c =
    let g = c.args.self in
    let first = c.in_year.result.whole in
    let end = c.in_year-2.result.whole in
    let fall = fall_of g.test.edition g.test.on g.first g.last in
    let all = all-falls g.test.edition g.test.on g.first g.last _ _ _ _ c.in_year.ensures.placed c.in_year-2.ensures.placed in
    let counted = count_from_yields_List c.filter_map.result c.count.result c.count.ensures.ran
    (YieldsList-from_filter_map _ fall (YieldsList-from_range first (end + 1) (end + 1 - first) c.filter_map.ensures.source refl)
    c.filter_map.ensures.closure (λ x r q k. search rules)) in
    record { exact = counted ∙ ap length (sym all) }
