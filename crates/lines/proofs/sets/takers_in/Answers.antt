use Rattle.std.proofs.Common.{◌∙◌, ap, refl, length, rules}
use Rattle.std.proofs.lemmas.Iterator.{YieldsList-from_range}
use Rattle.std.proofs.lemmas.Iterator.Consumers.{YieldsList-from_filter, count_from_yields_List}
use Rattle.lines.specs.Sets.{in_set}
use Rattle.lines.proofs.TakersText.{takers_filtered}
use Rattle.lines.proofs.sets.takers_in.Goals as goal

pub returns : goal.returns
returns c =
    let counted = count_from_yields_List c.filter.result c.count.result c.count.ensures.ran
    (YieldsList-from_filter _ (in_set c.args.set) (YieldsList-from_range 1 11 10 c.filter.ensures.source refl)
    c.filter.ensures.closure (λ x r q k. search rules)) in
    record { exact = counted ∙ ap length (takers_filtered c.args.set) }
