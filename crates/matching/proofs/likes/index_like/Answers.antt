-- the index is the chain's item of that number
use Rattle.std.proofs.Common.{rules, tests, ◌≡◌, ◌∙◌, sym, arith, length, get_or}
use Rattle.std.specs.List.{slice_get}
use Rattle.std.proofs.lemmas.Iterator.{YieldsList-from_range}
use Rattle.std.proofs.lemmas.Iterator.Adapters.{option_map_id}
use Rattle.std.proofs.lemmas.Iterator.Consumers.{YieldsList-from_filter, nth_from_yields_List}
use Rattle.rules.specs.Plan.{no_string}
use Rattle.results.specs.Partners.{alike}
use Rattle.matching.proofs.LikeStrings.{likes_in, like-inside}
use Rattle.matching.proofs.likes.index_like.Goals as goal

pub returns : goal.returns
returns c =
    let ys = c.args.strings.now in
    let is : c.nth.result ≡ slice_get (likes_in c.args.s ys) c.args.ahead =
    sym (option_map_id c.nth.result) ∙ nth_from_yields_List _ _ _ c.nth.ensures.ran
    (YieldsList-from_filter _ (λ i. alike c.args.s (get_or ys i no_string))
    (YieldsList-from_range 0 (length ys) (length ys) (cc) (omega arith))
    c.filter.ensures.closure (λ x b q k. search (rules, tests))) in
    record { exact = is; inside = rw is (like-inside c.args.s ys c.args.ahead) }
