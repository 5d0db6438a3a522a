-- the blockings from 0 to the limit
use Rattle.base.proofs.Prelude.{◌+◌, suc, ap, sym, ◌∙◌, arith, add-one}
use Rattle.std.specs.Prelude.{unwrap_or}
use Rattle.std.specs.List.{range_with_len}
use Rattle.std.proofs.Common.{rules, tests}
use Rattle.std.proofs.lemmas.Iterator.{YieldsList-from_range, YieldsList-from_map}
use Rattle.std.proofs.lemmas.Iterator.Adapters.{option_map_id}
use Rattle.std.proofs.lemmas.Iterator.Consumers.{max_from_yields_List}
use Rattle.base.specs.Count.{largest, up_from}
use Rattle.rules.specs.Demand.{demand}
use Rattle.verdict.proofs.Blocking.{block_limit-short}
use Rattle.why.specs.Stairs.{top_demand}
use Rattle.why.proofs.{Chains.{largest-reduced, range-up}, Walking.ready}
use Rattle.why.proofs.checked.CheckedPlan.top_demand.Goals as goal

pub overflow_add-limit_at : goal.overflow_add-limit_at
overflow_add-limit_at c =
    let p = c.args.self.now in
    omega (arith, block_limit-short p.plan c.args.l (ready p).lawful)

pub returns : goal.returns
unfolding top_demand
returns c =
    let f = demand c.args.self.now.plan c.args.l in
    let limit = c.limit_at.result in
    record {
      exact = c.unwrap_or.ensures
          ∙ ap (λ o. unwrap_or o 0) (sym (option_map_id c.max.result) ∙ max_from_yields_List _ c.max.result c.max.ensures.ran
          (YieldsList-from_map _ f (YieldsList-from_range 0 (limit + 1) (limit + 1) (cc) (omega arith)) c.map.ensures.closure
          (λ x r q k. search (rules, tests))))
          ∙ largest-reduced f (range_with_len 0 (limit + 1))
          ∙ ap (largest f) (range-up 0 (limit + 1))
          ∙ ap (λ n. largest f (up_from 0 n)) (add-one limit ∙ ap suc c.limit_at.ensures.exact);
    }
