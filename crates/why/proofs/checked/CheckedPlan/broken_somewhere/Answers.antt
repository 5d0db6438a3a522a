-- the intervals from 1 to the last
use Rattle.base.proofs.Prelude.{◌≡◌, ◌+◌, ap, ◌∙◌, arith}
use Rattle.std.proofs.Common.{rules, tests}
use Rattle.std.specs.List.{list_any, range_with_len}
use Rattle.std.proofs.lemmas.Iterator.{YieldsList-from_range}
use Rattle.std.proofs.lemmas.Iterator.Search.{any_from_yields_List}
use Rattle.base.specs.Count.{any, up_from}
use Rattle.why.specs.Stairs.{last_interval, broken_in}
use Rattle.why.proofs.{Chains.{any-listed, range-up}, Stretching.last-small, Walking.ready}
use Rattle.why.proofs.checked.CheckedPlan.broken_somewhere.Goals as goal

pub returns : goal.returns
returns c =
    let p = c.args.self.now.plan in
    let last = c.last_interval.result in
    record {
      exact = any_from_yields_List (broken_in p) _ _ c.any.result c.any.ensures.ran
          (YieldsList-from_range 1 (last + 1) last (cc) (omega arith))
          (λ x b q k. search (rules, tests))
          ∙ any-listed (broken_in p) (range_with_len 1 last)
          ∙ ap (any (broken_in p)) (range-up 1 last)
          ∙ ap (λ n. any (broken_in p) (up_from 1 n)) c.last_interval.ensures.exact;
    }

pub overflow_add-last_interval : goal.overflow_add-last_interval
overflow_add-last_interval c =
    let p = c.args.self.now in
    omega (arith, last-small p.plan (ready p).lawful)
