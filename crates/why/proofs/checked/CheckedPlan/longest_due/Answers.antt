-- the largest of a chain is the largest of the definitions
use Rattle.base.proofs.Prelude.{ap, sym, ◌∙◌}
use Rattle.std.specs.Prelude.{unwrap_or}
use Rattle.std.proofs.Common.{rules, tests}
use Rattle.std.proofs.lemmas.Iterator.{YieldsList-from_slice, YieldsList-from_map}
use Rattle.std.proofs.lemmas.Iterator.Adapters.{option_map_id}
use Rattle.std.proofs.lemmas.Iterator.Consumers.{max_from_yields_List}
use Rattle.base.specs.Count.{largest}
use Rattle.rules.specs.{declared.BatteryString.BatteryString, Plan.d_max}
use Rattle.why.proofs.Chains.{largest-reduced}
use Rattle.why.proofs.checked.CheckedPlan.longest_due.Goals as goal

pub returns : goal.returns
unfolding d_max
returns c =
    let due = λ (s : BatteryString). s.d.0 in
    record {
      exact = c.unwrap_or.ensures
          ∙ ap (λ o. unwrap_or o 0) (sym (option_map_id c.max.result) ∙ max_from_yields_List _ c.max.result c.max.ensures.ran
          (YieldsList-from_map _ due (YieldsList-from_slice c.strings.result.now (cc)) c.map.ensures.closure
          (λ x r q k. search (rules, tests))))
          ∙ largest-reduced due c.strings.result.now
          ∙ ap (largest due) c.strings.ensures.exact;
    }
