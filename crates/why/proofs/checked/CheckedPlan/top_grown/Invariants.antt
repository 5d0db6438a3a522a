-- what is found so far, with the blockings that are left, is what all of them give
use Rattle.base.proofs.Prelude.{ℕ, suc, ◌+◌, ◌-◌, max, ◌≡◌, Bool, ◌||◌, ltb}
use Rattle.base.specs.Count.{largest, any, up_from}
use Rattle.rules.specs.{declared.Plan.Plan, Demand.{block_limit, demand}}
use Rattle.why.specs.Stairs.{top_demand, grows_in}
use Rattle.why.proofs.checked.CheckedPlan.top_grown.Given as goal

-- whether a demand grows with its blocking held
abbrev pub grown : Plan → ℕ → ℕ → Bool
grown p l b = ltb (demand p (l - 1) b) (demand p l b)

abbrev pub invariant-loop-b : goal.invariant-loop-b
invariant-loop-b l = record {
  until : l.b-end ≡ block_limit l.self.plan l.l + 1;
  top : max l.top (largest (demand l.self.plan l.l) (up_from l.b (suc (block_limit l.self.plan l.l) - l.b))) ≡ top_demand l.self.plan l.l;
  grows : (l.grows || any (grown l.self.plan l.l) (up_from l.b (suc (block_limit l.self.plan l.l) - l.b))) ≡ grows_in l.self.plan l.l;
}
