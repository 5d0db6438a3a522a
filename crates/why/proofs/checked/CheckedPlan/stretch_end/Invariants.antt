-- all that are passed break the rule
use Rattle.base.proofs.Prelude.{ℕ, ◌+◌, ◌≤◌, ◌<◌, ◌≡◌, true}
use Rattle.why.specs.Stairs.{last_interval, broken_in}
use Rattle.why.proofs.checked.CheckedPlan.stretch_end.Given as goal

abbrev pub invariant-loop-m : goal.invariant-loop-m
invariant-loop-m l = record {
  until : l.m-end ≡ last_interval l.self.plan + 1;
  passed : (k : ℕ) → l.fn.l ≤ k → k < l.m → broken_in l.self.plan k ≡ true;
}
