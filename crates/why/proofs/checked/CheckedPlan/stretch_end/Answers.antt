-- up to the first that does not break the rule, or to the last of all
use Rattle.base.proofs.Prelude.{ℕ, ◌≤◌, ◌<◌, ◌≡◌, sym, ◌∙◌, arith}
use Rattle.why.proofs.{Stretching.{last-small, end-found, end-last}, Walking.ready}
use Rattle.why.proofs.checked.CheckedPlan.stretch_end.Goals as goal

pub overflow_add-m-end : goal.overflow_add-m-end
overflow_add-m-end c =
    let p = c.args.self.now in
    omega (arith, last-small p.plan (ready p).lawful)

pub loop-m-init : goal.loop-m-init
loop-m-init c = record { until = omega (arith, c.last_interval-last.ensures.exact); passed = λ k low h. absurd (omega arith) }

pub returns-then-not-broken_in : goal.returns-then-not-broken_in
returns-then-not-broken_in c = record {
  exact = end-found c.args.self.now.plan c.args.l c.loop-m.m (omega arith) c.loop-m.invariant.passed (omega arith)
      (sym c.broken_in.ensures.exact ∙ c.if-not-broken_in.true);
}

pub returns : goal.returns
returns c =
    let whole = end-last c.args.self.now.plan c.args.l c.loop-m.m (omega arith) c.loop-m.invariant.passed (omega arith) in
    record { exact = omega arith }
