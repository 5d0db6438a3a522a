-- each string has its partner, or is the first that is alone
use Rattle.base.proofs.Prelude.{ℕ, ◌≤◌, ◌≡◌, min, ap, ◌∙◌, arith, length, take, length-take}
use mathlib.Core.Path.{ap₂}
use Rattle.rules.specs.{declared.Plan.Plan, Plan.strings_of}
use Rattle.bounds.proofs.ByPlace.{take_min}
use Rattle.matching.specs.Matched.{matched_of}
use Rattle.matching.proofs.Passed.{passed-none, passed-next, passed-alone, passed-all, told-counts}
use Rattle.matching.proofs.same_strings.Goals as goal

-- the strings that count, as the code takes them
module _ (p : Plan) (n : ℕ) (few : n ≡ min p.n 10) (ten : length p.strings ≡ 10) where
  counted : take n p.strings ≡ strings_of p
  counted = ap (λ k. take k p.strings) few ∙ take_min p.n 10 p.strings ten

  short : length (take n p.strings) ≤ 10
  short = omega (arith, length-take n p.strings)

pub returns-then-count-seconds : goal.returns-then-count-seconds
returns-then-count-seconds c = record {
  exact = c.unmatched.ensures.exact ∙ told-counts _ _ c.if-count-seconds.true
      ∙ ap₂ matched_of (counted c.args.p _ c.min.ensures c.well_formed.0.1.1.1.1.0.1.0.1)
      (counted c.args.q _ c.min-2.ensures c.well_formed.1.0.1.1.1.1.0.1.0.1);
}

pub loop-i-init : goal.loop-i-init
loop-i-init c = passed-none c.if-count-seconds.false (short c.args.p _ c.min.ensures c.well_formed.0.1.1.1.1.0.1.0.1)

pub returns-in_default : goal.returns-in_default
returns-in_default c = record {
  exact = c.unmatched-in_default.ensures.exact ∙ passed-alone c.loop-i.invariant c.loop-i-test.true (cc)
      ∙ ap₂ matched_of (counted c.args.p _ c.min.ensures c.well_formed.0.1.1.1.1.0.1.0.1)
      (counted c.args.q _ c.min-2.ensures c.well_formed.1.0.1.1.1.1.0.1.0.1);
}

pub loop-i-preserved : goal.loop-i-preserved
loop-i-preserved c = passed-next c.loop-i.invariant c.in-Some.index c.loop-i-test.true (cc)

pub returns : goal.returns
returns c = record {
  exact = passed-all c.loop-i.invariant c.loop-i-test.false
      ∙ ap₂ matched_of (counted c.args.p _ c.min.ensures c.well_formed.0.1.1.1.1.0.1.0.1)
      (counted c.args.q _ c.min-2.ensures c.well_formed.1.0.1.1.1.1.0.1.0.1);
}
