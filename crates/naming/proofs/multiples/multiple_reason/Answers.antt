-- the place, and what fits there
use Rattle.base.proofs.Prelude.{ℕ, ◌+◌, ◌-◌, ◌*◌, ◌^◌, ◌≤◌, ◌<◌, ◌≡◌, refl, sym, ap, ◌∙◌, arith, min, set}
use Rattle.std.specs.Prelude.{length}
use Rattle.rules.specs.{declared.Plan.Plan, Text.lines_of}
use Rattle.layouts.specs.inner.Versions.{meant_by}
use Rattle.naming.specs.Periods.{plan_named, multiple_reason}
use Rattle.naming.proofs.Periods.{named-few, named-ten, over-low, none-stands, none-fits, some_fits}
use Rattle.naming.proofs.multiples.multiple_reason.Goals as goal

module _ (p : Plan) (v : _) (lines : _) (is : p ≡ plan_named v lines) where
  few : p.n ≤ 10
  few = omega (arith, ap (λ (p : Plan). p.n) is, named-few v lines)

  ten : length p.strings ≡ 10
  ten = ap (λ (p : Plan). length p.strings) is ∙ named-ten v lines

pub over_place-i-requires : goal.over_place-i-requires
over_place-i-requires c = few _ _ _ c.plan_named-p.ensures.exact

pub returns-then-i-gt10 : goal.returns-then-i-gt10
returns-then-i-gt10 c = record {
  exact = none-stands c.plan_named-p.result c.over_place-i.result (sym c.over_place-i.ensures.exact)
      (ten _ _ _ c.plan_named-p.ensures.exact)
      c.if-i-gt10.true ∙ ap multiple_reason c.plan_named-p.ensures.exact;
}

pub overflow_sub-s : goal.overflow_sub-s
overflow_sub-s c = omega (arith, c.over_place-i.ensures.exact, over-low c.plan_named-p.result)

pub smaller_fit-smaller-requires : goal.smaller_fit-smaller-requires
smaller_fit-smaller-requires c =
    (omega (arith, c.over_place-i.ensures.exact, over-low c.plan_named-p.result), omega arith, ten _ _ _ c.plan_named-p.ensures.exact)

pub returns-then-smaller-eq0 : goal.returns-then-smaller-eq0
returns-then-smaller-eq0 c = record {
  exact = none-fits c.plan_named-p.result c.over_place-i.result (sym c.over_place-i.ensures.exact)
      (sym c.smaller_fit-smaller.ensures.exact ∙ c.if-smaller-eq0.true) ∙ ap multiple_reason c.plan_named-p.ensures.exact;
}

pub returns : goal.returns
returns c = record {
  exact = some_fits c.plan_named-p.result c.over_place-i.result (sym c.over_place-i.ensures.exact) _ c.smaller_fit-smaller.ensures.exact
      c.if-smaller-eq0.false ∙ ap multiple_reason c.plan_named-p.ensures.exact;
}
