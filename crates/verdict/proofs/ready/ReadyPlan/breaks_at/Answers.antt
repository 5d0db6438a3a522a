-- What is added up is the demand, and a plan that passes keeps the rule at every pair.
use Rattle.base.proofs.Prelude.{ℕ, ◌+◌, ◌-◌, ◌≤◌, ◌≡◌, sym, ap, ◌∙◌, arith, ltb}
use Rattle.rules.specs.{declared.Plan.Plan, Demand.{block_limit}}
use Rattle.laws.proofs.{Lawful.LawfulPlan, Demand.block_limit-interval}
use Rattle.std.proofs.lemmas.Grind.{common_steps}
use Rattle.verdict.specs.{Breaks.breaks_at, inner.Asked.asked_by}
use Rattle.verdict.proofs.{Asked.{asked_by-le, demand-parts}, AtPair.{breaks-out, breaks-over, breaks-inside, breaks-no-pass}}
use Rattle.verdict.proofs.ready.ReadyPlan.breaks_at.Goals as goal

-- within the limit the blocking is within the interval, and all that is added up is small
module _ (p : Plan) (l b : ℕ) (ok : LawfulPlan p) (low : 1 ≤ l) (high : l ≤ 101000) (allowed : b ≤ block_limit p l) where
  within : b ≤ l
  within = omega (arith, block_limit-interval p l)

  kept-small : asked_by p 0 l ≤ 2020000000
  kept-small = asked_by-le p 0 l ok high

  took-small : asked_by p 1 (l - b) ≤ 2020000000
  took-small = asked_by-le p 1 (l - b) ok (omega arith)

  said : (sum : ℕ) → sum ≡ b + asked_by p 0 l + asked_by p 1 (l - b) → ltb l sum ≡ breaks_at p l b
  said sum e = ap (ltb l) (e ∙ sym (demand-parts p l b ok)) ∙ sym (breaks-inside p l b low high allowed)

pub overflow_add-result : goal.overflow_add-result
overflow_add-result c =
    let low : 1 ≤ c.args.l = grind (arith, common_steps) in
    let high : c.args.l ≤ 101000 = grind (arith, common_steps) in
    let allowed : c.args.b ≤ block_limit c.args.self.plan c.args.l = omega arith in
    let ok = c.args.self.ready.lawful in
    omega (arith, within _ _ _ ok low high allowed, kept-small _ _ _ ok low high allowed)

pub overflow_sub-l : goal.overflow_sub-l
overflow_sub-l c = omega (arith, block_limit-interval c.args.self.plan c.args.l)

pub overflow_add-result-2 : goal.overflow_add-result-2
overflow_add-result-2 c =
    let low : 1 ≤ c.args.l = grind (arith, common_steps) in
    let high : c.args.l ≤ 101000 = grind (arith, common_steps) in
    let allowed : c.args.b ≤ block_limit c.args.self.plan c.args.l = omega arith in
    let ok = c.args.self.ready.lawful in
    omega (arith, within _ _ _ ok low high allowed, kept-small _ _ _ ok low high allowed, took-small _ _ _ ok low high allowed)

pub returns-then-not-contains-clause-exact : goal.returns-then-not-contains-clause-exact
returns-then-not-contains-clause-exact c =
    sym (breaks-out _ _ _ (λ low high. let out : ⊥ = grind (arith, common_steps) in out))

pub returns-then-limit-b-clause-exact : goal.returns-then-limit-b-clause-exact
returns-then-limit-b-clause-exact c = sym (breaks-over _ _ _ (omega arith))

pub returns-clause-exact : goal.returns-clause-exact
returns-clause-exact c =
    let low : 1 ≤ c.args.l = grind (arith, common_steps) in
    let high : c.args.l ≤ 101000 = grind (arith, common_steps) in
    let allowed : c.args.b ≤ block_limit c.args.self.plan c.args.l = omega arith in
    said _ _ _ c.args.self.ready.lawful low high allowed _ (omega arith)

pub returns-clause-never : goal.returns-clause-never
returns-clause-never c t = breaks-no-pass _ _ _ c.args.self.ready.lawful (sym (returns-clause-exact c) ∙ t)
