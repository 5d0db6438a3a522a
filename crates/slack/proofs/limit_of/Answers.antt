-- The first of the lawful values with which the plan passes is the limit.
use Rattle.base.proofs.Prelude.{ℕ, ◌≤◌, ◌≡◌, sym, ◌∙◌, arith, length}
use Rattle.std.proofs.lemmas.Grind.{common_steps}
use Rattle.faults.specs.Checks.{Lawful}
use Rattle.rules.specs.{declared.Plan.Plan, Refusal.plan_check}
use Rattle.laws.proofs.Lawful.{plan_check-lawful}
use Rattle.slack.specs.inner.Values.{HasPlace}
use Rattle.slack.proofs.Limited.{limit-lawful, limit-out}
use Rattle.slack.proofs.limit_of.Goals as goal

-- the place is one of the plan's, which has at most ten
placed : (p : Plan) (i : ℕ) → plan_check p ≡ Lawful → length p.strings ≡ 10 → 1 ≤ i → i ≤ p.n → HasPlace p i
placed p i ok ten low high = record { low = low; high = high; few = (plan_check-lawful p ok).n_max; ten = ten }

pub returns-then-not-contains : goal.returns-then-not-contains
returns-then-not-contains c = record { exact = sym (limit-out _ _ _ (λ low high. let out : ⊥ = grind (arith, common_steps) in out)) }

pub lawful_values-values-requires-clause-has_place : goal.lawful_values-values-requires-clause-has_place
lawful_values-values-requires-clause-has_place c =
    placed c.args.p c.args.place c.requires.p_value c.requires.strings_len (grind (arith, common_steps)) (grind (arith, common_steps))

pub offset_bounds-p-place : goal.offset_bounds-p-place
offset_bounds-p-place c =
    let few = (plan_check-lawful c.args.p c.requires.p_value).n_max in
    let high : c.args.place ≤ c.args.p.n = grind (arith, common_steps) in
    omega arith

pub bounds-p-place : goal.bounds-p-place
bounds-p-place c =
    let few = (plan_check-lawful c.args.p c.requires.p_value).n_max in
    let low : 1 ≤ c.args.place = grind (arith, common_steps) in
    let high : c.args.place ≤ c.args.p.n = grind (arith, common_steps) in
    omega arith

pub halved-requires-clause-has_place : goal.halved-requires-clause-has_place
halved-requires-clause-has_place c =
    placed c.args.p c.args.place c.requires.p_value c.requires.strings_len (grind (arith, common_steps)) (grind (arith, common_steps))

pub walked-requires-clause-has_place : goal.walked-requires-clause-has_place
walked-requires-clause-has_place c =
    placed c.args.p c.args.place c.requires.p_value c.requires.strings_len (grind (arith, common_steps)) (grind (arith, common_steps))

pub returns-then-is_gapless : goal.returns-then-is_gapless
returns-then-is_gapless c = record {
  exact = c.halved.ensures ∙ limit-lawful _ _ _ (grind (arith, common_steps)) (grind (arith, common_steps));
}

pub returns-else-is_gapless : goal.returns-else-is_gapless
returns-else-is_gapless c = record {
  exact = c.walked.ensures ∙ limit-lawful _ _ _ (grind (arith, common_steps)) (grind (arith, common_steps));
}
