-- The first passing set of those that are left is the first of all.
use Rattle.base.proofs.Prelude.{ℕ, ◌+◌, ◌^◌, ◌≤◌, ◌<◌, ◌≡◌, sym, ◌∙◌, false, ◌&&◌, List, ◌++◌, arith, eqb-true, eqb-false, ones, eqb}
use Rattle.rules.specs.{declared.Plan.Plan, Search.{set_passes, first_passing}}
use Rattle.base.proofs.Lists.{by_bool, and_left, and_right}
use Rattle.laws.proofs.Powers.{shift-is-sets}
use Rattle.demand.proofs.SetWalk.{sets_from, search_of-rows, walk-row, walk-other, walk-fails, walk-found, walk-row-end, walk_end}
use Rattle.verdict.proofs.ready.ReadyPlan.first_of_all.Goals as goal

-- a set that is no candidate is passed by
passed :
    (p : Plan) (n k m : ℕ) (ms : List ℕ) → m < 2 ^ n → (eqb (ones m) k && set_passes p m) ≡ false
    → first_passing p (sets_from n k m ++ ms) ≡ first_passing p (sets_from n k (m + 1) ++ ms)
passed p n k m ms h fault =
    by_bool (eqb (ones m) k)
    (λ t.
    let fails : set_passes p m ≡ false = rw t at fault in
    walk-fails p n k m ms h (eqb-true (ones m) k t) fails)
    (λ f. walk-other p n k m ms h (eqb-false (ones m) k f))

pub loop-ones-init : goal.loop-ones-init
loop-ones-init c = record { rest = sym (search_of-rows c.args.self.plan) }

pub loop-set-init : goal.loop-set-init
loop-set-init c =
    let p = c.args.self.plan in
    record { rest = sym (walk-row p p.n c.loop-ones.ones 0 (omega arith)) ∙ c.loop-ones.invariant.rest }

pub returns-then-candidate : goal.returns-then-candidate
returns-then-candidate c =
    let p = c.args.self.plan in
    let few = c.args.self.ready.lawful.n_max in
    let k = c.loop-ones.ones in
    let m = c.loop-set.set in
    let found = sym c.candidate.ensures ∙ c.if-candidate.true in
    let below : m < 2 ^ p.n = omega (arith, shift-is-sets p.n few) in
    let counted = eqb-true (ones m) k (and_left (eqb (ones m) k) (set_passes p m) found) in
    sym (walk-found p p.n k m _ below counted (and_right (eqb (ones m) k) (set_passes p m) found)) ∙ c.loop-set.invariant.rest

pub loop-set-preserved : goal.loop-set-preserved
loop-set-preserved c =
    let p = c.args.self.plan in
    let few = c.args.self.ready.lawful.n_max in
    let below : c.loop-set.set < 2 ^ p.n = omega (arith, shift-is-sets p.n few) in
    let fails = sym c.candidate.ensures ∙ c.if-candidate.false in
    record { rest = sym (passed p p.n c.loop-ones.ones c.loop-set.set _ below fails) ∙ c.loop-set.invariant.rest }

pub loop-ones-preserved : goal.loop-ones-preserved
loop-ones-preserved c =
    let p = c.args.self.plan in
    let few = c.args.self.ready.lawful.n_max in
    let past : 2 ^ p.n ≤ c.loop-set.set = omega (arith, shift-is-sets p.n few) in
    record { rest = sym (walk-row-end p p.n c.loop-ones.ones c.loop-set.set _ past) ∙ c.loop-set.invariant.rest }

pub returns : goal.returns
returns c =
    let p = c.args.self.plan in
    sym (walk_end p p.n c.loop-ones.ones 0 (omega arith)) ∙ c.loop-ones.invariant.rest
