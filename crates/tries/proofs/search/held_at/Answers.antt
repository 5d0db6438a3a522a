-- the places are tried one after the other
use Rattle.base.proofs.Prelude.{[], ◌∷◌, sym, ap, ◌∙◌, arith}
use Rattle.base.specs.Count.{first_of, up_from}
use Rattle.std.specs.Prelude.{Some}
use Rattle.tries.specs.Tries.{stopped_try, misses_on}
use Rattle.tries.proofs.Searching.{mapped, tries-left-next, left-none, left-last, finds-as, finds_here}
use Rattle.tries.proofs.search.held_at.Goals as goal

pub returns-in-Some : goal.returns-in-Some
returns-in-Some c =
    let p = c.args.p in
    let opened = ap (λ try. first_of (misses_on p) (try c.args.l ∷ [])) c.stopping.ensures.opens in
    let all = ap (first_of (misses_on p)) (sym (mapped (λ v. stopped_try p c.args.b v c.args.l) (up_from 1 p.n))) in
    finds-as (Some c.in-Some.found) _ _ all
    (finds_here c.loop-v.invariant c.loop-v-test.true _ (finds-as (Some c.in-Some.found) _ _ opened c.in-Some.ensures))

pub loop-v-preserved : goal.loop-v-preserved
loop-v-preserved c =
    let opened = ap (λ try. first_of (misses_on c.args.p) (try c.args.l ∷ [])) c.stopping.ensures.opens in
    tries-left-next c.loop-v.invariant c.loop-v-test.true (sym opened ∙ c.in_default.ensures)

pub returns : goal.returns
returns c =
    let p = c.args.p in
    let all = ap (first_of (misses_on p)) (mapped (λ v. stopped_try p c.args.b v c.args.l) (up_from 1 p.n)) in
    all ∙ left-none c.loop-v.invariant c.loop-v-test.false

pub returns-in_default : goal.returns-in_default
returns-in_default c =
    let p = c.args.p in
    let opened = ap (λ try. first_of (misses_on p) (try c.args.l ∷ [])) c.stopping.ensures.opens in
    let all = ap (first_of (misses_on p)) (mapped (λ v. stopped_try p c.args.b v c.args.l) (up_from 1 p.n)) in
    all ∙ left-last c.loop-v.invariant c.loop-v-test.true (omega arith) (sym opened ∙ c.in_default.ensures)
