-- the places are tried one after the other
use Rattle.base.proofs.Prelude.{sym, ap, ◌∙◌, arith}
use Rattle.base.specs.Count.{first_of}
use Rattle.std.specs.Prelude.{Some}
use Rattle.tries.specs.Tries.{by_interval, stopped_tries, misses_on}
use Rattle.tries.proofs.Searching.{tries-left-next, left-none, left-last, finds-as, finds_here}
use Rattle.tries.proofs.search.stopped.Goals as goal

pub returns-in-Some : goal.returns-in-Some
unfolding stopped_tries
returns-in-Some c =
    let opened = ap (λ try. first_of (misses_on c.args.p) (by_interval c.args.p try)) c.stopping.ensures.opens in
    finds_here c.loop-v.invariant c.loop-v-test.true _ (finds-as (Some c.in-Some.found) _ _ opened c.in-Some.ensures)

pub loop-v-preserved : goal.loop-v-preserved
loop-v-preserved c =
    let opened = ap (λ try. first_of (misses_on c.args.p) (by_interval c.args.p try)) c.stopping.ensures.opens in
    tries-left-next c.loop-v.invariant c.loop-v-test.true (sym opened ∙ c.in_default.ensures)

pub returns : goal.returns
unfolding stopped_tries
returns c = left-none c.loop-v.invariant c.loop-v-test.false

pub returns-in_default : goal.returns-in_default
unfolding stopped_tries
returns-in_default c =
    let opened = ap (λ try. first_of (misses_on c.args.p) (by_interval c.args.p try)) c.stopping.ensures.opens in
    left-last c.loop-v.invariant c.loop-v-test.true (omega arith) (sym opened ∙ c.in_default.ensures)
