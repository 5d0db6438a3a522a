-- each number of a row is a set of it, or not
use Rattle.base.proofs.Prelude.{◌^◌, ◌≤◌, ◌<◌, arith}
use Rattle.laws.proofs.Powers.{shift-is-sets}
use Rattle.sets.proofs.Ranking.{ahead_start, ahead-out, ahead-found, ahead-in, ahead-row, sets-ahead-end}
use Rattle.sets.proofs.set_in_order.Goals as goal

pub loop-ones-init : goal.loop-ones-init
loop-ones-init c = ahead_start c.args.n c.args.k

pub loop-set-preserved-then-set-ones : goal.loop-set-preserved-then-set-ones
loop-set-preserved-then-set-ones c =
    let below : c.loop-set.set < 2 ^ c.args.n = omega (arith, shift-is-sets c.args.n c.requires.n_bound, c.loop-set-test.true) in
    ahead-out c.loop-set.invariant below c.if-set-ones.true

pub returns-then-left-eq0 : goal.returns-then-left-eq0
returns-then-left-eq0 c =
    let below : c.loop-set.set < 2 ^ c.args.n = omega (arith, shift-is-sets c.args.n c.requires.n_bound, c.loop-set-test.true) in
    record { exact = ahead-found c.loop-set.invariant below c.if-set-ones.false c.if-left-eq0.true }

pub loop-set-preserved : goal.loop-set-preserved
loop-set-preserved c =
    let below : c.loop-set.set < 2 ^ c.args.n = omega (arith, shift-is-sets c.args.n c.requires.n_bound, c.loop-set-test.true) in
    ahead-in c.loop-set.invariant below c.if-set-ones.false c.if-left-eq0.false

pub loop-ones-preserved : goal.loop-ones-preserved
loop-ones-preserved c =
    let past : 2 ^ c.args.n ≤ c.loop-set.set = omega (arith, shift-is-sets c.args.n c.requires.n_bound, c.loop-set-test.false) in
    ahead-row c.loop-set.invariant past (omega arith)

pub returns-2 : goal.returns-2
returns-2 c =
    let past : 2 ^ c.args.n ≤ c.loop-set.set = omega (arith, shift-is-sets c.args.n c.requires.n_bound, c.loop-set-test.false) in
    record { exact = sets-ahead-end c.loop-set.invariant past (omega arith) }
