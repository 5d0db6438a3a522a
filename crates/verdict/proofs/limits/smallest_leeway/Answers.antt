-- The first string is there, and the next one is passed.
use Rattle.base.proofs.Prelude.{refl, ap, arith, drop}
use Rattle.base.specs.Count.{smallest_with}
use Rattle.base.proofs.Lists.{smallest_with-le}
use Rattle.rules.specs.Plan.{strings_of, leeway, leeway_min}
use Rattle.verdict.proofs.StringSums.{strings-count, string-at, walk-same, walk-string, smallest-start, smallest-here, smallest-done}
use Rattle.verdict.proofs.limits.smallest_leeway.Goals as goal

pub leeway_of-least-requires : goal.leeway_of-least-requires
leeway_of-least-requires c = (string-at c.args.p c.requires 0 c.requires.lawful.n_pos).lawful

pub loop-s-init : goal.loop-s-init
unfolding leeway_min
loop-s-init c =
    let p = c.args.p in
    let ready = c.requires in
    let first = c.leeway_of-least.result in
    let whole = smallest-start p ready leeway in
    let same = ap (λ m. smallest_with leeway m (drop 1 (strings_of p))) c.leeway_of-least.ensures in
    let bound = smallest_with-le leeway first (drop 1 (strings_of p)) in
    let next = smallest-here (strings_of p) 0 leeway first (omega (arith, strings-count p ready, ready.lawful.n_pos)) in
    let head = ap leeway (walk-same p ready (strings_of p) refl 0 (omega (arith, strings-count p ready, ready.lawful.n_pos))) in
    record { all = refl; within = omega arith; rest = omega (arith, same, whole, bound, next, head, c.leeway_of-least.ensures) }

pub leeway_of-requires : goal.leeway_of-requires
leeway_of-requires c = (walk-string c.args.p c.requires _ c.loop-s.invariant.all _ c.loop-s-test.true).lawful

pub loop-s-preserved : goal.loop-s-preserved
loop-s-preserved c =
    let next = smallest-here _ _ leeway c.leeway_of-least.result c.loop-s-test.true in
    record { all = c.loop-s.invariant.all; within = omega arith; rest = omega (arith, c.leeway_of.ensures, next) }

pub returns : goal.returns
returns c = omega (arith, smallest-done _ _ leeway c.leeway_of-least.result c.loop-s-test.false)
